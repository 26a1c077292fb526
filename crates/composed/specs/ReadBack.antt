-- Read back (RESULT-5, READCLEAN-5): from All layers' output Read layer i gives what Cut gives at height i, and in the clean profile what Clean
-- gives of that.
use Rattle.std.specs.Prelude.{ℕ, ◌*◌, ◌<◌, ◌≤◌, ◌≡◌, List, length, get_or, take, drop, ℤ, pos, Result}
use Rattle.mesh.specs.Meshes.{OrderedMesh}
use Rattle.mesh.specs.Operation.{gives}
use Rattle.polygons.specs.Flat.{FlatLayer, flat}
use Rattle.cleaning.specs.declared.Profile.{Profile}
use Rattle.cleaning.specs.declared.Profile.TheVariants.{Full, Clean}
use Rattle.mesh.specs.declared.Refusal.{Refusal}
use Rattle.polygons.specs.declared.LayerCounts.{LayerCounts}
use Rattle.read_layer.specs.declared.LayerRead.{LayerRead}
use Rattle.clean.specs.Clean.{tell_clean, Cleans}
use Rattle.clean_layers.specs.Layers.{layer_front}
use Rattle.read_layer.specs.Reading.{tell_read_layer, ReadsLayer}
use Rattle.cut.specs.Cut.{CutTables, tell_cut, Cuts}
use Rattle.all_heights.specs.Heights.{heights_taken}
use Rattle.all_heights.specs.Taking.{Words}
use Rattle.all_sweep.specs.AllLayers.{WorkTables, tell_all_layers, Files}

-- Read layer said the count of layers, the height and the counts j and k, and left in front of its tables u the points and ends of so many in front of
-- others, t; what was behind them stays
pub record ReadsSame (layers : ℕ) (h : ℤ) (j k : ℕ) (t u : FlatLayer) (result : Result LayerRead Refusal) (u' : FlatLayer) : Type 0 where
  pub says : tell_read_layer result ≡ gives (layers, h, j, k)
  pub front : layer_front (j, k) u' ≡ layer_front (j, k) t
  pub points_stay : drop (2 * k) u'.points ≡ drop (2 * k) u.points
  pub ends_stay : drop j u'.ends ≡ drop j u.ends

-- points and ends in Cut's tables
abbrev pub layer_left : CutTables → FlatLayer
layer_left t = flat t.points t.ends

-- Cut at h, not refused, gave j contours and k points, and left them in t
pub record MadeByCut (m : OrderedMesh) (h : ℤ) (t : FlatLayer) (j k : ℕ) : Type 0 where
  pub lent : CutTables
  pub answer : Result LayerCounts Refusal
  pub left : CutTables
  pub cuts : Cuts m.paired h lent answer left
  pub told : tell_cut answer ≡ gives (j, k)
  pub there : t ≡ layer_left left

-- Clean of what Cut gave so, not refused, gave j contours and k points, and left them in t
pub record MadeByClean (m : OrderedMesh) (h : ℤ) (t : FlatLayer) (j k : ℕ) : Type 0 where
  pub cut : FlatLayer
  pub counts : ℕ × ℕ
  pub made : MadeByCut m h cut counts.0 counts.1
  pub lent : FlatLayer
  pub answer : Result LayerCounts Refusal
  pub cleans : Cleans (layer_front counts cut) lent answer t
  pub told : tell_clean answer ≡ gives (j, k)

-- in the profile: by Cut, or by Cut and Clean
abbrev pub MadeIn : Profile → OrderedMesh → ℤ → FlatLayer → ℕ → ℕ → Type 0
MadeIn Full = MadeByCut
MadeIn Clean = MadeByClean

-- All layers in a profile, not refused, gave n bytes of heights of 32 bits; j contours and k points of height i were made, in t.
-- From these n bytes Read layer i in the profile, with room for so many, reads them. Cut is not refused where it has room (`cut` of
-- FileOfCuts, demand_three/FileClaim).
abbrev pub ReadBack : Type 0
ReadBack =
    (p : Profile) (m : OrderedMesh) (heights : List ℤ) (w w' : WorkTables) (output output' : List ℕ) (filed : Result ℕ Refusal) (n : ℕ) → Words heights
    → Files p m heights w output filed w' output' → tell_all_layers filed ≡ gives n
    → (i : ℕ) → i < length (heights_taken m.paired.mesh.coords heights)
    → (t : FlatLayer) (j k : ℕ) → MadeIn p m (get_or (heights_taken m.paired.mesh.coords heights) i (pos 0)) t j k
    → (u u' : FlatLayer) (result : Result LayerRead Refusal) → 2 * k ≤ length u.points → j ≤ length u.ends → ReadsLayer p (take n output') i u result u'
    → ReadsSame (length (heights_taken m.paired.mesh.coords heights)) (get_or (heights_taken m.paired.mesh.coords heights) i (pos 0)) j k t u result u'

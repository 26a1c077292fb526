-- Nesting of what Cut, Clean or Read layer gave (NEST-12): where the tables have an entry for each contour nothing refuses it, and they
-- hold depth and parent of each; a contour that no other holds has depth 0 and no parent.
use Rattle.std.specs.Prelude.{ℕ, ◌<◌, ◌≤◌, ◌≡◌, false, List, [], ◌∷◌, length, get_or, ℤ, Result}
use Rattle.mesh.specs.Meshes.{OrderedMesh}
use Rattle.mesh.specs.Operation.{gives}
use Rattle.polygons.specs.Flat.{Point, FlatLayer, layer_front, polygons_of}
use Rattle.cleaning.specs.declared.Profile.{Profile}
use Rattle.mesh.specs.declared.Refusal.{Refusal}
use Rattle.polygons.specs.declared.LayerCounts.{LayerCounts}
use Rattle.read_layer.specs.declared.LayerRead.{LayerRead}
use Rattle.clean.specs.Clean.{tell_clean, Cleans}
use Rattle.file_formats.specs.Formats.{Bytes}
use Rattle.file_formats.specs.Numbers.{Word}
use Rattle.read_layer.specs.Reading.{tell_read_layer, ReadsLayer}
use Rattle.nesting.specs.Nests.{held_by, depth_of, no_parent, parent_of}
use Rattle.nesting.specs.Nesting.{NestTables, tell_nesting, FindsNesting}
use Rattle.composed.specs.Composed.{RefusedOnly}
use Rattle.composed.specs.ReadBack.{MadeIn}

-- the entries of contour i
pub record Entered (cs : List (List Point)) (u : NestTables) (i : ℕ) : Type 0 where
  pub depth : get_or u.depths i 0 ≡ depth_of cs i
  pub parent : get_or u.parents i 0 ≡ parent_of cs i
  -- no other contour holds it
  pub alone : ((j : ℕ) → j < length cs → held_by cs i j ≡ false) → (get_or u.depths i 0 ≡ 0) × (get_or u.parents i 0 ≡ no_parent)

-- Nesting of these contours answered, with tables u before and u' after
pub record NestsThese (cs : List (List Point)) (u : NestTables) (result : Result Unit Refusal) (u' : NestTables) : Type 0 where
  -- 9 alone can refuse it, and where there is room nothing
  pub only : RefusedOnly (9 ∷ []) (tell_nesting result)
  pub given : length cs ≤ length u.depths → length cs ≤ length u.parents → RefusedOnly [] (tell_nesting result)
  pub entries : tell_nesting result ≡ gives tt → (i : ℕ) → i < length cs → Entered cs u' i

-- of j contours and k points in front of two tables
abbrev pub NestsFront : FlatLayer → ℕ → ℕ → Type 0
NestsFront t j k =
    (u u' : NestTables) (result : Result Unit Refusal) → FindsNesting (layer_front (j, k) t) u result u'
    → NestsThese (polygons_of (layer_front (j, k) t)) u result u'

-- what Cut gave at a height of 32 bits, or Clean of that
abbrev pub CutNested : Type 0
CutNested = (p : Profile) (m : OrderedMesh) (h : ℤ) → Word h → (t : FlatLayer) (j k : ℕ) → MadeIn p m h t j k → NestsFront t j k

-- what Clean gave of any layer
abbrev pub CleanNested : Type 0
CleanNested =
    (t u u' : FlatLayer) (clean : Result LayerCounts Refusal) → Cleans t u clean u' → (j k : ℕ) → tell_clean clean ≡ gives (j, k) → NestsFront u' j k

-- what Read layer gave of a file of bytes
abbrev pub ReadNested : Type 0
ReadNested =
    (p : Profile) (file : List ℕ) → Bytes file → (i : ℕ) (t t' : FlatLayer) (read : Result LayerRead Refusal) → ReadsLayer p file i t read t'
    → (n : ℕ) (h : ℤ) (j k : ℕ) → tell_read_layer read ≡ gives (n, h, j, k) → NestsFront t' j k

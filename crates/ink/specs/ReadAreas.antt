-- All layers of a file, read one after another by Read layer, with their areas, by Contour and Area; and what layers of such areas are charged.
use Rattle.std.specs.Prelude.{ℕ, ◌+◌, ◌<◌, ◌≡◌, List, [], ◌∷◌, length, get_or, ℤ, pos, Result}
use Rattle.mesh.specs.Operation.{gives, refuses}
use Rattle.mesh.specs.Refusals.{refusal}
use Rattle.mesh.specs.declared.Refusal.{Refusal}
use Rattle.polygons.specs.Flat.{FlatLayer, layer_front}
use Rattle.contours.specs.Areas.{sum_of, area_of}
use Rattle.contours.specs.Contours.{contour_of}
use Rattle.cleaning.specs.declared.Profile.{Profile}
use Rattle.read_layer.specs.Reading.{tell_read_layer, ReadsLayer}
use Rattle.read_layer.specs.declared.LayerRead.{LayerRead}
use Rattle.ink.specs.Charges.{layer_charge}

-- the contours in front of two tables come to this, each by Contour and Area
abbrev pub front_area : ℕ × ℕ → FlatLayer → ℤ
front_area counts t = let front = layer_front counts t in sum_of counts.0 (λ c. area_of (contour_of front.points front.ends c))

-- Read layer i gave a layer whose areas come to this
pub record ReadAt (p : Profile) (file : List ℕ) (i : ℕ) (area : ℤ) : Type 0 where
  pub lent : FlatLayer
  pub left : FlatLayer
  pub result : Result LayerRead Refusal
  pub reads : ReadsLayer p file i lent result left
  -- the layer count, the height, and the counts of contours and points
  pub told : ℕ × ℤ × ℕ × ℕ
  pub answered : tell_read_layer result ≡ gives told
  pub area_is : area ≡ front_area (told.2, told.3) left

-- Read layer i was refused with 15
pub record ReadPast (p : Profile) (file : List ℕ) (i : ℕ) : Type 0 where
  pub lent : FlatLayer
  pub left : FlatLayer
  pub result : Result LayerRead Refusal
  pub reads : ReadsLayer p file i lent result left
  pub refused_so : tell_read_layer result ≡ refuses (refusal 15 0)

-- all layers were read, one after another, and their areas come to these
pub record ReadAll (p : Profile) (file : List ℕ) (areas : List ℤ) : Type 0 where
  pub each : (i : ℕ) → i < length areas → ReadAt p file i (get_or areas i (pos 0))
  pub ended : ReadPast p file (length areas)

-- what layers of such areas are charged: the sum of the charges
unfoldable pub areas_charge : ℕ → List ℤ → ℕ
areas_charge t [] = 0
areas_charge t (a ∷ areas) = layer_charge t a + areas_charge t areas

-- Laws of drawn points: they are exact, and taking the origin off again gives back the point.
use Rattle.std.specs.Prelude.{◌≡◌, ◌≤◌, true, ℤ, ◌+ℤ◌, unsigned_abs, Float}
use Rattle.std.proofs.Common.{sym, ap, ◌∙◌, subst}
use Rattle.std.specs.Float.{binary32}
use Rattle.std.specs.Float.Ieee.{add, sub}
use Rattle.mesh.specs.Corners.{largest}
use Rattle.laws.specs.Booleans.{and_parts}
use Rattle.polygons.specs.Flat.{Point}
use Rattle.preview_floats.specs.declared.Origin.{Origin}
use Rattle.preview_floats.specs.declared.DrawnPoint.{DrawnPoint}
use Rattle.preview_floats.specs.WholeFloats.{ExactFloat, is_whole, value_of, float}
use Rattle.preview_floats.specs.WholeLaws.{drawn_is, drawn_exact, drawn_back}
use Rattle.preview_floats.specs.WholeTestLaws.{whole_stands}
use Rattle.preview_floats.specs.DrawnPoints.{whole_origin, drawn_at}

-- one coordinate
module _ (z : ℤ) (o : Float) (z-small : unsigned_abs z ≤ largest) (o-whole : is_whole o ≡ true) where
  pub coordinate_is : add binary32 (float z) o ≡ float (z +ℤ value_of o)
  coordinate_is = let s = whole_stands o o-whole in drawn_is z (value_of o) o z-small s.1 s.0

  pub coordinate_exact : ExactFloat (float (z +ℤ value_of o)) (z +ℤ value_of o)
  coordinate_exact =
      let s = whole_stands o o-whole in
      subst (λ (x : Float). ExactFloat x (z +ℤ value_of o)) coordinate_is (drawn_exact z (value_of o) o z-small s.1 s.0)

  pub coordinate_back : sub binary32 (float (z +ℤ value_of o)) o ≡ float z
  coordinate_back =
      let s = whole_stands o o-whole in
      ap (λ (x : Float). sub binary32 x o) (sym coordinate_is) ∙ drawn_back z (value_of o) o z-small s.1 s.0

-- the two f32 sums of a point and an origin
abbrev pub sums : Origin → Point → DrawnPoint
sums o p = record { x = add binary32 (float p.x) o.x; y = add binary32 (float p.y) o.y }

-- a drawn point with the origin taken off, by f32 differences
abbrev pub origin_off : Origin → DrawnPoint → DrawnPoint
origin_off o q = record { x = sub binary32 q.x o.x; y = sub binary32 q.y o.y }

-- a point of coordinate range
abbrev pub SmallPoint : Point → Type 0
SmallPoint p = (unsigned_abs p.x ≤ largest) × (unsigned_abs p.y ≤ largest)

module _ (o : Origin) (p : Point) (small : SmallPoint p) (o-whole : whole_origin o ≡ true) where
  both : (is_whole o.x ≡ true) × (is_whole o.y ≡ true)
  both = and_parts (is_whole o.x) (is_whole o.y) o-whole

  -- the sums are the drawn point
  pub drawn_sums : sums o p ≡ drawn_at o p
  drawn_sums = λ i. record { x = coordinate_is p.x o.x small.0 both.0 i; y = coordinate_is p.y o.y small.1 both.1 i }

  -- which is exactly point plus origin (PREVIEW-3)
  pub drawn_stands : ExactFloat (drawn_at o p).x (p.x +ℤ value_of o.x) × ExactFloat (drawn_at o p).y (p.y +ℤ value_of o.y)
  drawn_stands = (coordinate_exact p.x o.x small.0 both.0, coordinate_exact p.y o.y small.1 both.1)

  -- and its f32 differences with the origin are the point (PREVIEW-4)
  pub origin_off_lem : origin_off o (drawn_at o p) ≡ record { x = float p.x; y = float p.y }
  origin_off_lem = λ i. record { x = coordinate_back p.x o.x small.0 both.0 i; y = coordinate_back p.y o.y small.1 both.1 i }

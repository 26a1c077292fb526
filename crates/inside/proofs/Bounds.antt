-- Each return of `is_within`: what its tests tell of a point and an extent; and what `lies_within` concludes where a point is not within.
use Prim.Native.Nat.{◌^◌, ◌<◌}
use mathlib.Core.Path.{◌≡◌, sym, ap, ◌∙◌}
use mathlib.Core.Bool.{Bool, true, false, ◌&&◌}
use mathlib.Core.List.{List}
use lib.IntN.{ℤ}
use lib.Signed.{le_z, lt_z, mag}
use Rattle.std.specs.Ordering.{is_le, is_lt, int_cmp}
use Rattle.std.proofs.lemmas.Int.{ints}
use native.Mathlib.Omega.{arith}
use mir.Syntax.{w32}
use Rattle.laws.specs.Machine.{same}
use Rattle.polygons.specs.Flat.{Point, PointNear}
use Rattle.inside.specs.declared.ContourExtent.{ContourExtent}
use Rattle.inside.specs.Inside.{lies_in}
use Rattle.inside.specs.Extents.{Spans, within}
use Rattle.inside.proofs.ExtentLaws.{without_outside}
use Rattle.inside.specs.PointLaws.{number_back, read_back, back_same}

-- all six numbers are of 32 bits
pub record ExtentWords (e : ContourExtent) (p : Point) : Type 0 where
  pub x_in : mag p.x < 2 ^ 31
  pub y_in : mag p.y < 2 ^ 31
  pub left_in : mag e.left < 2 ^ 31
  pub right_in : mag e.right < 2 ^ 31
  pub low_in : mag e.low < 2 ^ 31
  pub high_in : mag e.high < 2 ^ 31

-- what the range from a to b answers of z, by order, and by the tests
abbrev between : ℤ → ℤ → ℤ → Bool
between a b z = is_le (int_cmp a z) && is_lt (int_cmp z b)

between_is : (a b z : ℤ) → between a b z ≡ (le_z a z && lt_z z b)
between_is a b z =
    let low : is_le (int_cmp a z) ≡ le_z a z = grind (arith, ints) in
    let high : is_lt (int_cmp z b) ≡ lt_z z b = grind (arith, ints) in
    λ i. low i && high i

module _ {e : ContourExtent} {p : Point} (w : ExtentWords e p) where
  abbrev with_level : Bool → Bool
  with_level b = b && le_z e.low p.y && lt_z p.y e.high

  beside : between (number_back e.left) (number_back e.right) (number_back p.x) ≡ (le_z e.left p.x && lt_z p.x e.right)
  beside =
      (λ t. between (same w32 e.left w.left_in t) (same w32 e.right w.right_in t) (same w32 p.x w.x_in t)) ∙ between_is e.left e.right p.x

  level : between (number_back e.low) (number_back e.high) (number_back p.y) ≡ with_level true
  level = (λ t. between (same w32 e.low w.low_in t) (same w32 e.high w.high_in t) (same w32 p.y w.y_in t)) ∙ between_is e.low e.high p.y

  module _ {b : Bool} (told : b ≡ between (number_back e.left) (number_back e.right) (number_back p.x)) where
    whole : with_level b ≡ within e p
    unfolding within
    whole = ap with_level (told ∙ beside)

    pub told_beside : b ≡ false → b ≡ within e p
    told_beside f = f ∙ sym (ap with_level f) ∙ whole

    pub told_level : b ≡ true → {r : Bool} → r ≡ between (number_back e.low) (number_back e.high) (number_back p.y) → r ≡ within e p
    told_level t is = is ∙ level ∙ sym (ap with_level t) ∙ whole

-- ---- `lies_within`

pub not_within : (p : Point) (c : List Point) {e : ContourExtent} {r : Bool} → PointNear p → Spans c e → r ≡ within e (read_back p) → r ≡ false
    → r ≡ lies_in p c
not_within p c {e} near s told f = f ∙ sym (without_outside p c e s (sym (told ∙ ap (within e) (back_same p near)) ∙ f))

-- The numbers of `meets_right`: coordinates and their differences in 64 bits, and what their products tell; and each return of `edge_counts`.
use Prim.Native.Nat.{◌+◌, ◌^◌, ◌≤◌, ◌<◌}
use mathlib.Core.Path.{◌≡◌, refl, sym, ◌∙◌}
use mathlib.Core.Bool.{Bool, true, false}
use lib.IntN.{ℤ, nat_abs, ◌-ℤ◌}
use lib.Signed.{lt_z, mag}
use mir.Syntax.{w32, w64}
use mir.Val.{to_z}
use Rattle.laws.specs.Machine.{Rd, got, same_in, mul, lt_is}
use Rattle.mesh.specs.Corners.{largest}
use Rattle.polygons.specs.Flat.{Point, PointNear}
use Rattle.inside.specs.Inside.{not_higher, meets_right, counts_for}
use Rattle.inside.specs.EdgeLaws.{counts_level, counts_up, counts_down}
use Rattle.inside.proofs.RightLaws.{right_less}
use Rattle.inside.specs.PointLaws.{number_back, read_back, back_same}

-- the three points are in coordinate range
pub record EdgeNear (p a b : Point) : Type 0 where
  pub of_p : PointNear p
  pub of_a : PointNear a
  pub of_b : PointNear b

-- ---- `meets_right`

-- a coordinate u, and z, what it was made wider to
abbrev pub wider : {u z : ℤ} → nat_abs u ≤ largest → mag z < 2 ^ 63 → z ≡ number_back u → Rd w64 u largest
wider {u} near ok is = got ok (is ∙ same_in w32 u largest near tt) near

-- the way from one coordinate to another, and what the order of the two products tells
abbrev pub Way : ℤ → ℤ → Type 0
Way u v = Rd w64 (v -ℤ u) (largest + largest)

pub right_told : (p a b : Point) (up : Way a.y b.y) (over : Way a.x b.x) (rest : Way a.y p.y) (right : Way a.x p.x)
    → lt_z (to_z w64 (mul right up tt).n) (to_z w64 (mul over rest tt).n) ≡ meets_right p a b
right_told p a b up over rest right = sym (right_less p a b ∙ lt_is (mul right up tt) (mul over rest tt) refl)

-- ---- `edge_counts`

module _ {p a b : Point} (near : EdgeNear p a b) where
  same_p : read_back p ≡ p
  same_p = back_same p near.of_p

  same_a : read_back a ≡ a
  same_a = back_same a near.of_a

  same_b : read_back b ≡ b
  same_b = back_same b near.of_b

  -- a test of the code, of the points themselves
  side : {q : Point} {t : Bool} → read_back q ≡ q → not_higher (read_back p) (read_back q) ≡ t → not_higher p q ≡ t
  side e told = (λ i. not_higher (sym same_p i) (sym e i)) ∙ told

  pub level_told : {t : Bool} → not_higher (read_back p) (read_back a) ≡ t → not_higher (read_back p) (read_back b) ≡ t → false ≡ counts_for p a b
  level_told s t = sym (counts_level p a b (side same_a s ∙ sym (side same_b t)))

  pub up_told : {r : Bool} → not_higher (read_back p) (read_back a) ≡ true → not_higher (read_back p) (read_back b) ≡ false
      → r ≡ meets_right (read_back p) (read_back a) (read_back b) → r ≡ counts_for p a b
  up_told s t told = told ∙ (λ i. meets_right (same_p i) (same_a i) (same_b i)) ∙ sym (counts_up p a b (side same_a s) (side same_b t))

  pub down_told : {r : Bool} → not_higher (read_back p) (read_back a) ≡ false → not_higher (read_back p) (read_back b) ≡ true
      → r ≡ meets_right (read_back p) (read_back b) (read_back a) → r ≡ counts_for p a b
  down_told s t told = told ∙ (λ i. meets_right (same_p i) (same_b i) (same_a i)) ∙ sym (counts_down p a b (side same_a s) (side same_b t))

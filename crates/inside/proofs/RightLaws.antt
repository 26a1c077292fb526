-- One edge and a point, by the exact test: the test in two other forms, and where it tells.
use Rattle.std.specs.Prelude.{◌≡◌, Bool, ◌&&◌, List, [], ◌∷◌, ℤ, pos, ◌+ℤ◌, ◌-ℤ◌, ◌*ℤ◌, ◌≤ℤ◌, ◌<ℤ◌}
use Rattle.std.proofs.Math.Path.{refl, sym}
use Rattle.std.proofs.Common.{◌∙◌, arith}
use Rattle.std.proofs.Math.Bool.{true, false, xor, and-true, and-false}
use Rattle.std.specs.Int.Signed.{lt_z}
use Rattle.laws.specs.Integers.{diff, le_in, lt_in, le_out, lt_out, mul_le, mul_lt}
use Rattle.laws.specs.Ring.{x, ◌⊕◌, ◌⊖◌, ◌⊗◌, ring}
use Rattle.polygons.specs.Flat.{Point}
use Rattle.cut_points.specs.Points.{numerator, denominator}
use Rattle.inside.specs.Inside.{not_higher, meets_right, counts_for}
use Rattle.inside.specs.EdgeLaws.{counts_level, counts_up, counts_down}
use Rattle.inside.specs.OrderLaws.{le_weak, sums_le, sums_lt, le_z_true, le_z_false, lt_z_of, lt_z_not, lt_shift}

-- ---- the exact test

module _ (p a b : Point) where
  abbrev numbers : List ℤ
  numbers = p.x ∷ p.y ∷ a.x ∷ a.y ∷ b.x ∷ b.y ∷ []

  -- both sides less x of a times the height of the edge
  pub right_less : meets_right p a b ≡ lt_z ((p.x -ℤ a.x) *ℤ (b.y -ℤ a.y)) ((b.x -ℤ a.x) *ℤ (p.y -ℤ a.y))
  unfolding meets_right numerator denominator
  right_less =
      lt_shift (p.x *ℤ (b.y -ℤ a.y)) (a.x *ℤ (b.y -ℤ a.y) +ℤ (b.x -ℤ a.x) *ℤ (p.y -ℤ a.y))
      ((p.x -ℤ a.x) *ℤ (b.y -ℤ a.y)) ((b.x -ℤ a.x) *ℤ (p.y -ℤ a.y))
      (ring numbers
      (x 2 ⊗ (x 5 ⊖ x 3) ⊕ (x 4 ⊖ x 2) ⊗ (x 1 ⊖ x 3) ⊖ x 0 ⊗ (x 5 ⊖ x 3))
      ((x 4 ⊖ x 2) ⊗ (x 1 ⊖ x 3) ⊖ (x 0 ⊖ x 2) ⊗ (x 5 ⊖ x 3))
      tt)

  -- x of p and x of each end, times how far p is below b and above a
  right_ends : meets_right p a b
      ≡ lt_z (p.x *ℤ (b.y -ℤ p.y) +ℤ p.x *ℤ (p.y -ℤ a.y)) (a.x *ℤ (b.y -ℤ p.y) +ℤ b.x *ℤ (p.y -ℤ a.y))
  unfolding meets_right numerator denominator
  right_ends =
      let left = ring numbers (x 0 ⊗ (x 5 ⊖ x 3)) (x 0 ⊗ (x 5 ⊖ x 1) ⊕ x 0 ⊗ (x 1 ⊖ x 3)) tt in
      let right = ring numbers (x 2 ⊗ (x 5 ⊖ x 3) ⊕ (x 4 ⊖ x 2) ⊗ (x 1 ⊖ x 3)) (x 2 ⊗ (x 5 ⊖ x 1) ⊕ x 4 ⊗ (x 1 ⊖ x 3)) tt in
      λ i. lt_z (left i) (right i)

-- an edge up through the level of p
module _ (p a b : Point) (from : a.y ≤ℤ p.y) (to : p.y <ℤ b.y) where
  above : pos 0 <ℤ (b.y -ℤ p.y)
  above = lt_out (omega (arith, lt_in to, diff b.y p.y))

  below : pos 0 ≤ℤ (p.y -ℤ a.y)
  below = le_out (omega (arith, le_in from, diff p.y a.y))

  -- between points that are not right of p it does not meet the level right of p
  not_right : a.x ≤ℤ p.x → b.x ≤ℤ p.x → meets_right p a b ≡ false
  not_right ha hb =
      right_ends p a b
      ∙ lt_z_not _ _ (sums_le _ _ _ _ (mul_le a.x p.x (b.y -ℤ p.y) (le_weak above) ha) (mul_le b.x p.x (p.y -ℤ a.y) below hb))

  -- and between points that are right of p it does
  is_right : p.x <ℤ a.x → p.x <ℤ b.x → meets_right p a b ≡ true
  is_right ha hb =
      right_ends p a b
      ∙ lt_z_of _ _ (sums_lt _ _ _ _ (mul_lt p.x a.x (b.y -ℤ p.y) above ha) (mul_le p.x b.x (p.y -ℤ a.y) below (le_weak hb)))

-- ---- one edge, by where its ends are

module _ (p a b : Point) where
  -- where the exact test tells r both ways, the edge counts if it passes the level and r holds
  counts_by : (r : Bool) → (a.y ≤ℤ p.y → p.y <ℤ b.y → meets_right p a b ≡ r) → (b.y ≤ℤ p.y → p.y <ℤ a.y → meets_right p b a ≡ r)
      → counts_for p a b ≡ (xor (not_higher p a) (not_higher p b) && r)
  unfolding xor
  counts_by r up down = by (not_higher p a) (not_higher p b) refl refl
    where
      by : (s t : Bool) → not_higher p a ≡ s → not_higher p b ≡ t → counts_for p a b ≡ (xor s t && r)
      by true true s t = counts_level p a b (s ∙ sym t)
      by true false s t = counts_up p a b s t ∙ up (le_z_true _ _ s) (le_z_false _ _ t)
      by false true s t = counts_down p a b s t ∙ down (le_z_true _ _ t) (le_z_false _ _ s)
      by false false s t = counts_level p a b (s ∙ sym t)

  -- an edge that is nowhere right of p
  pub counts_left : a.x ≤ℤ p.x → b.x ≤ℤ p.x → counts_for p a b ≡ false
  counts_left ha hb =
      counts_by false (λ f t. not_right p a b f t ha hb) (λ f t. not_right p b a f t hb ha)
      ∙ and-false (xor (not_higher p a) (not_higher p b))

  -- one that is everywhere right of p counts if it passes the level
  pub counts_right : p.x <ℤ a.x → p.x <ℤ b.x → counts_for p a b ≡ xor (not_higher p a) (not_higher p b)
  counts_right ha hb =
      counts_by true (λ f t. is_right p a b f t ha hb) (λ f t. is_right p b a f t hb ha)
      ∙ and-true (xor (not_higher p a) (not_higher p b))

-- The area by trapezoids: (x − x') × (y + y') for each point and the next, what lies between their edge and the x axis. It is the cross product
-- and x × y − x' × y', and these differences cancel round a closed run. So one product for each point will do.
use Prim.Native.Nat.{ℕ, zero, suc, ◌+◌, ◌*◌, ◌≤◌}
use Rattle.std.specs.Prelude.{◌≡◌, List, [], ◌∷◌, ℤ, pos, nat_abs, ◌+ℤ◌, ◌-ℤ◌, ◌*ℤ◌}
use Rattle.std.proofs.Common.{◌∙◌, add-one, arith, mul-le-mul}
use Rattle.std.proofs.Math.Path.{ap}
use Rattle.laws.specs.Integers.{abs_add, abs_sub, abs_mul}
use Rattle.laws.specs.Ring.{x, #, ◌⊕◌, ◌⊖◌, ◌⊗◌, ring}
use Rattle.mesh.specs.Corners.{largest}
use Rattle.contours.specs.Areas.{point_count, x_of, y_of, cross_of, sum_of, area_of}
use Rattle.contours.specs.AreaLaws.{area_closed}
use Rattle.contours.specs.Runs.{largest_cross, PointRun}

-- of point i and point k
unfoldable pub trapezoid_of : List ℤ → ℕ → ℕ → ℤ
trapezoid_of points i k = (x_of points i -ℤ x_of points k) *ℤ (y_of points i +ℤ y_of points k)

-- of point i and the next
abbrev pub trapezoid_at : List ℤ → ℕ → ℤ
trapezoid_at points i = trapezoid_of points i (i + 1)

-- ---- how large

pub trapezoid_bound : (points : List ℤ) → PointRun points → (i k : ℕ) → nat_abs (trapezoid_of points i k) ≤ 2 * largest_cross
unfolding trapezoid_of
trapezoid_bound points r i k = rw (abs_mul (x_of points i -ℤ x_of points k) (y_of points i +ℤ y_of points k)) (mul-le-mul long high)
  where
    long : nat_abs (x_of points i -ℤ x_of points k) ≤ 2 * largest
    long = omega (arith, abs_sub (x_of points i) (x_of points k), r.ranged (2 * i), r.ranged (2 * k))

    high : nat_abs (y_of points i +ℤ y_of points k) ≤ 2 * largest
    high = omega (arith, abs_add (y_of points i) (y_of points k), r.ranged (2 * i + 1), r.ranged (2 * k + 1))

-- ---- what they come to

-- s is the sum of the cross products from the first point (a, b) to (c, d): one more, to (u, v), and the last, back to (a, b)
one_more_lem : (s a b c d u v : ℤ)
    → s +ℤ (a *ℤ b -ℤ c *ℤ d) +ℤ (c -ℤ u) *ℤ (d +ℤ v) ≡ s +ℤ (c *ℤ v -ℤ u *ℤ d) +ℤ (a *ℤ b -ℤ u *ℤ v)
one_more_lem s a b c d u v =
    ring (s ∷ a ∷ b ∷ c ∷ d ∷ u ∷ v ∷ [])
    (x 0 ⊕ (x 1 ⊗ x 2 ⊖ x 3 ⊗ x 4) ⊕ (x 3 ⊖ x 5) ⊗ (x 4 ⊕ x 6))
    (x 0 ⊕ (x 3 ⊗ x 6 ⊖ x 5 ⊗ x 4) ⊕ (x 1 ⊗ x 2 ⊖ x 5 ⊗ x 6)) tt

the_last : (s a b c d : ℤ) → s +ℤ (a *ℤ b -ℤ c *ℤ d) +ℤ (c -ℤ a) *ℤ (d +ℤ b) ≡ s +ℤ (c *ℤ b -ℤ a *ℤ d)
the_last s a b c d =
    ring (s ∷ a ∷ b ∷ c ∷ d ∷ []) (x 0 ⊕ (x 1 ⊗ x 2 ⊖ x 3 ⊗ x 4) ⊕ (x 3 ⊖ x 1) ⊗ (x 4 ⊕ x 2)) (x 0 ⊕ (x 3 ⊗ x 2 ⊖ x 1 ⊗ x 4)) tt

module _ (points : List ℤ) where
  -- x × y of point i
  abbrev xy_of : ℕ → ℤ
  xy_of i = x_of points i *ℤ y_of points i

  abbrev crosses_of : ℕ → ℤ
  crosses_of n = sum_of n (λ i. cross_of points i (i + 1))

  trapezoids : (n : ℕ) → sum_of n (trapezoid_at points) ≡ crosses_of n +ℤ (xy_of 0 -ℤ xy_of n)
  unfolding sum_of trapezoid_of cross_of
  trapezoids zero = ring (x_of points 0 ∷ y_of points 0 ∷ []) (# (pos 0)) (# (pos 0) ⊕ (x 0 ⊗ x 1 ⊖ x 0 ⊗ x 1)) tt
  trapezoids (suc n) =
      ap (λ (z : ℤ). z +ℤ trapezoid_at points n) (trapezoids n)
      ∙ one_more_lem (crosses_of n) (x_of points 0) (y_of points 0) (x_of points n) (y_of points n) (x_of points (n + 1)) (y_of points (n + 1))
      ∙ ap (λ (m : ℕ). crosses_of (suc n) +ℤ (xy_of 0 -ℤ xy_of m)) (add-one n)

  pub area_trapezoids : (last : ℕ) → last + 1 ≡ point_count points → sum_of last (trapezoid_at points) +ℤ trapezoid_of points last 0 ≡ area_of points
  unfolding trapezoid_of cross_of
  area_trapezoids last e =
      ap (λ (z : ℤ). z +ℤ trapezoid_of points last 0) (trapezoids last)
      ∙ the_last (crosses_of last) (x_of points 0) (y_of points 0) (x_of points last) (y_of points last)
      ∙ area_closed points last e

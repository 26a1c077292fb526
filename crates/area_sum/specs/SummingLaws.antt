-- Laws of trapezoids: along the points of a contour and back to the first they come to its area, and how large they get on the way.
use Rattle.std.specs.Prelude.{ℕ, ◌+◌, ◌*◌, ◌≤◌, ◌≡◌, refl, Bool, true, false, cond, List, [], ◌∷◌, ℤ, pos, nat_abs, ◌+ℤ◌, ◌-ℤ◌, ◌*ℤ◌}
use Rattle.std.proofs.Common.{◌∙◌, arith, mul-le-mul, mul-le-mul_right, le_trans}
use Rattle.laws.specs.Integers.{abs_add, abs_sub, abs_mul}
use Rattle.laws.specs.Ring.{ring, x, #, ◌⊕◌, ◌⊖◌, ◌⊗◌}
use Rattle.mesh.specs.Corners.{largest}
use Rattle.polygons.specs.Flat.{Point, PointNear}
use Rattle.polygons.specs.ContourAreas.{cross_points, area_from, contour_area, largest_cross}
use Rattle.area_sum.specs.declared.AreaSum.{AreaSum}
use Rattle.area_sum.specs.Summing.{trapezoid_points, way_start, first_summed, summed, unsummed, summing, closing, summed_all, SumOf}

-- ---- what they come to

-- a trapezoid is the cross product and x × y − x' × y', and these differences cancel along the way. From (a, b) to (c, d), then on by the area z
one_more_lem : (s a b c d z : ℤ)
    → s +ℤ (a -ℤ c) *ℤ (b +ℤ d) +ℤ c *ℤ d +ℤ z ≡ s +ℤ a *ℤ b +ℤ (a *ℤ d -ℤ c *ℤ b +ℤ z)
one_more_lem s a b c d z =
    ring (s ∷ a ∷ b ∷ c ∷ d ∷ z ∷ [])
    (x 0 ⊕ (x 1 ⊖ x 3) ⊗ (x 2 ⊕ x 4) ⊕ x 3 ⊗ x 4 ⊕ x 5)
    (x 0 ⊕ x 1 ⊗ x 2 ⊕ (x 1 ⊗ x 4 ⊖ x 3 ⊗ x 2 ⊕ x 5)) tt

-- from (a, b) back to the first, (c, d), and to where the way began
the_last : (s a b c d : ℤ)
    → s +ℤ (a -ℤ c) *ℤ (b +ℤ d) +ℤ (c -ℤ pos 0) *ℤ (d +ℤ pos 0) ≡ s +ℤ a *ℤ b +ℤ (a *ℤ d -ℤ c *ℤ b)
the_last s a b c d =
    ring (s ∷ a ∷ b ∷ c ∷ d ∷ [])
    (x 0 ⊕ (x 1 ⊖ x 3) ⊗ (x 2 ⊕ x 4) ⊕ (x 3 ⊖ # (pos 0)) ⊗ (x 4 ⊕ # (pos 0)))
    (x 0 ⊕ x 1 ⊗ x 2 ⊕ (x 1 ⊗ x 4 ⊖ x 3 ⊗ x 2)) tt

-- from where the way began to the first, (a, b), then round by the area z
the_first : (a b z : ℤ) → pos 0 +ℤ (pos 0 -ℤ a) *ℤ (pos 0 +ℤ b) +ℤ a *ℤ b +ℤ z ≡ z
the_first a b z = ring (a ∷ b ∷ z ∷ []) (# (pos 0) ⊕ (# (pos 0) ⊖ x 0) ⊗ (# (pos 0) ⊕ x 1) ⊕ x 0 ⊗ x 1 ⊕ x 2) (x 2) tt

-- on from p, where s is the sum up to it
summed_on : (s : ℤ) (first p : Point) (c : List Point)
    → summed_all (summed s first true) p c ≡ s +ℤ p.x *ℤ p.y +ℤ area_from first p c
unfolding summed_all summing closing trapezoid_points area_from cross_points
summed_on s first p [] = the_last s p.x p.y first.x first.y
summed_on s first p (q ∷ c) =
    summed_on (s +ℤ trapezoid_points p q) first q c ∙ one_more_lem s p.x p.y q.x q.y (area_from first q c)

pub summed_area : (c : List Point) → summed_all unsummed way_start c ≡ contour_area c
unfolding summed_all summing closing trapezoid_points contour_area
summed_area [] = refl
summed_area (q ∷ c) = summed_on (pos 0 +ℤ trapezoid_points way_start q) q q c ∙ the_first q.x q.y (area_from q q c)

-- ---- how large they get

trapezoid_le : (p q : Point) → PointNear p → PointNear q → nat_abs (trapezoid_points p q) ≤ 2 * largest_cross
unfolding trapezoid_points
trapezoid_le p q h k = rw (abs_mul (p.x -ℤ q.x) (p.y +ℤ q.y)) (mul-le-mul long high)
  where
    long : nat_abs (p.x -ℤ q.x) ≤ 2 * largest
    long = omega (arith, abs_sub p.x q.x, h.0, k.0)

    high : nat_abs (p.y +ℤ q.y) ≤ 2 * largest
    high = omega (arith, abs_add p.y q.y, h.1, k.1)

pub sum_start : SumOf 0 unsummed
sum_start = record { small = omega arith; near = (omega arith, omega arith) }

pub sum_next : {n : ℕ} {s : AreaSum} (p q : Point) → SumOf n s → PointNear p → PointNear q → SumOf (n + 1) (summing s p q)
unfolding summing
sum_next {n} {s} p q w h k =
    record {
      small = omega (arith, abs_add s.sum (trapezoid_points p q), w.small, trapezoid_le p q h k);
      near = by s.begun;
    }
  where
    by : (b : Bool) → PointNear (cond b (first_summed s) q)
    by true = w.near
    by false = k

pub sum_within : {n m : ℕ} {s : AreaSum} → SumOf n s → n ≤ m → SumOf m s
sum_within w h = record { small = le_trans w.small (mul-le-mul_right (2 * largest_cross) h); near = w.near }

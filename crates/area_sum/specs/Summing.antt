-- The doubled area of a contour, point by point: what is kept in mind after each (`AreaSum`, src/lib.rt).
-- `SummingLaws` proves that this comes to `contour_area`.
use Rattle.std.specs.Prelude.{ℕ, ◌*◌, ◌≤◌, Bool, true, false, cond, List, [], ◌∷◌, ℤ, pos, nat_abs, ◌+ℤ◌, ◌-ℤ◌, ◌*ℤ◌}
use Rattle.polygons.specs.Flat.{Point, point, PointNear, most_points}
use Rattle.polygons.specs.ContourAreas.{largest_cross}
use Rattle.area_sum.specs.declared.AreaSum.{AreaSum}

-- (x − x') × (y + y'): twice the signed area between the x axis and the edge from p to q
unfoldable pub trapezoid_points : Point → Point → ℤ
trapezoid_points p q = (p.x -ℤ q.x) *ℤ (p.y +ℤ q.y)

-- the point that every contour is reached from
abbrev pub way_start : Point
way_start = point (pos 0) (pos 0)

-- the first point
abbrev pub first_summed : AreaSum → Point
first_summed s = point s.x s.y

abbrev pub summed : ℤ → Point → Bool → AreaSum
summed z p b = record { sum = z; x = p.x; y = p.y; begun = b }

-- before the first point
abbrev pub unsummed : AreaSum
unsummed = summed (pos 0) way_start false

-- after one more point q, where p came before
unfoldable pub summing : AreaSum → Point → Point → AreaSum
summing s p q = summed (s.sum +ℤ trapezoid_points p q) (cond s.begun (first_summed s) q) true

-- after the last point p: back to the first, and to where the way began
unfoldable pub closing : AreaSum → Point → ℤ
closing s p = s.sum +ℤ trapezoid_points p (first_summed s) +ℤ trapezoid_points (first_summed s) way_start

-- after p and the points that follow
unfoldable pub summed_all : AreaSum → Point → List Point → ℤ
summed_all s p [] = closing s p
summed_all s p (q ∷ c) = summed_all (summing s p q) q c

-- ---- how large

-- at most n points are summed, all in range
pub record SumOf (n : ℕ) (s : AreaSum) : Type 0 where
  pub small : nat_abs s.sum ≤ n * (2 * largest_cross)
  pub near : PointNear (first_summed s)

-- no more than a layer has
abbrev pub SumSmall : AreaSum → Type 0
SumSmall = SumOf most_points

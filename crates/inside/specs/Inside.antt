-- "Lies in" (NEST-1 to NEST-4): a point in a contour as data, told by the contour's edges right of the point.
use Rattle.std.specs.Prelude.{ℕ, ◌%◌, Bool, not, ◌&&◌, ◌||◌, List, eqb, length, ◌*ℤ◌}
use Rattle.std.specs.Int.Signed.{le_z, lt_z}
use Rattle.laws.specs.Count.{count}
use Rattle.polygons.specs.Flat.{Point, nth_point}
use Rattle.cut_points.specs.Points.{numerator, denominator}
use Rattle.contours.specs.Areas.{next_point}

-- y of a is not above that of p
abbrev pub not_higher : Point → Point → Bool
not_higher p a = le_z a.y p.y

-- of a and b only a has y not above that of p: from a to b the level of p is passed upward (NEST-2)
unfoldable pub passes_up : Point → Point → Point → Bool
passes_up p a b = not_higher p a && not (not_higher p b)

-- such an edge meets that level strictly right of p (NEST-3): the exact x there is numerator /
-- denominator, and both sides are multiplied by the denominator, which is above 0
unfoldable pub meets_right : Point → Point → Point → Bool
meets_right p a b = lt_z (p.x *ℤ denominator a.y b.y) (numerator a.x b.x a.y b.y p.y)

-- the edge between a and b counts for p: exactly one of its ends has
-- y not above that of p, and it meets the level of p right of p
unfoldable pub counts_for : Point → Point → Point → Bool
counts_for p a b = (passes_up p a b && meets_right p a b) || (passes_up p b a && meets_right p b a)

-- edge i of a contour: from point i to the next, the last to the first (NEST-1)
abbrev pub edge_counts : Point → List Point → ℕ → Bool
edge_counts p c i = counts_for p (nth_point c i) (nth_point c (next_point (length c) i))

unfoldable pub is_odd : ℕ → Bool
is_odd n = eqb (n % 2) 1

-- p lies in a contour: an odd number of its edges count (NEST-4)
unfoldable pub lies_in : Point → List Point → Bool
lies_in p c = is_odd (count (length c) (edge_counts p c))

-- Worked depths and parents, by computation from the definitions.
use Rattle.std.specs.Prelude.{ℕ, ◌+◌, ◌≡◌, refl, List, [], ◌∷◌, reverse, length, pos}
use Rattle.laws.specs.Count.{count}
use Rattle.laws.specs.Least.{least, some}
use Rattle.laws.specs.Tables.{tabulate}
use Rattle.polygons.specs.Flat.{Point, point}
use Rattle.polygons.specs.ContourAreas.{cross_points, area_from, contour_area}
use Rattle.cut_points.specs.Points.{numerator, denominator}
use Rattle.contours.specs.Areas.{next_point}
use Rattle.inside.specs.Inside.{passes_up, meets_right, counts_for, is_odd, lies_in}
use Rattle.nesting.specs.Nests.{held_by, depth_of, size_of, smallest, no_parent, parent_of}

-- the square from (a, b) to (a + s, b + s), which starts at its lower left corner
abbrev square : ℕ → ℕ → ℕ → List Point
square a b s = point (pos a) (pos b) ∷ point (pos (a + s)) (pos b) ∷ point (pos (a + s)) (pos (b + s)) ∷ point (pos a) (pos (b + s)) ∷ []

abbrev depths : List (List Point) → List ℕ
depths cs = tabulate (length cs) (depth_of cs)

abbrev parents : List (List Point) → List ℕ
parents cs = tabulate (length cs) (parent_of cs)

-- three squares within each other, the middle one last and turned round, beside a fourth
abbrev rings : List (List Point)
rings = square 0 0 9 ∷ square 3 3 3 ∷ square 20 0 5 ∷ reverse (square 2 2 5) ∷ []

ring_depths : depths rings ≡ 0 ∷ 2 ∷ 0 ∷ 1 ∷ []
unfolding tabulate depth_of count held_by lies_in is_odd counts_for passes_up meets_right numerator denominator next_point
ring_depths = refl

ring_parents : parents rings ≡ no_parent ∷ 3 ∷ no_parent ∷ 0 ∷ []
unfolding tabulate parent_of smallest least some size_of contour_area area_from cross_points count held_by lies_in is_odd counts_for passes_up meets_right
    numerator denominator next_point
ring_parents = refl

-- two equal squares that start at their lower left corner lie in each other, and each is the other's parent; of a third in both it is the lower number
abbrev twins : List (List Point)
twins = square 0 0 9 ∷ square 0 0 9 ∷ square 3 3 3 ∷ []

twin_depths : depths twins ≡ 1 ∷ 1 ∷ 2 ∷ []
unfolding tabulate depth_of count held_by lies_in is_odd counts_for passes_up meets_right numerator denominator next_point
twin_depths = refl

twin_parents : parents twins ≡ 1 ∷ 0 ∷ 0 ∷ []
unfolding tabulate parent_of smallest least some size_of contour_area area_from cross_points count held_by lies_in is_odd counts_for passes_up meets_right
    numerator denominator next_point
twin_parents = refl

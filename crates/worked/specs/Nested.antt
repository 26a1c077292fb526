-- Worked pieces of Nesting (WORKED-25 to WORKED-27): squares that touch, squares within squares, and two equal squares.
use Rattle.std.specs.Prelude.{ℕ, ◌+◌, ◌≡◌, refl, List, [], ◌∷◌, ◌++◌, ℤ, pos}
use Rattle.laws.specs.Count.{count}
use Rattle.laws.specs.Least.{least, some}
use Rattle.laws.specs.Tables.{tabulate, overwrite}
use Rattle.mesh.specs.Operation.{test, ◌then◌, verdict, unless_refused}
use Rattle.mesh.specs.Tests.{out_of_range}
use Rattle.polygons.specs.Flat.{FlatLayer, flat, points_in, contours_in, run_fits, ends_rise, last_end, is_layer}
use Rattle.polygons.specs.ContourAreas.{cross_points, area_from, contour_area}
use Rattle.cut_points.specs.Points.{numerator, denominator}
use Rattle.contours.specs.Areas.{next_point}
use Rattle.inside.specs.Inside.{passes_up, meets_right, counts_for, is_odd, lies_in}
use Rattle.nesting.specs.Nests.{held_by, depth_of, size_of, smallest, no_parent, parent_of}
use Rattle.nesting.specs.Nesting.{nest_room_for}
use Rattle.worked.specs.Pieces.{nests, nested_as}
use Rattle.worked.specs.SharedEdge.{cubes_at_five}

-- the layer of the cubes at 5: two squares that touch in a point
abbrev pub touching : FlatLayer
touching = flat cubes_at_five.points cubes_at_five.ends

-- the square from (a, b) to (a + s, b + s), from its lower left corner on
abbrev square : ℕ → ℕ → ℕ → List ℤ
square a b s = pos a ∷ pos b ∷ pos (a + s) ∷ pos b ∷ pos (a + s) ∷ pos (b + s) ∷ pos a ∷ pos (b + s) ∷ []

-- three squares within each other, the middle one last, and one beside them
abbrev pub squares_within : FlatLayer
squares_within = flat (square 0 0 9 ++ square 3 3 3 ++ square 20 0 5 ++ square 2 2 5) (4 ∷ 8 ∷ 12 ∷ 16 ∷ [])

-- two equal squares, and one in both
abbrev pub twins : FlatLayer
twins = flat (square 0 0 9 ++ square 0 0 9 ++ square 3 3 3) (4 ∷ 8 ∷ 12 ∷ [])

-- ---- by computation

pub touching_nests : nested_as touching ≡ nests (0 ∷ 0 ∷ []) (no_parent ∷ no_parent ∷ [])
unfolding nested_as verdict ◌then◌ test some least unless_refused overwrite tabulate is_layer run_fits ends_rise last_end out_of_range nest_room_for
    contours_in points_in
    depth_of parent_of smallest size_of contour_area area_from cross_points count held_by lies_in is_odd counts_for passes_up meets_right numerator denominator
    next_point
touching_nests = refl

pub within_nests : nested_as squares_within ≡ nests (0 ∷ 2 ∷ 0 ∷ 1 ∷ []) (no_parent ∷ 3 ∷ no_parent ∷ 0 ∷ [])
unfolding nested_as verdict ◌then◌ test some least unless_refused overwrite tabulate is_layer run_fits ends_rise last_end out_of_range nest_room_for
    contours_in points_in
    depth_of parent_of smallest size_of contour_area area_from cross_points count held_by lies_in is_odd counts_for passes_up meets_right numerator denominator
    next_point
within_nests = refl

pub twins_nest : nested_as twins ≡ nests (1 ∷ 1 ∷ 2 ∷ []) (1 ∷ 0 ∷ 0 ∷ [])
unfolding nested_as verdict ◌then◌ test some least unless_refused overwrite tabulate is_layer run_fits ends_rise last_end out_of_range nest_room_for
    contours_in points_in
    depth_of parent_of smallest size_of contour_area area_from cross_points count held_by lies_in is_odd counts_for passes_up meets_right numerator denominator
    next_point
twins_nest = refl

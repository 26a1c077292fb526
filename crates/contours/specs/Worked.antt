-- Worked values: the areas of part P at heights 5 (WORKED-7) and 10,
-- and contours of small tables, by computation from the definitions.
use Rattle.std.specs.Prelude.{◌≡◌, refl, List, [], ◌∷◌, ℕ, ℤ, pos, negsuc}
use Rattle.laws.specs.Least.{least, some}
use Rattle.mesh.specs.Operation.{gives, refuses, test, ◌then◌, verdict, answer_of}
use Rattle.mesh.specs.Refusals.{refusal}
use Rattle.mesh.specs.Tests.{out_of_range}
use Rattle.polygons.specs.Flat.{points_in, end_before}
use Rattle.polygons.specs.ContourAreas.{cross_points, area_from, contour_area}
use Rattle.contours.specs.Areas.{cross_of, next_point, sum_of, area_of, run_fits, measuring}
use Rattle.contours.specs.Contours.{is_contour, span_of, first_of, contour_of}

-- ---- areas

-- P at height 5: (5,0), (0,5), (0,0)
abbrev five : List ℤ
five = pos 5 ∷ pos 0 ∷ pos 0 ∷ pos 5 ∷ pos 0 ∷ pos 0 ∷ []

at_five_lem : answer_of (measuring five) ≡ gives (pos 25)
unfolding verdict ◌then◌ test some least run_fits out_of_range area_of sum_of cross_of next_point
at_five_lem = refl

-- the same contour point by point
five_points : contour_area (points_in five) ≡ pos 25
unfolding points_in contour_area area_from cross_points
five_points = refl

-- P at height 10: three times (0,0)
at_ten_lem : answer_of (measuring (pos 0 ∷ pos 0 ∷ pos 0 ∷ pos 0 ∷ pos 0 ∷ pos 0 ∷ [])) ≡ gives (pos 0)
unfolding verdict ◌then◌ test some least run_fits out_of_range area_of sum_of cross_of next_point
at_ten_lem = refl

-- no points
no_points : answer_of (measuring []) ≡ gives (pos 0)
unfolding verdict ◌then◌ test some least run_fits area_of sum_of
no_points = refl

-- one point
one_point_lem : answer_of (measuring (pos 3 ∷ negsuc 3 ∷ [])) ≡ gives (pos 0)
unfolding verdict ◌then◌ test some least run_fits out_of_range area_of sum_of cross_of next_point
one_point_lem = refl

-- the other way round
turned_round : area_of (pos 0 ∷ pos 0 ∷ pos 0 ∷ pos 5 ∷ pos 5 ∷ pos 0 ∷ []) ≡ negsuc 24
unfolding area_of sum_of cross_of next_point
turned_round = refl

-- odd length
odd : answer_of (measuring (pos 5 ∷ [])) ≡ refuses (refusal 1 0)
unfolding verdict ◌then◌ test some least run_fits
odd = refl

-- the largest coordinate passes, one more does not
largest_passes : answer_of (measuring (pos 0 ∷ pos 1048576 ∷ [])) ≡ gives (pos 0)
unfolding verdict ◌then◌ test some least run_fits out_of_range area_of sum_of cross_of next_point
largest_passes = refl

too_large : answer_of (measuring (pos 0 ∷ negsuc 1048576 ∷ [])) ≡ refuses (refusal 2 1)
unfolding verdict ◌then◌ test some least run_fits out_of_range
too_large = refl

-- ---- contours

-- five points, with the numbers 10, 11, 20, 21, ..
abbrev points : List ℤ
points = pos 10 ∷ pos 11 ∷ pos 20 ∷ pos 21 ∷ pos 30 ∷ pos 31 ∷ pos 40 ∷ pos 41 ∷ pos 50 ∷ pos 51 ∷ []

abbrev ends : List ℕ
ends = 3 ∷ 5 ∷ []

first_contour : contour_of points ends 0 ≡ pos 10 ∷ pos 11 ∷ pos 20 ∷ pos 21 ∷ pos 30 ∷ pos 31 ∷ []
unfolding contour_of is_contour end_before
first_contour = refl

second_contour : contour_of points ends 1 ≡ pos 40 ∷ pos 41 ∷ pos 50 ∷ pos 51 ∷ []
unfolding contour_of is_contour end_before
second_contour = refl

-- it starts at position 6
second_first : first_of 10 ends 1 ≡ 6
unfolding first_of span_of is_contour end_before
second_first = refl

-- j has no end
without_end : contour_of points ends 2 ≡ []
unfolding contour_of is_contour end_before
without_end = refl

-- the ends fall
falling : contour_of points (3 ∷ 2 ∷ []) 1 ≡ []
unfolding contour_of is_contour end_before
falling = refl

-- the ends are one: an empty part, at position 0
level : first_of 10 (3 ∷ 3 ∷ []) 1 ≡ 0
unfolding first_of span_of is_contour end_before
level = refl

-- its own end passes the table
past : contour_of points (3 ∷ 6 ∷ []) 1 ≡ []
unfolding contour_of is_contour end_before
past = refl

-- the largest end there is
far_past : contour_of points (4294967295 ∷ []) 0 ≡ []
unfolding contour_of is_contour end_before
far_past = refl

-- the last point of a table of odd length lacks its y
half_point : contour_of (pos 10 ∷ pos 11 ∷ pos 20 ∷ []) (2 ∷ []) 0 ≡ []
unfolding contour_of is_contour end_before
half_point = refl

-- Worked values, by computation: the tables of part P at height 5, and tables that are none of a layer.
use Rattle.std.specs.Prelude.{◌≡◌, refl, true, false, ℤ, pos}
use mathlib.Core.List.{List, [], ◌∷◌, flatten}
use Rattle.polygons.specs.Flat.{Point, flat, numbers_of, ends_from, flat_of, points_in, contours_in, polygons_of, run_fits, ends_rise, last_end, is_layer}

-- (5, 0), (0, 5), (0, 0)
abbrev points : List ℤ
points = pos 5 ∷ pos 0 ∷ pos 0 ∷ pos 5 ∷ pos 0 ∷ pos 0 ∷ []

abbrev five : List (List Point)
five = (record { x = pos 5; y = pos 0 } ∷ record { x = pos 0; y = pos 5 } ∷ record { x = pos 0; y = pos 0 } ∷ []) ∷ []

tables : flat_of five ≡ flat points (3 ∷ [])
unfolding flatten numbers_of ends_from
tables = refl

contours : polygons_of (flat points (3 ∷ [])) ≡ five
unfolding contours_in points_in
contours = refl

a_layer : is_layer (flat points (3 ∷ [])) ≡ true
unfolding is_layer run_fits ends_rise last_end
a_layer = refl

no_contours : is_layer (flat [] []) ≡ true
unfolding is_layer run_fits ends_rise last_end
no_contours = refl

-- an odd table, a contour of one point, a point left over
odd : is_layer (flat (pos 7 ∷ points) (3 ∷ [])) ≡ false
unfolding is_layer run_fits ends_rise last_end
odd = refl

one_point_lem : is_layer (flat points (2 ∷ 3 ∷ [])) ≡ false
unfolding is_layer run_fits ends_rise last_end
one_point_lem = refl

left_over_lem : is_layer (flat points (2 ∷ [])) ≡ false
unfolding is_layer run_fits ends_rise last_end
left_over_lem = refl

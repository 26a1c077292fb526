-- Worked values of Clean, by computation: part P at height 10, points repeated, two points over and over, and each refusal.
use Rattle.std.specs.Prelude.{◌≡◌, refl, ℕ, pos, negsuc}
use mathlib.Core.List.{[], ◌∷◌, flatten}
use Rattle.laws.specs.Least.{least, some}
use Rattle.laws.specs.Tables.{overwrite}
use Rattle.mesh.specs.Operation.{Answer, gives, refuses, test, ◌then◌, verdict, unless_refused, answer_of, left_by}
use Rattle.mesh.specs.Refusals.{Told, refusal}
use Rattle.mesh.specs.Tests.{out_of_range}
use Rattle.polygons.specs.Flat.{FlatLayer, flat, numbers_of, ends_from, points_in, contours_in, run_fits, ends_rise, last_end, is_layer}
use Rattle.cleaning.specs.Cleaning.{same_point, unrepeated, trimmed, neat, among, variety, kept, cleaned}
use Rattle.clean.specs.Clean.{clean_room_for, cleaning}

-- the answer to a call, and what it leaves
abbrev clean : FlatLayer → FlatLayer → Answer Told (ℕ × ℕ)
clean t u = answer_of (cleaning (t, u))

abbrev left : FlatLayer → FlatLayer → FlatLayer
left t u = left_by (cleaning (t, u))

-- tables of twenty and of two entries, all 7
abbrev sevens : FlatLayer
sevens =
    flat
    (pos 7 ∷ pos 7 ∷ pos 7 ∷ pos 7 ∷ pos 7 ∷ pos 7 ∷ pos 7 ∷ pos 7 ∷ pos 7 ∷ pos 7
    ∷ pos 7 ∷ pos 7 ∷ pos 7 ∷ pos 7 ∷ pos 7 ∷ pos 7 ∷ pos 7 ∷ pos 7 ∷ pos 7 ∷ pos 7 ∷ [])
    (7 ∷ 7 ∷ [])

-- ---- part P at height 10: one point three times, which is dropped

abbrev ten : FlatLayer
ten = flat (pos 0 ∷ pos 0 ∷ pos 0 ∷ pos 0 ∷ pos 0 ∷ pos 0 ∷ []) (3 ∷ [])

ten_given : clean ten sevens ≡ gives (0, 0)
unfolding ◌then◌ verdict test some least is_layer run_fits ends_rise last_end out_of_range clean_room_for
    contours_in points_in cleaned kept neat unrepeated trimmed variety among same_point
ten_given = refl

ten_left : left ten sevens ≡ sevens
unfolding ◌then◌ verdict test some least is_layer run_fits ends_rise last_end out_of_range clean_room_for unless_refused overwrite flatten numbers_of ends_from
    contours_in points_in cleaned kept neat unrepeated trimmed variety among same_point
ten_left = refl

-- ---- A A B B B C A A with A = (5, 0), B = (0, 5), C = (0, 0): A B C is left

abbrev repeated : FlatLayer
repeated =
    flat
    (pos 5 ∷ pos 0 ∷ pos 5 ∷ pos 0 ∷ pos 0 ∷ pos 5 ∷ pos 0 ∷ pos 5 ∷ pos 0 ∷ pos 5 ∷ pos 0 ∷ pos 0 ∷ pos 5 ∷ pos 0 ∷ pos 5 ∷ pos 0 ∷ [])
    (8 ∷ [])

repeated_given : clean repeated sevens ≡ gives (1, 3)
unfolding ◌then◌ verdict test some least is_layer run_fits ends_rise last_end out_of_range clean_room_for
    contours_in points_in cleaned kept neat unrepeated trimmed variety among same_point
repeated_given = refl

repeated_left : left repeated sevens
    ≡ flat
    (pos 5 ∷ pos 0 ∷ pos 0 ∷ pos 5 ∷ pos 0 ∷ pos 0 ∷ pos 7 ∷ pos 7 ∷ pos 7 ∷ pos 7
    ∷ pos 7 ∷ pos 7 ∷ pos 7 ∷ pos 7 ∷ pos 7 ∷ pos 7 ∷ pos 7 ∷ pos 7 ∷ pos 7 ∷ pos 7 ∷ [])
    (3 ∷ 7 ∷ [])
unfolding ◌then◌ verdict test some least is_layer run_fits ends_rise last_end out_of_range clean_room_for unless_refused overwrite flatten numbers_of ends_from
    contours_in points_in cleaned kept neat unrepeated trimmed variety among same_point
repeated_left = refl

-- ---- A B A B with A = (1, 1), B = (2, 2), which is dropped, and then (0, 0), (-1, 0), (0, -1), which stays

abbrev two : FlatLayer
two =
    flat
    (pos 1 ∷ pos 1 ∷ pos 2 ∷ pos 2 ∷ pos 1 ∷ pos 1 ∷ pos 2 ∷ pos 2 ∷ pos 0 ∷ pos 0 ∷ negsuc 0 ∷ pos 0 ∷ pos 0 ∷ negsuc 0 ∷ [])
    (4 ∷ 7 ∷ [])

two_given : clean two sevens ≡ gives (1, 3)
unfolding ◌then◌ verdict test some least is_layer run_fits ends_rise last_end out_of_range clean_room_for
    contours_in points_in cleaned kept neat unrepeated trimmed variety among same_point
two_given = refl

two_left : left two sevens
    ≡ flat
    (pos 0 ∷ pos 0 ∷ negsuc 0 ∷ pos 0 ∷ pos 0 ∷ negsuc 0 ∷ pos 7 ∷ pos 7 ∷ pos 7 ∷ pos 7
    ∷ pos 7 ∷ pos 7 ∷ pos 7 ∷ pos 7 ∷ pos 7 ∷ pos 7 ∷ pos 7 ∷ pos 7 ∷ pos 7 ∷ pos 7 ∷ [])
    (3 ∷ 7 ∷ [])
unfolding ◌then◌ verdict test some least is_layer run_fits ends_rise last_end out_of_range clean_room_for unless_refused overwrite flatten numbers_of ends_from
    contours_in points_in cleaned kept neat unrepeated trimmed variety among same_point
two_left = refl

-- ---- refusals: 1 for a point that is in no contour, 2 for a number out of range, 9 for a table that is one entry short, and nothing is written

no_layer_lem : clean (flat two.points (4 ∷ [])) (flat [] []) ≡ refuses (refusal 1 0)
unfolding ◌then◌ verdict test some least is_layer run_fits ends_rise last_end
no_layer_lem = refl

out_of_range_lem : clean (flat (pos 0 ∷ pos 0 ∷ pos 0 ∷ pos 1048577 ∷ []) (2 ∷ [])) (flat [] []) ≡ refuses (refusal 2 3)
unfolding ◌then◌ verdict test some least is_layer run_fits ends_rise last_end out_of_range
out_of_range_lem = refl

few_points_lem : clean ten (flat (pos 7 ∷ pos 7 ∷ pos 7 ∷ pos 7 ∷ pos 7 ∷ []) (7 ∷ [])) ≡ refuses (refusal 9 0)
unfolding ◌then◌ verdict test some least is_layer run_fits ends_rise last_end out_of_range clean_room_for
few_points_lem = refl

few_ends_lem : clean two (flat sevens.points (7 ∷ [])) ≡ refuses (refusal 9 0)
unfolding ◌then◌ verdict test some least is_layer run_fits ends_rise last_end out_of_range clean_room_for
few_ends_lem = refl

few_left : left two (flat sevens.points (7 ∷ [])) ≡ flat sevens.points (7 ∷ [])
unfolding ◌then◌ verdict test some least is_layer run_fits ends_rise last_end out_of_range clean_room_for unless_refused
few_left = refl

-- ---- no contours

none_given : clean (flat [] []) sevens ≡ gives (0, 0)
unfolding ◌then◌ verdict test some least is_layer run_fits ends_rise last_end clean_room_for contours_in cleaned
none_given = refl

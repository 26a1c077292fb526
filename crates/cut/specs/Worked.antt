-- The worked pieces on sections and Cut (WORKED-5 to WORKED-9), by computation from the definitions.
use Rattle.std.specs.Prelude.{ℕ, ◌≡◌, refl, ltb, replicate, ℤ, pos, negsuc}
use mathlib.Core.List.{List, [], ◌∷◌, flatten}
use Rattle.laws.specs.Least.{least, some}
use Rattle.laws.specs.Tables.{tabulate}
use Rattle.mesh.specs.Meshes.{PairedMesh, paired}
use Rattle.mesh.specs.Operation.{gives, test, ◌then◌, verdict, answer_of}
use Rattle.mesh.specs.Tests.{sizes_fit, out_of_range, names_none, names_twice, reverse, paired_at}
use Rattle.section.specs.Section.{VertexSet, below, rising, rising_in, successor}
use Rattle.section.specs.Contours.{member, walk, contours, trace_at, trace_to, trace, ends_from, ends_of}
use Rattle.cut_points.specs.Points.{numerator, denominator, rounded, exact_over, exact_under, point_at, numbers_of, points_of}
use Rattle.cut.specs.Cut.{CutTables, lent, cut_room_for, met_at, section, cutting}
use Rattle.cut.specs.Mirrors.{mirrored_row, mirrored_mesh}

-- part P, and its pairing
abbrev coords : List ℤ
coords = pos 0 ∷ pos 0 ∷ pos 0 ∷ pos 10 ∷ pos 0 ∷ pos 0 ∷ pos 0 ∷ pos 10 ∷ pos 0 ∷ pos 0 ∷ pos 0 ∷ pos 10 ∷ []

abbrev corners : List ℕ
corners = 0 ∷ 2 ∷ 1 ∷ 0 ∷ 1 ∷ 3 ∷ 0 ∷ 3 ∷ 2 ∷ 1 ∷ 2 ∷ 3 ∷ []

abbrev pairing : List ℕ
pairing = 8 ∷ 9 ∷ 3 ∷ 2 ∷ 11 ∷ 6 ∷ 5 ∷ 10 ∷ 0 ∷ 1 ∷ 7 ∷ 4 ∷ []

abbrev p : PairedMesh
p = paired coords corners pairing

-- tables of 12 and 24 entries
abbrev t : CutTables
t = lent (replicate 12 7) (replicate 24 (pos 7)) (replicate 12 7) (replicate 12 7)

-- P at height 5: one contour of three points
accepted : answer_of (cutting (p, pos 5, t)) ≡ gives (1, 3)
unfolding verdict ◌then◌ test some least sizes_fit cut_room_for out_of_range names_none names_twice reverse paired_at met_at trace trace_to
    trace_at flatten walk member rising rising_in successor below
accepted = refl

-- one vertex passed: ring 0, 6, 3 (WORKED-5); two: ring 0, 6, 4, 9 (WORKED-6)
first : ℕ → VertexSet
first n v = ltb v n

one_passed : trace (first 1) corners pairing ≡ contours ((0 ∷ 6 ∷ 3 ∷ []) ∷ [])
unfolding first trace trace_to trace_at flatten walk member rising rising_in successor
one_passed = refl

two_passed : trace (first 2) corners pairing ≡ contours ((0 ∷ 6 ∷ 4 ∷ 9 ∷ []) ∷ [])
unfolding first trace trace_to trace_at flatten walk member rising rising_in successor
two_passed = refl

-- height 5: names 4, 10, 6, and points (5,0), (0,5), (0,0) (WORKED-7)
at_5 : section p (pos 5) ≡ contours ((4 ∷ 10 ∷ 6 ∷ []) ∷ [])
unfolding below trace trace_to trace_at flatten walk member rising rising_in successor
at_5 = refl

points_5 : points_of p.mesh (pos 5) (4 ∷ 10 ∷ 6 ∷ []) ≡ pos 5 ∷ pos 0 ∷ pos 0 ∷ pos 5 ∷ pos 0 ∷ pos 0 ∷ []
unfolding numbers_of point_at exact_over exact_under numerator denominator rounded
points_5 = refl

ends_5 : ends_of {A = ℕ} ((4 ∷ 10 ∷ 6 ∷ []) ∷ []) ≡ 3 ∷ []
unfolding ends_from
ends_5 = refl

-- and of the mirror images of P: (−5,0), (0,5), (0,0) by x, and (5,0), (0,−5), (0,0) by y
mirrored_x : points_of (mirrored_mesh 0 p).mesh (pos 5) (4 ∷ 10 ∷ 6 ∷ []) ≡ negsuc 4 ∷ pos 0 ∷ pos 0 ∷ pos 5 ∷ pos 0 ∷ pos 0 ∷ []
unfolding mirrored_row tabulate numbers_of point_at exact_over exact_under numerator denominator rounded
mirrored_x = refl

mirrored_y : points_of (mirrored_mesh 1 p).mesh (pos 5) (4 ∷ 10 ∷ 6 ∷ []) ≡ pos 5 ∷ pos 0 ∷ pos 0 ∷ negsuc 4 ∷ pos 0 ∷ pos 0 ∷ []
unfolding mirrored_row tabulate numbers_of point_at exact_over exact_under numerator denominator rounded
mirrored_y = refl

-- height 10: three times (0,0) (WORKED-8)
at_10 : section p (pos 10) ≡ contours ((4 ∷ 10 ∷ 6 ∷ []) ∷ [])
unfolding below trace trace_to trace_at flatten walk member rising rising_in successor
at_10 = refl

points_10 : points_of p.mesh (pos 10) (4 ∷ 10 ∷ 6 ∷ []) ≡ pos 0 ∷ pos 0 ∷ pos 0 ∷ pos 0 ∷ pos 0 ∷ pos 0 ∷ []
unfolding numbers_of point_at exact_over exact_under numerator denominator rounded
points_10 = refl

-- heights 0 and 11: no contour (WORKED-9)
at_0 : section p (pos 0) ≡ contours []
unfolding below trace trace_to trace_at walk member rising rising_in successor
at_0 = refl

at_11 : section p (pos 11) ≡ contours []
unfolding below trace trace_to trace_at walk member rising rising_in successor
at_11 = refl

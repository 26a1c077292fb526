-- The starred worked pieces (WORKED-4 to WORKED-14, WORKED-18 to WORKED-20, WORKED-22 to WORKED-24), all in one statement
-- (WORKED-1): what the definitions give for these inputs are these results.
use Rattle.std.specs.Prelude.{◌≡◌, refl, ℕ, ℤ, pos, negsuc}
use Rattle.std.proofs.Common.{ap, ◌∙◌}
use mathlib.Core.List.{List, [], ◌∷◌, map, flatten}
use Rattle.laws.specs.Count.{count}
use Rattle.laws.specs.Least.{least, some}
use Rattle.laws.specs.Tables.{tabulate, overwrite}
use Rattle.mesh.specs.Meshes.{Mesh, mesh, OrderedMesh, ordered}
use Rattle.mesh.specs.Operation.{test, ◌then◌, verdict, after}
use Rattle.mesh.specs.Order.{before, place, order_up_to, order_of}
use Rattle.mesh.specs.Tests.{sizes_fit, out_of_range, names_none, names_twice, reverse, paired_at, ordered_at}
use Rattle.check_pairing.specs.Partners.{stands_for, uses, partners, open_at, partner_of, pairing_of}
use Rattle.check_mesh.specs.Check as check
use Rattle.cleaning.specs.Cleaning.{same_point, unrepeated, trimmed, neat, among, variety, kept, cleaned, same_points, is_clean}
use Rattle.cleaning.specs.declared.Profile.TheVariants.{Full, Clean}
use Rattle.section.specs.Section.{below, rising, rising_in, successor, ring_entry}
use Rattle.section.specs.Contours.{member, walk, trace_at, trace_to, trace, ends_from}
use Rattle.section.specs.Links.{has_link, trace_links}
use Rattle.cut_points.specs.Points.{numerator, denominator, rounded, exact_over, exact_under, point_at, numbers_of}
use Rattle.cut.specs.Cut.{cut_room_for, met_at}
use Rattle.contours.specs.Areas as areas
use Rattle.contours.specs.Areas.{cross_of, next_point, sum_of, run_fits}
use Rattle.sweep.specs.Sweep.{passed_at, fresh_ring, touches, relinked, step_ring, may_rise, risen_to, risen_ring}
use Rattle.sweep.specs.Operations.{unless_refused}
use Rattle.file_formats.specs.Formats.{encode_all, parse_all}
use Rattle.file_formats.specs.Numbers.{groups, encode_number, parse_number}
use Rattle.file_formats.specs.LayerFile.{coordinate_format, point_format, contour_format, contour_list_in, height_above, layer_format_in, layer_file_in}
use Rattle.file_formats.specs.LayerFile.{layers_of_in}
use Rattle.file_formats.specs.WholeFiles.{broken_at, held_or, layers_in}
use Rattle.polygons.specs.ContourAreas.{cross_points, area_from, contour_area, layer_area}
use Rattle.ink.specs.Charges.{layer_charge, job_charge}
use Rattle.ink.specs.Inking.{thickness_fits}
use Rattle.read_layer.specs.Reading.{read_layer_room_for}
use Rattle.all_heights.specs.Heights.{heights_taken, not_above_last}
use Rattle.all_sweep.specs.AllLayers.{swept_layer, climb, work_room_for}
use Rattle.worked.specs.Pieces.{Input, checked, passed, cut_at, area_of, filed, edge_at, read, inked, nested}
use Rattle.worked.specs.Pieces.{Result, refused, paired, rings, LayerResult, layer as layered, number, bytes, nests}
use Rattle.worked.specs.Pieces.{with_tables, checked_as, passed_as, cut_as, area_as, filed_as, edge_as, read_file_as, inked_as, result_of}
use Rattle.nesting.specs.Nests.{no_parent}
use Rattle.worked.specs.Nested.{touching, squares_within, twins, touching_nests, within_nests, twins_nest}
use Rattle.worked.specs.SharedEdge.{cubes, cubes_pairing, cubes_at_five, uneven, cubes_accepted, cubes_cut, uneven_refused}

-- part P, and P without triangle 3 (WORKED-13)
abbrev pub P : Mesh
P =
    mesh (pos 0 ∷ pos 0 ∷ pos 0 ∷ pos 10 ∷ pos 0 ∷ pos 0 ∷ pos 0 ∷ pos 10 ∷ pos 0 ∷ pos 0 ∷ pos 0 ∷ pos 10 ∷ [])
    (0 ∷ 2 ∷ 1 ∷ 0 ∷ 1 ∷ 3 ∷ 0 ∷ 3 ∷ 2 ∷ 1 ∷ 2 ∷ 3 ∷ [])

abbrev pub opened : Mesh
opened = mesh P.coords (0 ∷ 2 ∷ 1 ∷ 0 ∷ 1 ∷ 3 ∷ 0 ∷ 3 ∷ 2 ∷ [])

-- P's heights, its pairing (WORKED-4) and the bytes of its layer file (WORKED-10), also in the clean profile (WORKED-18)
abbrev pub heights : List ℤ
heights = pos 0 ∷ pos 5 ∷ pos 10 ∷ pos 11 ∷ []

abbrev pub pairing : List ℕ
pairing = 8 ∷ 9 ∷ 3 ∷ 2 ∷ 11 ∷ 6 ∷ 5 ∷ 10 ∷ 0 ∷ 1 ∷ 7 ∷ 4 ∷ []

abbrev pub file : List ℕ
file =
    0x04 ∷ 0x00 ∷ 0x00 ∷ 0x0A ∷ 0x01 ∷ 0x03 ∷ 0x0A ∷ 0x00 ∷ 0x09 ∷ 0x0A ∷ 0x00 ∷ 0x09
    ∷ 0x14 ∷ 0x01 ∷ 0x03 ∷ 0x00 ∷ 0x00 ∷ 0x00 ∷ 0x00 ∷ 0x00 ∷ 0x00 ∷ 0x16 ∷ 0x00 ∷ []

abbrev pub clean_file : List ℕ
clean_file = 0x04 ∷ 0x00 ∷ 0x00 ∷ 0x0A ∷ 0x01 ∷ 0x03 ∷ 0x0A ∷ 0x00 ∷ 0x09 ∷ 0x0A ∷ 0x00 ∷ 0x09 ∷ 0x14 ∷ 0x00 ∷ 0x16 ∷ 0x00 ∷ []

-- the layers of P at 5 (WORKED-7) and at 10 (WORKED-8), and no contour (WORKED-9)
abbrev pub at_five : LayerResult
at_five = record {
  count = 1;
  total = 3;
  names = 4 ∷ 10 ∷ 6 ∷ [];
  points = pos 5 ∷ pos 0 ∷ pos 0 ∷ pos 5 ∷ pos 0 ∷ pos 0 ∷ [];
  ends = 3 ∷ [];
}

abbrev pub at_ten : LayerResult
at_ten = record {
  count = 1;
  total = 3;
  names = 4 ∷ 10 ∷ 6 ∷ [];
  points = pos 0 ∷ pos 0 ∷ pos 0 ∷ pos 0 ∷ pos 0 ∷ pos 0 ∷ [];
  ends = 3 ∷ [];
}

abbrev pub no_contour : LayerResult
no_contour = record { count = 0; total = 0; names = []; points = []; ends = [] }

-- ---- inputs and results

abbrev pub inputs : List Input
inputs =
    checked P
    ∷ passed P 1
    ∷ passed P 2
    ∷ cut_at P (pos 5)
    ∷ area_of (pos 5 ∷ pos 0 ∷ pos 0 ∷ pos 5 ∷ pos 0 ∷ pos 0 ∷ [])
    ∷ cut_at P (pos 10)
    ∷ cut_at P (pos 0)
    ∷ cut_at P (pos 11)
    ∷ filed Full P heights 23
    ∷ edge_at (pos 0 ∷ pos 0 ∷ pos 0 ∷ pos 1 ∷ pos 0 ∷ pos 2 ∷ []) (pos 1)
    ∷ edge_at (pos 0 ∷ pos 0 ∷ pos 0 ∷ negsuc 0 ∷ pos 0 ∷ pos 2 ∷ []) (pos 1)
    ∷ checked opened
    ∷ read Full (0x80 ∷ 0x00 ∷ [])
    ∷ filed Clean P heights 16
    ∷ read Clean file
    ∷ inked file 1000
    ∷ checked cubes
    ∷ cut_at cubes (pos 5)
    ∷ checked uneven
    ∷ nested touching
    ∷ nested squares_within
    ∷ nested twins
    ∷ []

abbrev pub results : List Result
results =
    paired pairing
    ∷ rings ((0 ∷ 6 ∷ 3 ∷ []) ∷ [])
    ∷ rings ((0 ∷ 6 ∷ 4 ∷ 9 ∷ []) ∷ [])
    ∷ layered at_five
    ∷ number (pos 25)
    ∷ layered at_ten
    ∷ layered no_contour
    ∷ layered no_contour
    ∷ bytes file
    ∷ number (pos 1)
    ∷ number (negsuc 0)
    ∷ refused 6 1
    ∷ refused 13 0
    ∷ bytes clean_file
    ∷ refused 18 14
    ∷ number (pos 1)
    ∷ paired cubes_pairing
    ∷ layered cubes_at_five
    ∷ refused 6 12
    ∷ nests (0 ∷ 0 ∷ []) (no_parent ∷ no_parent ∷ [])
    ∷ nests (0 ∷ 2 ∷ 0 ∷ 1 ∷ []) (no_parent ∷ 3 ∷ no_parent ∷ 0 ∷ [])
    ∷ nests (1 ∷ 1 ∷ 2 ∷ []) (1 ∷ 0 ∷ 0 ∷ [])
    ∷ []

-- ---- P with its pairing and order

abbrev ready : OrderedMesh
ready = ordered P.coords P.corners pairing (0 ∷ 1 ∷ 2 ∷ 3 ∷ [])

tables : with_tables P ≡ ready
unfolding with_tables verdict ◌then◌ test some least after overwrite tabulate sizes_fit check.check_room_for out_of_range names_none names_twice open_at
    partners reverse uses count stands_for pairing_of partner_of order_of order_up_to place before
tables = refl

-- ---- piece by piece

P-accepted : checked_as P ≡ paired pairing
unfolding checked_as verdict ◌then◌ test some least after overwrite tabulate sizes_fit check.check_room_for out_of_range names_none names_twice open_at
    partners reverse uses count stands_for pairing_of partner_of
P-accepted = refl

P-opened : checked_as opened ≡ refused 6 1
unfolding checked_as verdict ◌then◌ test some least sizes_fit check.check_room_for out_of_range names_none names_twice open_at partners reverse uses count
    stands_for
P-opened = refl

one_passed : passed_as ready 1 ≡ rings ((0 ∷ 6 ∷ 3 ∷ []) ∷ [])
unfolding passed_as passed_at trace trace_to trace_at flatten walk member rising rising_in successor
one_passed = refl

two_passed : passed_as ready 2 ≡ rings ((0 ∷ 6 ∷ 4 ∷ 9 ∷ []) ∷ [])
unfolding passed_as passed_at trace trace_to trace_at flatten walk member rising rising_in successor
two_passed = refl

at_5 : cut_as ready (pos 5) ≡ layered at_five
unfolding cut_as verdict ◌then◌ test some least after overwrite sizes_fit cut_room_for out_of_range names_none names_twice reverse paired_at met_at
    trace trace_to trace_at flatten walk member rising rising_in successor below ends_from numbers_of point_at exact_over exact_under numerator denominator
    rounded
at_5 = refl

at_10 : cut_as ready (pos 10) ≡ layered at_ten
unfolding cut_as verdict ◌then◌ test some least after overwrite sizes_fit cut_room_for out_of_range names_none names_twice reverse paired_at met_at
    trace trace_to trace_at flatten walk member rising rising_in successor below ends_from numbers_of point_at exact_over exact_under numerator denominator
    rounded
at_10 = refl

at_0 : cut_as ready (pos 0) ≡ layered no_contour
unfolding cut_as verdict ◌then◌ test some least after overwrite sizes_fit cut_room_for out_of_range names_none names_twice reverse paired_at met_at
    trace trace_to trace_at flatten walk member rising rising_in successor below ends_from numbers_of
at_0 = refl

at_11 : cut_as ready (pos 11) ≡ layered no_contour
unfolding cut_as verdict ◌then◌ test some least after overwrite sizes_fit cut_room_for out_of_range names_none names_twice reverse paired_at met_at
    trace trace_to trace_at flatten walk member rising rising_in successor below ends_from numbers_of
at_11 = refl

area_5 : area_as (pos 5 ∷ pos 0 ∷ pos 0 ∷ pos 5 ∷ pos 0 ∷ pos 0 ∷ []) ≡ number (pos 25)
unfolding area_as verdict ◌then◌ test some least run_fits out_of_range areas.area_of sum_of cross_of next_point
area_5 = refl

file_P : filed_as Full ready heights 23 ≡ bytes file
unfolding filed_as verdict ◌then◌ test some least overwrite tabulate sizes_fit cut_room_for work_room_for out_of_range names_none names_twice reverse paired_at
    ordered_at
    before place order_up_to order_of met_at not_above_last heights_taken unless_refused swept_layer climb fresh_ring may_rise risen_to risen_ring step_ring
    relinked touches
    passed_at ring_entry has_link trace_links below rising rising_in successor member walk trace_at flatten trace_to point_at exact_over exact_under numerator
    denominator
    rounded encode_all groups encode_number coordinate_format point_format contour_format contour_list_in height_above layer_format_in layer_file_in
file_P = refl

-- its layer at 10 stays, without the contour of three equal points
clean_P : filed_as Clean ready heights 16 ≡ bytes clean_file
unfolding filed_as verdict ◌then◌ test some least overwrite tabulate sizes_fit cut_room_for work_room_for out_of_range names_none names_twice reverse paired_at
    ordered_at
    before place order_up_to order_of met_at not_above_last heights_taken unless_refused swept_layer climb fresh_ring may_rise risen_to risen_ring step_ring
    relinked touches
    passed_at ring_entry has_link trace_links below rising rising_in successor member walk trace_at flatten trace_to point_at exact_over exact_under numerator
    denominator
    rounded cleaned kept neat unrepeated trimmed same_point variety among encode_all groups encode_number coordinate_format point_format contour_format
    contour_list_in
    height_above layer_format_in layer_file_in
clean_P = refl

half : edge_as (pos 0 ∷ pos 0 ∷ pos 0 ∷ pos 1 ∷ pos 0 ∷ pos 2 ∷ []) (pos 1) ≡ number (pos 1)
unfolding edge_as point_at exact_over exact_under numerator denominator rounded
half = refl

minus_half : edge_as (pos 0 ∷ pos 0 ∷ pos 0 ∷ negsuc 0 ∷ pos 0 ∷ pos 2 ∷ []) (pos 1) ≡ number (negsuc 0)
unfolding edge_as point_at exact_over exact_under numerator denominator rounded
minus_half = refl

too_long : read_file_as Full (0x80 ∷ 0x00 ∷ []) ≡ refused 13 0
unfolding read_file_as verdict ◌then◌ test some least broken_at held_or read_layer_room_for layers_of_in layer_file_in layer_format_in height_above
    contour_list_in
    contour_format
    point_format coordinate_format parse_number
    parse_all
too_long = refl

-- the contour of three equal points at height 10 (WORKED-19)
unclean_P : read_file_as Clean file ≡ refused 18 14
unfolding read_file_as verdict ◌then◌ test some least broken_at held_or read_layer_room_for layers_of_in layer_file_in layer_format_in height_above
    contour_list_in
    contour_format
    point_format coordinate_format parse_number parse_all is_clean same_points kept neat unrepeated trimmed same_point variety among
unclean_P = refl

-- the layers of P, by their areas, and what they are charged
areas_P : map (λ l. layer_area l.contours) (layers_in file) ≡ pos 0 ∷ pos 25 ∷ pos 0 ∷ pos 0 ∷ []
unfolding held_or layers_of_in layer_file_in layer_format_in height_above contour_list_in contour_format point_format coordinate_format parse_number parse_all
    layer_area contour_area area_from cross_points
areas_P = refl

ink_P : inked_as file 1000 ≡ number (pos 1)
unfolding inked_as verdict ◌then◌ test some least broken_at held_or layers_of_in layer_file_in layer_format_in height_above contour_list_in contour_format
    point_format
    coordinate_format parse_number parse_all thickness_fits job_charge layer_charge layer_area contour_area area_from cross_points
ink_P = refl

-- ---- all of them

-- what holds of P with this pairing and order holds of it with those that Check leaves
from_ready : {r : Result} (f : OrderedMesh → Result) → f ready ≡ r → f (with_tables P) ≡ r
from_ready f e = ap f tables ∙ e

pub worked : map result_of inputs ≡ results
unfolding result_of
worked = λ i.
    P-accepted i
    ∷ from_ready (λ m. passed_as m 1) one_passed i
    ∷ from_ready (λ m. passed_as m 2) two_passed i
    ∷ from_ready (λ m. cut_as m (pos 5)) at_5 i
    ∷ area_5 i
    ∷ from_ready (λ m. cut_as m (pos 10)) at_10 i
    ∷ from_ready (λ m. cut_as m (pos 0)) at_0 i
    ∷ from_ready (λ m. cut_as m (pos 11)) at_11 i
    ∷ from_ready (λ m. filed_as Full m heights 23) file_P i
    ∷ half i
    ∷ minus_half i
    ∷ P-opened i
    ∷ too_long i
    ∷ from_ready (λ m. filed_as Clean m heights 16) clean_P i
    ∷ unclean_P i
    ∷ ink_P i
    ∷ cubes_accepted i
    ∷ cubes_cut i
    ∷ uneven_refused i
    ∷ touching_nests i
    ∷ within_nests i
    ∷ twins_nest i
    ∷ []

-- The worked layer file (WORKED-10), from part P to its 23 bytes, and to the 16 of its clean file, by computation from the definitions.
use Rattle.std.specs.Prelude.{ℕ, ◌≡◌, refl, replicate, ℤ, pos}
use mathlib.Core.List.{List, [], ◌∷◌, flatten}
use Rattle.laws.specs.Least.{least, some}
use Rattle.laws.specs.Tables.{tabulate, overwrite}
use Rattle.mesh.specs.Meshes.{OrderedMesh, ordered}
use Rattle.mesh.specs.Operation.{gives, refuses, test, ◌then◌, verdict, answer_of}
use Rattle.mesh.specs.Order.{before, place, order_up_to, order_of}
use Rattle.mesh.specs.Refusals.{refusal}
use Rattle.mesh.specs.Tests.{sizes_fit, out_of_range, names_none, names_twice, reverse, paired_at, ordered_at}
use Rattle.cleaning.specs.Cleaning.{same_point, unrepeated, trimmed, neat, among, variety, kept, cleaned}
use Rattle.cleaning.specs.declared.Profile.TheVariants.{Full, Clean}
use Rattle.section.specs.Section.{below, rising, rising_in, successor, ring_entry}
use Rattle.section.specs.Contours.{member, walk, trace_at, trace_to}
use Rattle.section.specs.Links.{has_link, trace_links}
use Rattle.cut_points.specs.Points.{numerator, denominator, rounded, exact_over, exact_under, point_at}
use Rattle.cut.specs.Cut.{cut_room_for, met_at}
use Rattle.file_formats.specs.Formats.{encode_all}
use Rattle.file_formats.specs.Numbers.{groups, encode_number}
use Rattle.file_formats.specs.LayerFile.{coordinate_format, point_format, contour_format, contour_list_in, height_above, layer_format_in, layer_file_in}
use Rattle.sweep.specs.Sweep.{passed_at, fresh_ring, touches, relinked, step_ring, may_rise, risen_to, risen_ring}
use Rattle.all_heights.specs.Heights.{lower, higher, lowest_to, highest_to, default_count, heights_taken, not_above_last}
use Rattle.all_sweep.specs.AllLayers.{swept_layer, climb, swept_file, WorkTables, work, work_room_for, filing}

-- part P with its pairing and its order
abbrev coords : List ℤ
coords = pos 0 ∷ pos 0 ∷ pos 0 ∷ pos 10 ∷ pos 0 ∷ pos 0 ∷ pos 0 ∷ pos 10 ∷ pos 0 ∷ pos 0 ∷ pos 0 ∷ pos 10 ∷ []

abbrev corners : List ℕ
corners = 0 ∷ 2 ∷ 1 ∷ 0 ∷ 1 ∷ 3 ∷ 0 ∷ 3 ∷ 2 ∷ 1 ∷ 2 ∷ 3 ∷ []

abbrev pairing : List ℕ
pairing = 8 ∷ 9 ∷ 3 ∷ 2 ∷ 11 ∷ 6 ∷ 5 ∷ 10 ∷ 0 ∷ 1 ∷ 7 ∷ 4 ∷ []

abbrev p : OrderedMesh
p = ordered coords corners pairing (0 ∷ 1 ∷ 2 ∷ 3 ∷ [])

abbrev heights : List ℤ
heights = pos 0 ∷ pos 5 ∷ pos 10 ∷ pos 11 ∷ []

-- work tables of 12 and 24 entries
abbrev ring : List ℕ
ring = replicate 12 7

abbrev w : WorkTables
w = work (replicate 12 7) (replicate 24 (pos 7)) (replicate 12 7) (replicate 12 7) ring

file : swept_file Full p ring (heights_taken coords heights)
    ≡ 0x04 ∷ 0x00 ∷ 0x00 ∷ 0x0A ∷ 0x01 ∷ 0x03 ∷ 0x0A ∷ 0x00 ∷ 0x09 ∷ 0x0A ∷ 0x00 ∷ 0x09 ∷ 0x14 ∷ 0x01 ∷ 0x03 ∷ 0x00 ∷ 0x00 ∷ 0x00 ∷ 0x00 ∷ 0x00 ∷ 0x00 ∷ 0x16
    ∷ 0x00 ∷ []
unfolding heights_taken swept_layer climb fresh_ring tabulate overwrite may_rise risen_to risen_ring step_ring relinked touches ring_entry passed_at below
    rising
    rising_in successor member walk trace_at flatten trace_to trace_links has_link numerator denominator rounded exact_over exact_under point_at encode_all
    groups
    encode_number coordinate_format point_format contour_format contour_list_in height_above layer_format_in layer_file_in
file = refl

-- in the clean profile the layer at 10 stays, without its contour of three equal points
clean_file_lem : swept_file Clean p ring (heights_taken coords heights)
    ≡ 0x04 ∷ 0x00 ∷ 0x00 ∷ 0x0A ∷ 0x01 ∷ 0x03 ∷ 0x0A ∷ 0x00 ∷ 0x09 ∷ 0x0A ∷ 0x00 ∷ 0x09 ∷ 0x14 ∷ 0x00 ∷ 0x16 ∷ 0x00 ∷ []
unfolding heights_taken swept_layer climb fresh_ring tabulate overwrite may_rise risen_to risen_ring step_ring relinked touches ring_entry passed_at below
    rising
    rising_in successor member walk trace_at flatten trace_to trace_links has_link numerator denominator rounded exact_over exact_under point_at cleaned kept
    neat
    unrepeated trimmed same_point variety among encode_all groups encode_number coordinate_format point_format contour_format contour_list_in height_above
    layer_format_in
    layer_file_in
clean_file_lem = refl

-- without heights given P has no layer: it is lower than the first default height
none : swept_file Full p ring (heights_taken coords []) ≡ 0x00 ∷ []
unfolding heights_taken climb lower higher lowest_to highest_to default_count tabulate encode_all groups encode_number layer_file_in
none = refl

-- an output of 23 bytes is enough; one of 22 is not
enough : answer_of (filing (Full, p, heights, w, replicate 23 7)) ≡ gives 23
unfolding verdict ◌then◌ test some least sizes_fit work_room_for cut_room_for out_of_range names_none names_twice reverse paired_at ordered_at before place
    order_up_to
    order_of
    met_at not_above_last heights_taken swept_layer climb fresh_ring tabulate overwrite may_rise risen_to risen_ring step_ring relinked touches ring_entry
    passed_at
    below rising rising_in successor member walk trace_at flatten trace_to trace_links has_link numerator denominator rounded exact_over exact_under point_at
    encode_all
    groups encode_number coordinate_format point_format contour_format contour_list_in height_above layer_format_in layer_file_in
enough = refl

short : verdict (filing (Full, p, heights, w, replicate 22 7)).refusals ≡ refuses (refusal 14 0)
unfolding verdict ◌then◌ test some least sizes_fit work_room_for cut_room_for out_of_range names_none names_twice reverse paired_at ordered_at before place
    order_up_to
    order_of
    met_at not_above_last heights_taken swept_layer climb fresh_ring tabulate overwrite may_rise risen_to risen_ring step_ring relinked touches ring_entry
    passed_at
    below rising rising_in successor member walk trace_at flatten trace_to trace_links has_link numerator denominator rounded exact_over exact_under point_at
    encode_all
    groups encode_number coordinate_format point_format contour_format contour_list_in height_above layer_format_in layer_file_in
short = refl

-- a height that is not above its forerunner is refused at its position
falling : verdict (filing (Full, p, pos 0 ∷ pos 5 ∷ pos 5 ∷ [], w, [])).refusals ≡ refuses (refusal 12 2)
unfolding verdict ◌then◌ test some least sizes_fit work_room_for cut_room_for out_of_range names_none names_twice reverse paired_at ordered_at before place
    order_up_to
    order_of
    not_above_last heights_taken
falling = refl

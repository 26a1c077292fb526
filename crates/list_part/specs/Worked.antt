-- The listing of part P (WORKED-17) and of some refusals, by computation from the definitions.
use Rattle.std.specs.Prelude.{ℕ, ◌≡◌, refl}
use mathlib.Core.List.{List, [], ◌∷◌, ◌++◌, flatten}
use Rattle.laws.specs.Count.{count}
use Rattle.laws.specs.Least.{least, some}
use Rattle.laws.specs.Tables.{tabulate}
use Rattle.mesh.specs.Operation.{test, ◌then◌, verdict}
use Rattle.mesh.specs.Tests.{sizes_fit, out_of_range, names_none, names_twice, reverse}
use Rattle.check_pairing.specs.Partners.{stands_for, uses, partners, open_at, partner_of, pairing_of}
use Rattle.check_mesh.specs.Check.{check_room_for}
use Rattle.section.specs.Section.{below, rising, rising_in, successor}
use Rattle.section.specs.Contours.{member, walk, trace_at, trace_to, trace}
use Rattle.cut_points.specs.Points.{numerator, denominator, rounded, exact_over, exact_under, point_at, numbers_of}
use Rattle.contours.specs.Areas.{cross_of, next_point, sum_of, area_of}
use Rattle.file_formats.specs.Formats.{parse_all}
use Rattle.file_formats.specs.Numbers.{parse_number}
use Rattle.file_formats.specs.PartFile.{signed_run, plain_run, signed_list, counts_format, tables_for, part_file, part_of}
use Rattle.file_formats.specs.WholeFiles.{broken_at, held_or}
use Rattle.all_heights.specs.Heights.{lower, higher, lowest_to, highest_to, default_count, default_height, heights_taken, not_above_last}
use Rattle.list_decimals.specs.Decimals.{digits, decimal, signed_decimal}
use Rattle.list_lines.specs.Lines.{refused_line, layers_line, layer_line, area_sum, line_of, line_at, listing}
use Rattle.list_part.specs.Listing.{beyond, listed}

-- ---- the listing

-- part P: its vertices, its first three triangles and the last
vertices : List ℕ
vertices = 0x00 ∷ 0x00 ∷ 0x00 ∷ 0x14 ∷ 0x00 ∷ 0x00 ∷ 0x00 ∷ 0x14 ∷ 0x00 ∷ 0x00 ∷ 0x00 ∷ 0x14 ∷ []

three : List ℕ
three = 0x00 ∷ 0x02 ∷ 0x01 ∷ 0x00 ∷ 0x01 ∷ 0x03 ∷ 0x00 ∷ 0x03 ∷ 0x02 ∷ []

last : List ℕ
last = 0x01 ∷ 0x02 ∷ 0x03 ∷ []

-- for P it prints five lines, with the heights 0, 5, 10 and 11 (WORKED-17)
five_lines : listed ((0x04 ∷ 0x04 ∷ vertices) ++ (three ++ (last ++ (0x04 ∷ 0x00 ∷ 0x0A ∷ 0x14 ∷ 0x16 ∷ []))))
    ≡ (108 ∷ 97 ∷ 121 ∷ 101 ∷ 114 ∷ 115 ∷ 32 ∷ 52 ∷ 10 ∷ [])
    ++ ((108 ∷ 97 ∷ 121 ∷ 101 ∷ 114 ∷ 32 ∷ 48 ∷ 32 ∷ 48 ∷ 32 ∷ 48 ∷ 32 ∷ 48 ∷ 10 ∷ [])
    ++ ((108 ∷ 97 ∷ 121 ∷ 101 ∷ 114 ∷ 32 ∷ 53 ∷ 32 ∷ 49 ∷ 32 ∷ 51 ∷ 32 ∷ 50 ∷ 53 ∷ 10 ∷ [])
    ++ ((108 ∷ 97 ∷ 121 ∷ 101 ∷ 114 ∷ 32 ∷ 49 ∷ 48 ∷ 32 ∷ 49 ∷ 32 ∷ 51 ∷ 32 ∷ 48 ∷ 10 ∷ [])
    ++ (108 ∷ 97 ∷ 121 ∷ 101 ∷ 114 ∷ 32 ∷ 49 ∷ 49 ∷ 32 ∷ 48 ∷ 32 ∷ 48 ∷ 32 ∷ 48 ∷ 10 ∷ []))))
unfolding vertices three last listed verdict ◌then◌ test some least beyond
    broken_at held_or part_of part_file tables_for counts_format signed_list plain_run signed_run parse_number parse_all
    heights_taken not_above_last sizes_fit check_room_for out_of_range names_none names_twice open_at partners reverse uses count stands_for partner_of
    pairing_of tabulate
    below trace trace_to trace_at walk member rising rising_in successor numbers_of point_at exact_over exact_under numerator denominator rounded
    cross_of next_point sum_of area_of layers_line layer_line area_sum line_of line_at listing flatten signed_decimal decimal digits
five_lines = refl

-- no mesh and no heights: "layers 0"
nothing : listed (0x00 ∷ 0x00 ∷ 0x00 ∷ []) ≡ 108 ∷ 97 ∷ 121 ∷ 101 ∷ 114 ∷ 115 ∷ 32 ∷ 48 ∷ 10 ∷ []
unfolding listed verdict ◌then◌ test some least beyond
    broken_at held_or part_of part_file tables_for counts_format signed_list plain_run signed_run parse_number parse_all
    heights_taken lowest_to highest_to lower higher default_count default_height tabulate not_above_last
    sizes_fit check_room_for out_of_range names_none names_twice open_at partners reverse uses count stands_for
    layers_line line_at listing flatten decimal digits
nothing = refl

-- ---- refusals

-- bytes 80 00: "refused 13 0"
needless : listed (0x80 ∷ 0x00 ∷ []) ≡ 114 ∷ 101 ∷ 102 ∷ 117 ∷ 115 ∷ 101 ∷ 100 ∷ 32 ∷ 49 ∷ 51 ∷ 32 ∷ 48 ∷ 10 ∷ []
unfolding listed verdict ◌then◌ test some least beyond
    broken_at held_or part_of part_file tables_for counts_format signed_list plain_run signed_run parse_number parse_all refused_line flatten decimal digits
needless = refl

-- P without triangle 3: "refused 6 1"
open_edge_lem : listed ((0x04 ∷ 0x03 ∷ vertices) ++ (three ++ (0x00 ∷ []))) ≡ 114 ∷ 101 ∷ 102 ∷ 117 ∷ 115 ∷ 101 ∷ 100 ∷ 32 ∷ 54 ∷ 32 ∷ 49 ∷ 10 ∷ []
unfolding vertices three listed verdict ◌then◌ test some least beyond
    broken_at held_or part_of part_file tables_for counts_format signed_list plain_run signed_run parse_number parse_all
    heights_taken lowest_to highest_to lower higher default_count default_height tabulate not_above_last
    sizes_fit check_room_for out_of_range names_none names_twice open_at partners reverse uses count stands_for refused_line flatten decimal digits
open_edge_lem = refl

-- P with the heights 0, 5 and 5: "refused 12 2"
equal_heights : listed ((0x04 ∷ 0x04 ∷ vertices) ++ (three ++ (last ++ (0x03 ∷ 0x00 ∷ 0x0A ∷ 0x0A ∷ []))))
    ≡ 114 ∷ 101 ∷ 102 ∷ 117 ∷ 115 ∷ 101 ∷ 100 ∷ 32 ∷ 49 ∷ 50 ∷ 32 ∷ 50 ∷ 10 ∷ []
unfolding vertices three last listed verdict ◌then◌ test some least beyond
    broken_at held_or part_of part_file tables_for counts_format signed_list plain_run signed_run parse_number parse_all
    heights_taken sizes_fit check_room_for out_of_range names_none names_twice open_at partners reverse uses count stands_for not_above_last refused_line
    flatten decimal
    digits
equal_heights = refl

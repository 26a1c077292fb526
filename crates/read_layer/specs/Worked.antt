-- Worked values of Read layer, by computation: layer 1 of part
-- P's file (WORKED-10), and each refusal (WORKED-14 for 13), in both profiles.
use Rattle.std.specs.Prelude.{◌≡◌, refl, ℕ, ℤ, pos}
use mathlib.Core.List.{List, [], ◌∷◌, ◌++◌, flatten}
use Rattle.laws.specs.Least.{least, some}
use Rattle.laws.specs.Tables.{overwrite}
use Rattle.mesh.specs.Operation.{Answer, gives, refuses, test, ◌then◌, verdict, after, answer_of, left_by}
use Rattle.mesh.specs.Refusals.{Told, refusal}
use Rattle.polygons.specs.Flat.{FlatLayer, flat, numbers_of, ends_from}
use Rattle.cleaning.specs.Cleaning.{same_point, unrepeated, trimmed, neat, among, variety, kept, same_points, is_clean}
use Rattle.cleaning.specs.declared.Profile.{Profile}
use Rattle.cleaning.specs.declared.Profile.TheVariants.{Full, Clean}
use Rattle.file_formats.specs.Formats.{parse_all}
use Rattle.file_formats.specs.Numbers.{parse_number}
use Rattle.file_formats.specs.LayerFile.{coordinate_format, point_format, contour_format, contour_list_in, height_above, layer_format_in, layer_file_in}
use Rattle.file_formats.specs.LayerFile.{layers_of_in}
use Rattle.file_formats.specs.WholeFiles.{broken_at, held_or}
use Rattle.read_layer.specs.Reading.{read_layer_room_for, layer_reading}

-- the layer file of part P, and tables of seven and two entries
abbrev file : List ℕ
file =
    0x04 ∷ 0x00 ∷ 0x00 ∷ 0x0A ∷ 0x01 ∷ 0x03 ∷ 0x0A ∷ 0x00 ∷ 0x09 ∷ 0x0A ∷ 0x00 ∷ 0x09
    ∷ 0x14 ∷ 0x01 ∷ 0x03 ∷ 0x00 ∷ 0x00 ∷ 0x00 ∷ 0x00 ∷ 0x00 ∷ 0x00 ∷ 0x16 ∷ 0x00 ∷ []

abbrev points : List ℤ
points = pos 7 ∷ pos 7 ∷ pos 7 ∷ pos 7 ∷ pos 7 ∷ pos 7 ∷ pos 7 ∷ []

abbrev ends : List ℕ
ends = 7 ∷ 7 ∷ []

-- the answer to a call
abbrev read : Profile → List ℕ → ℕ → FlatLayer → Answer Told (ℕ × ℤ × ℕ × ℕ)
read p file i t = answer_of (layer_reading (p, file, i, t))

-- ---- layer 1: height 5, one contour with the points (5, 0), (0, 5), (0, 0)

answered : read Full file 1 (flat points ends) ≡ gives (4, pos 5, 1, 3)
unfolding ◌then◌ verdict test some least broken_at held_or read_layer_room_for
    layers_of_in layer_file_in layer_format_in height_above contour_list_in contour_format point_format coordinate_format parse_number parse_all
answered = refl

filled : left_by (layer_reading (Full, file, 1, flat points ends)) ≡ flat (pos 5 ∷ pos 0 ∷ pos 0 ∷ pos 5 ∷ pos 0 ∷ pos 0 ∷ pos 7 ∷ []) (3 ∷ 7 ∷ [])
unfolding after overwrite numbers_of flatten ends_from ◌then◌ verdict test some least broken_at held_or read_layer_room_for
    layers_of_in layer_file_in layer_format_in height_above contour_list_in contour_format point_format coordinate_format parse_number parse_all
filled = refl

-- ---- refusals: 13 for the bytes 80 00, 15 for layer 4, 9 for a table of five entries for points and for one of none for ends

needless : read Full (0x80 ∷ 0x00 ∷ []) 0 (flat points ends) ≡ refuses (refusal 13 0)
unfolding ◌then◌ verdict test some least broken_at held_or read_layer_room_for
    layers_of_in layer_file_in layer_format_in height_above contour_list_in contour_format point_format coordinate_format parse_number parse_all
needless = refl

no_such_layer : read Full file 4 (flat [] []) ≡ refuses (refusal 15 0)
unfolding ◌then◌ verdict test some least broken_at held_or read_layer_room_for
    layers_of_in layer_file_in layer_format_in height_above contour_list_in contour_format point_format coordinate_format parse_number parse_all
no_such_layer = refl

few_points : read Full file 1 (flat (pos 7 ∷ pos 7 ∷ pos 7 ∷ pos 7 ∷ pos 7 ∷ []) ends) ≡ refuses (refusal 9 0)
unfolding ◌then◌ verdict test some least broken_at held_or read_layer_room_for
    layers_of_in layer_file_in layer_format_in height_above contour_list_in contour_format point_format coordinate_format parse_number parse_all
few_points = refl

few_ends : read Full file 1 (flat points []) ≡ refuses (refusal 9 0)
unfolding ◌then◌ verdict test some least broken_at held_or read_layer_room_for
    layers_of_in layer_file_in layer_format_in height_above contour_list_in contour_format point_format coordinate_format parse_number parse_all
few_ends = refl

-- ---- the clean profile (READCLEAN-1 to READCLEAN-3)

-- the contour at height 10 is (0, 0) three times: 18 at its first byte, the 03 at position 14, whichever layer is asked for
unclean : read Clean file 1 (flat points ends) ≡ refuses (refusal 18 14)
unfolding ◌then◌ verdict test some least broken_at held_or read_layer_room_for
    layers_of_in layer_file_in layer_format_in height_above contour_list_in contour_format point_format coordinate_format parse_number parse_all
    same_point unrepeated trimmed neat among variety kept same_points is_clean
unclean = refl

unclean_other : read Clean file 0 (flat [] []) ≡ refuses (refusal 18 14)
unfolding ◌then◌ verdict test some least broken_at held_or read_layer_room_for
    layers_of_in layer_file_in layer_format_in height_above contour_list_in contour_format point_format coordinate_format parse_number parse_all
    same_point unrepeated trimmed neat among variety kept same_points is_clean
unclean_other = refl

-- 18 before 15 and 9
unclean_first : read Clean file 4 (flat [] []) ≡ refuses (refusal 18 14)
unfolding ◌then◌ verdict test some least broken_at held_or read_layer_room_for
    layers_of_in layer_file_in layer_format_in height_above contour_list_in contour_format point_format coordinate_format parse_number parse_all
    same_point unrepeated trimmed neat among variety kept same_points is_clean
unclean_first = refl

-- 13 before 18, though its place is a later one: a byte left over
broken_first : read Clean (file ++ (0x00 ∷ [])) 1 (flat points ends) ≡ refuses (refusal 13 23)
unfolding ◌then◌ verdict test some least broken_at held_or read_layer_room_for
    layers_of_in layer_file_in layer_format_in height_above contour_list_in contour_format point_format coordinate_format parse_number parse_all
    same_point unrepeated trimmed neat among variety kept same_points is_clean
broken_first = refl

-- the same layers cleaned: the one at height 10 stays, without contours
abbrev clean_file : List ℕ
clean_file =
    0x04 ∷ 0x00 ∷ 0x00 ∷ 0x0A ∷ 0x01 ∷ 0x03 ∷ 0x0A ∷ 0x00 ∷ 0x09 ∷ 0x0A ∷ 0x00 ∷ 0x09 ∷ 0x14 ∷ 0x00 ∷ 0x16 ∷ 0x00 ∷ []

clean_read : read Clean clean_file 1 (flat points ends) ≡ gives (4, pos 5, 1, 3)
unfolding ◌then◌ verdict test some least broken_at held_or read_layer_room_for
    layers_of_in layer_file_in layer_format_in height_above contour_list_in contour_format point_format coordinate_format parse_number parse_all
    same_point unrepeated trimmed neat among variety kept same_points is_clean
clean_read = refl

clean_filled : left_by (layer_reading (Clean, clean_file, 1, flat points ends)) ≡ flat (pos 5 ∷ pos 0 ∷ pos 0 ∷ pos 5 ∷ pos 0 ∷ pos 0 ∷ pos 7 ∷ []) (3 ∷ 7 ∷ [])
unfolding after overwrite numbers_of flatten ends_from ◌then◌ verdict test some least broken_at held_or read_layer_room_for
    layers_of_in layer_file_in layer_format_in height_above contour_list_in contour_format point_format coordinate_format parse_number parse_all
    same_point unrepeated trimmed neat among variety kept same_points is_clean
clean_filled = refl

-- a clean file, and no layer 4
clean_no_layer : read Clean clean_file 4 (flat [] []) ≡ refuses (refusal 15 0)
unfolding ◌then◌ verdict test some least broken_at held_or read_layer_room_for
    layers_of_in layer_file_in layer_format_in height_above contour_list_in contour_format point_format coordinate_format parse_number parse_all
    same_point unrepeated trimmed neat among variety kept same_points is_clean
clean_no_layer = refl

-- a last point equal to the first: (0, 0), (5, 0), (0, 5), (0, 0), refused at its count
end_at_first : read Clean (0x01 ∷ 0x00 ∷ 0x01 ∷ 0x04 ∷ 0x00 ∷ 0x00 ∷ 0x0A ∷ 0x00 ∷ 0x09 ∷ 0x0A ∷ 0x00 ∷ 0x09 ∷ []) 0 (flat points ends) ≡ refuses (refusal 18 3)
unfolding ◌then◌ verdict test some least broken_at held_or read_layer_room_for
    layers_of_in layer_file_in layer_format_in height_above contour_list_in contour_format point_format coordinate_format parse_number parse_all
    same_point unrepeated trimmed neat among variety kept same_points is_clean
end_at_first = refl

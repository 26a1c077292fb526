-- The worked layer file (WORKED-10) and some values at the limits, by computation.
use Rattle.std.specs.Prelude.{◌≡◌, refl, List, [], ◌∷◌, ℕ, ℤ, pos, negsuc}
use Rattle.cleaning.specs.Cleaning.{same_point, unrepeated, trimmed, neat, among, variety, kept, same_points, is_clean}
use Rattle.cleaning.specs.declared.Profile.TheVariants.{Clean}
use Rattle.file_formats.specs.Formats.{holds, broken, encode_all, parse_all}
use Rattle.file_formats.specs.Numbers.{groups, encode_number, parse_number}
use Rattle.file_formats.specs.LayerFile.{Point, Layer, coordinate_format, point_format, contour_format, contour_list_in, height_above, layer_format_in}
use Rattle.file_formats.specs.LayerFile.{layer_file}
use Rattle.file_formats.specs.LayerFile.{layer_file_in}
use Rattle.file_formats.specs.LayerFile.{layers_of, layers_of_in}
use Rattle.file_formats.specs.PartFile.{Part, signed_run, plain_run, signed_list, counts_format, tables_for, part_file, part_of}

at : ℤ → ℤ → Point
at x y = record { x = x; y = y }

-- ---- the layer file of part P (WORKED-10)

layers : List Layer
layers =
    record { height = pos 0; contours = [] }
    ∷ record { height = pos 5; contours = (at (pos 5) (pos 0) ∷ at (pos 0) (pos 5) ∷ at (pos 0) (pos 0) ∷ []) ∷ [] }
    ∷ record { height = pos 10; contours = (at (pos 0) (pos 0) ∷ at (pos 0) (pos 0) ∷ at (pos 0) (pos 0) ∷ []) ∷ [] }
    ∷ record { height = pos 11; contours = [] }
    ∷ []

file : List ℕ
file =
    0x04 ∷ 0x00 ∷ 0x00 ∷ 0x0A ∷ 0x01 ∷ 0x03 ∷ 0x0A ∷ 0x00 ∷ 0x09 ∷ 0x0A ∷ 0x00 ∷ 0x09 ∷ 0x14 ∷ 0x01 ∷ 0x03 ∷ 0x00 ∷ 0x00 ∷ 0x00 ∷ 0x00 ∷ 0x00 ∷ 0x00 ∷ 0x16 ∷
    0x00 ∷ []

written : layer_file.encode layers ≡ file
unfolding layers file at layer_file_in layer_format_in height_above contour_list_in contour_format point_format coordinate_format encode_number groups
    encode_all
written = refl

read : layers_of file ≡ holds layers
unfolding layers file at layers_of_in layer_file_in layer_format_in height_above contour_list_in contour_format point_format coordinate_format parse_number
    parse_all
read = refl

-- in the clean profile it breaks at the contour at height 10, which is (0, 0) three times; without that it is read
not_clean : layers_of_in Clean file ≡ broken 14
unfolding file layers_of_in layer_file_in layer_format_in height_above contour_list_in contour_format point_format coordinate_format parse_number parse_all
    same_point unrepeated trimmed neat among variety kept same_points is_clean
not_clean = refl

clean : layers_of_in Clean (0x01 ∷ 0x0A ∷ 0x01 ∷ 0x03 ∷ 0x0A ∷ 0x00 ∷ 0x09 ∷ 0x0A ∷ 0x00 ∷ 0x09 ∷ [])
    ≡ holds (record { height = pos 5; contours = (at (pos 5) (pos 0) ∷ at (pos 0) (pos 5) ∷ at (pos 0) (pos 0) ∷ []) ∷ [] } ∷ [])
unfolding at layers_of_in layer_file_in layer_format_in height_above contour_list_in contour_format point_format coordinate_format parse_number parse_all
    same_point unrepeated trimmed neat among variety kept same_points is_clean
clean = refl

-- ---- refusal 13: a needless group, a missing value, a byte left over, a value cut short

needless : layers_of (0x80 ∷ 0x00 ∷ []) ≡ broken 0
unfolding layers_of_in layer_file_in layer_format_in height_above contour_list_in contour_format point_format coordinate_format parse_number parse_all
needless = refl

missing : layers_of (0x01 ∷ []) ≡ broken 1
unfolding layers_of_in layer_file_in layer_format_in height_above contour_list_in contour_format point_format coordinate_format parse_number parse_all
missing = refl

left_over : layers_of (0x01 ∷ 0x02 ∷ 0x00 ∷ 0x07 ∷ []) ≡ broken 3
unfolding layers_of_in layer_file_in layer_format_in height_above contour_list_in contour_format point_format coordinate_format parse_number parse_all
left_over = refl

cut_short : layers_of (0x01 ∷ 0x02 ∷ 0x80 ∷ []) ≡ broken 2
unfolding layers_of_in layer_file_in layer_format_in height_above contour_list_in contour_format point_format coordinate_format parse_number parse_all
cut_short = refl

-- a second layer that is not above the first
not_rising : layers_of (0x02 ∷ 0x02 ∷ 0x00 ∷ 0x02 ∷ 0x00 ∷ []) ≡ broken 3
unfolding layers_of_in layer_file_in layer_format_in height_above contour_list_in contour_format point_format coordinate_format parse_number parse_all
not_rising = refl

-- a contour of one point
one_point : layers_of (0x01 ∷ 0x00 ∷ 0x01 ∷ 0x01 ∷ 0x00 ∷ 0x00 ∷ []) ≡ broken 3
unfolding layers_of_in layer_file_in layer_format_in height_above contour_list_in contour_format point_format coordinate_format parse_number parse_all
one_point = refl

-- ---- the limits

-- 4,096 layers may be told, of which the first is missing here, and 4,097 not
most_told : layers_of (0x80 ∷ 0x20 ∷ []) ≡ broken 2
unfolding layers_of_in layer_file_in layer_format_in height_above contour_list_in contour_format point_format coordinate_format parse_number parse_all
most_told = refl

too_many_layers : layers_of (0x81 ∷ 0x20 ∷ []) ≡ broken 0
unfolding layers_of_in layer_file_in layer_format_in height_above contour_list_in contour_format point_format coordinate_format parse_number parse_all
too_many_layers = refl

-- 98,304 points of a contour may be told, of which the first is missing here, and 98,305 not
most_points_told : layers_of (0x01 ∷ 0x00 ∷ 0x01 ∷ 0x80 ∷ 0x80 ∷ 0x06 ∷ []) ≡ broken 6
unfolding layers_of_in layer_file_in layer_format_in height_above contour_list_in contour_format point_format coordinate_format parse_number parse_all
most_points_told = refl

too_many_points : layers_of (0x01 ∷ 0x00 ∷ 0x01 ∷ 0x81 ∷ 0x80 ∷ 0x06 ∷ []) ≡ broken 3
unfolding layers_of_in layer_file_in layer_format_in height_above contour_list_in contour_format point_format coordinate_format parse_number parse_all
too_many_points = refl

-- two points leave room for 98,302 more, and not for 98,303
room_left : layers_of (0x01 ∷ 0x00 ∷ 0x02 ∷ 0x02 ∷ 0x00 ∷ 0x00 ∷ 0x00 ∷ 0x00 ∷ 0xFE ∷ 0xFF ∷ 0x05 ∷ []) ≡ broken 11
unfolding layers_of_in layer_file_in layer_format_in height_above contour_list_in contour_format point_format coordinate_format parse_number parse_all
room_left = refl

no_room_left : layers_of (0x01 ∷ 0x00 ∷ 0x02 ∷ 0x02 ∷ 0x00 ∷ 0x00 ∷ 0x00 ∷ 0x00 ∷ 0xFF ∷ 0xFF ∷ 0x05 ∷ []) ≡ broken 8
unfolding layers_of_in layer_file_in layer_format_in height_above contour_list_in contour_format point_format coordinate_format parse_number parse_all
no_room_left = refl

-- the largest number of 32 bits, and one more as a height
largest_number : encode_number 4294967295 ≡ 0xFF ∷ 0xFF ∷ 0xFF ∷ 0xFF ∷ 0x0F ∷ []
unfolding encode_number groups
largest_number = refl

over_word : layers_of (0x01 ∷ 0x80 ∷ 0x80 ∷ 0x80 ∷ 0x80 ∷ 0x10 ∷ 0x00 ∷ []) ≡ broken 1
unfolding layers_of_in layer_file_in layer_format_in height_above contour_list_in contour_format point_format coordinate_format parse_number parse_all
over_word = refl

-- a coordinate of 1,048,576 passes and one more does not
farthest : layers_of (0x01 ∷ 0x00 ∷ 0x01 ∷ 0x02 ∷ 0x80 ∷ 0x80 ∷ 0x80 ∷ 0x01 ∷ 0x00 ∷ 0x00 ∷ 0x00 ∷ [])
    ≡ holds (record { height = pos 0; contours = (at (pos 1048576) (pos 0) ∷ at (pos 1048576) (pos 0) ∷ []) ∷ [] } ∷ [])
unfolding at layers_of_in layer_file_in layer_format_in height_above contour_list_in contour_format point_format coordinate_format parse_number parse_all
farthest = refl

too_far : layers_of (0x01 ∷ 0x00 ∷ 0x01 ∷ 0x02 ∷ 0x00 ∷ 0x82 ∷ 0x80 ∷ 0x80 ∷ 0x01 ∷ 0x00 ∷ 0x00 ∷ []) ≡ broken 5
unfolding layers_of_in layer_file_in layer_format_in height_above contour_list_in contour_format point_format coordinate_format parse_number parse_all
too_far = refl

-- ---- a part file: one vertex (1, -1, 64), no triangle, heights 3 and -3

part : Part
part = record { coords = pos 1 ∷ negsuc 0 ∷ pos 64 ∷ []; corners = []; heights = pos 3 ∷ negsuc 2 ∷ [] }

part_bytes : List ℕ
part_bytes = 0x01 ∷ 0x00 ∷ 0x02 ∷ 0x01 ∷ 0x80 ∷ 0x01 ∷ 0x02 ∷ 0x06 ∷ 0x05 ∷ []

part_written : part_file.encode part ≡ part_bytes
unfolding part part_bytes part_file tables_for counts_format signed_list plain_run signed_run encode_number groups encode_all
part_written = refl

part_read : part_of part_bytes ≡ holds part
unfolding part part_bytes part_of part_file tables_for counts_format signed_list plain_run signed_run parse_number parse_all
part_read = refl

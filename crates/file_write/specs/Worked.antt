-- Worked values: part P at height 5, from its tables (WORKED-7)
-- to its bytes (WORKED-10), and two other layers, by computation.
use Rattle.std.specs.Prelude.{◌≡◌, refl, ℕ, ℤ, pos, negsuc}
use mathlib.Core.List.{List, [], ◌∷◌, flatten}
use Rattle.file_formats.specs.Formats.{encode_all}
use Rattle.file_formats.specs.Numbers.{groups, encode_number}
use Rattle.file_formats.specs.LayerFile.{Layer, coordinate_format, point_format, contour_format, contour_list_in, height_above, layer_format_in}
use Rattle.polygons.specs.Flat.{points_in, contours_in, numbers_of, ends_from, ends_of}
use Rattle.file_write.specs.Written.{layer_of, layer_bytes}

-- ---- P at height 5: (5,0), (0,5), (0,0), in front of entries that are not used

points : List ℤ
points = pos 5 ∷ pos 0 ∷ pos 0 ∷ pos 5 ∷ pos 0 ∷ pos 0 ∷ pos 77 ∷ pos 78 ∷ []

ends : List ℕ
ends = 3 ∷ 99 ∷ []

five : Layer
five =
    record {
      height = pos 5;
      contours = (record { x = pos 5; y = pos 0 } ∷ record { x = pos 0; y = pos 5 } ∷ record { x = pos 0; y = pos 0 } ∷ []) ∷ [];
    }

held : layer_of (pos 5) points ends 1 ≡ five
unfolding points ends five layer_of contours_in points_in
held = refl

written : layer_bytes (layer_of (pos 5) points ends 1) ≡ 0x0A ∷ 0x01 ∷ 0x03 ∷ 0x0A ∷ 0x00 ∷ 0x09 ∷ 0x0A ∷ 0x00 ∷ 0x09 ∷ []
unfolding points ends layer_of contours_in points_in layer_bytes layer_format_in height_above contour_list_in contour_format point_format coordinate_format
    encode_number
    groups
    encode_all
written = refl

-- its tables
numbers : numbers_of (flatten five.contours) ≡ pos 5 ∷ pos 0 ∷ pos 0 ∷ pos 5 ∷ pos 0 ∷ pos 0 ∷ []
unfolding five flatten numbers_of
numbers = refl

its_ends : ends_of five.contours ≡ 3 ∷ []
unfolding five ends_from
its_ends = refl

-- ---- no contours

none : layer_bytes (layer_of (pos 11) points ends 0) ≡ 0x16 ∷ 0x00 ∷ []
unfolding points ends layer_of contours_in points_in layer_bytes layer_format_in height_above contour_list_in contour_format point_format coordinate_format
    encode_number
    groups
    encode_all
none = refl

-- ---- two contours: (1,-1), (-64,64), and (7,7) twice; the second begins with its own coordinates

two : layer_bytes (layer_of (negsuc 2) (pos 1 ∷ negsuc 0 ∷ negsuc 63 ∷ pos 64 ∷ pos 7 ∷ pos 7 ∷ pos 7 ∷ pos 7 ∷ []) (2 ∷ 4 ∷ []) 2)
    ≡ 0x05 ∷ 0x02 ∷ 0x02 ∷ 0x02 ∷ 0x01 ∷ 0x81 ∷ 0x01 ∷ 0x82 ∷ 0x01 ∷ 0x02 ∷ 0x0E ∷ 0x0E ∷ 0x00 ∷ 0x00 ∷ []
unfolding layer_of contours_in points_in layer_bytes layer_format_in height_above contour_list_in contour_format point_format coordinate_format encode_number
    groups
    encode_all
two = refl

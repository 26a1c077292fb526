-- Worked values of charges and of Ink, by computation from the definitions.
use Rattle.std.specs.Prelude.{◌≡◌, refl, List, [], ◌∷◌, ℕ, ℤ, pos, negsuc}
use Rattle.laws.specs.Least.{least, some}
use Rattle.mesh.specs.Operation.{gives, refuses, test, ◌then◌, verdict, answer_of}
use Rattle.mesh.specs.Refusals.{refusal}
use Rattle.polygons.specs.Flat.{Point, point}
use Rattle.polygons.specs.ContourAreas.{cross_points, area_from, contour_area, layer_area}
use Rattle.file_formats.specs.Formats.{parse_all}
use Rattle.file_formats.specs.Numbers.{parse_number}
use Rattle.file_formats.specs.LayerFile.{Layer, coordinate_format, point_format, contour_format, contour_list_in, height_above, layer_format_in, layer_file_in}
use Rattle.file_formats.specs.LayerFile.{layers_of_in}
use Rattle.file_formats.specs.WholeFiles.{broken_at, held_or}
use Rattle.ink.specs.Charges.{layer_charge, job_charge}
use Rattle.ink.specs.Inking.{thickness_fits, inking}

-- ---- a layer, by its doubled areas

-- part P at height 5
at_five_lem : layer_charge 1000 (pos 25) ≡ 1
unfolding layer_charge
at_five_lem = refl

nothing : layer_charge 1000 (pos 0) ≡ 0
unfolding layer_charge
nothing = refl

-- a nanolitre, and a little more
one_whole : layer_charge 1 (pos 2000000) ≡ 1
unfolding layer_charge
one_whole = refl

just_above : layer_charge 1 (pos 2000001) ≡ 2
unfolding layer_charge
just_above = refl

-- the largest areas that a layer's points can have, whose product with the thickness has more than 64 bits
largest_layer : layer_charge 1000 (pos 216172782113783808) ≡ 108086391056892
unfolding layer_charge
largest_layer = refl

-- more holes than areas
below_zero : layer_charge 1000 (negsuc 24) ≡ 0
unfolding layer_charge
below_zero = refl

-- ---- layers

triangle : List Point
triangle = point (pos 5) (pos 0) ∷ point (pos 0) (pos 5) ∷ point (pos 0) (pos 0) ∷ []

-- the same the other way round
hole : List Point
hole = point (pos 0) (pos 0) ∷ point (pos 0) (pos 5) ∷ point (pos 5) (pos 0) ∷ []

layer : ℤ → List Point → Layer
layer z c = record { height = z; contours = c ∷ [] }

-- a layer below zero takes nothing off another
one_below : job_charge 1000 (layer (pos 0) triangle ∷ layer (pos 5) hole ∷ []) ≡ 1
unfolding job_charge layer_charge layer_area contour_area area_from cross_points triangle hole layer
one_below = refl

-- each layer is rounded up by itself: both areas together would be charged 1
each_rounded : job_charge 1000 (layer (pos 0) triangle ∷ layer (pos 5) triangle ∷ []) ≡ 2
unfolding job_charge layer_charge layer_area contour_area area_from cross_points triangle layer
each_rounded = refl

-- a hole is taken off its own layer
with_hole : job_charge 1000 (record { height = pos 0; contours = triangle ∷ hole ∷ [] } ∷ []) ≡ 0
unfolding job_charge layer_charge layer_area contour_area area_from cross_points triangle hole
with_hole = refl

-- ---- files

-- two layers, of which one has a contour of area 25
file : List ℕ
file = 0x02 ∷ 0x00 ∷ 0x00 ∷ 0x0A ∷ 0x01 ∷ 0x03 ∷ 0x0A ∷ 0x00 ∷ 0x09 ∷ 0x0A ∷ 0x00 ∷ 0x09 ∷ []

charged : answer_of (inking (file, 1000)) ≡ gives 1
unfolding verdict ◌then◌ test some least broken_at held_or thickness_fits job_charge layer_charge layer_area contour_area area_from cross_points file
    layers_of_in
    layer_file_in layer_format_in height_above contour_list_in contour_format point_format coordinate_format parse_number parse_all
charged = refl

-- too thin, too thick
too_thin : answer_of (inking (file, 0)) ≡ refuses (refusal 19 0)
unfolding verdict ◌then◌ test some least broken_at thickness_fits file layers_of_in layer_file_in layer_format_in height_above contour_list_in contour_format
    point_format
    coordinate_format parse_number parse_all
too_thin = refl

too_thick : answer_of (inking (file, 1001)) ≡ refuses (refusal 19 0)
unfolding verdict ◌then◌ test some least broken_at thickness_fits file layers_of_in layer_file_in layer_format_in height_above contour_list_in contour_format
    point_format
    coordinate_format parse_number parse_all
too_thick = refl

-- a byte missing, which comes first
cut_short_lem : answer_of (inking (0x01 ∷ 0x00 ∷ [], 0)) ≡ refuses (refusal 13 2)
unfolding verdict ◌then◌ test some least broken_at thickness_fits layers_of_in layer_file_in layer_format_in height_above contour_list_in parse_number parse_all
cut_short_lem = refl

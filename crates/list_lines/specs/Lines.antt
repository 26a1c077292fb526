-- The lines of the listing program (LIST-4, LIST-7, LIST-8), and the listing of a mesh with its pairing.
use Rattle.std.specs.Prelude.{ℕ, length, ℤ}
use mathlib.Core.List.{List, [], ◌∷◌, ◌++◌, map, flatten}
use Rattle.mesh.specs.Meshes.{Mesh, PairedMesh}
use Rattle.mesh.specs.Refusals.{Told}
use Rattle.section.specs.Contours.{names_of}
use Rattle.section.specs.Layers.{contour_at}
use Rattle.cut_points.specs.Points.{points_of}
use Rattle.cut.specs.Cut.{section, contours_of}
use Rattle.contours.specs.Areas.{sum_of, area_of}
use Rattle.all_heights.specs.Heights.{heights_taken}
use Rattle.list_decimals.specs.Decimals.{decimal, signed_decimal}

-- ---- its lines, in ASCII

-- "layers ", "layer " and "refused ", a space and the end of a line
abbrev pub layers_word : List ℕ
layers_word = 108 ∷ 97 ∷ 121 ∷ 101 ∷ 114 ∷ 115 ∷ 32 ∷ []

abbrev pub layer_word : List ℕ
layer_word = 108 ∷ 97 ∷ 121 ∷ 101 ∷ 114 ∷ 32 ∷ []

abbrev pub refused_word : List ℕ
refused_word = 114 ∷ 101 ∷ 102 ∷ 117 ∷ 115 ∷ 101 ∷ 100 ∷ 32 ∷ []

abbrev pub space : List ℕ
space = 32 ∷ []

abbrev pub line_end : List ℕ
line_end = 10 ∷ []

-- the line of a refusal: "refused", the number and the place (LIST-4)
abbrev pub refused_words : Told → List (List ℕ)
refused_words r = refused_word ∷ decimal r.number ∷ space ∷ decimal r.place ∷ line_end ∷ []

unfoldable pub refused_line : Told → List ℕ
refused_line r = flatten (refused_words r)

-- the first line: "layers" and the layer count (LIST-7)
abbrev pub layers_words : ℕ → List (List ℕ)
layers_words count = layers_word ∷ decimal count ∷ line_end ∷ []

unfoldable pub layers_line : ℕ → List ℕ
layers_line count = flatten (layers_words count)

-- the line of a layer: "layer", the height, the count of contours,
-- the count of points and the sum of the doubled areas (LIST-8)
abbrev pub layer_line_words : ℤ → ℕ → ℕ → ℤ → List (List ℕ)
layer_line_words h contours points area =
    layer_word ∷ signed_decimal h ∷ space ∷ decimal contours ∷ space ∷ decimal points ∷ space ∷ signed_decimal area ∷ line_end ∷ []

unfoldable pub layer_line : ℤ → ℕ → ℕ → ℤ → List ℕ
layer_line h contours points area = flatten (layer_line_words h contours points area)

-- ---- the layers

-- the sum of the doubled areas of some contours, told by their names (LIST-8)
unfoldable pub area_sum : Mesh → ℤ → List (List ℕ) → ℤ
area_sum m h rs = sum_of (length rs) (λ i. area_of (points_of m h (contour_at rs i)))

-- the line of a layer with these contours, whose counts are theirs (LIST-8, WRONG-8)
unfoldable pub line_of : Mesh → ℤ → List (List ℕ) → List ℕ
line_of m h rs = layer_line h (length rs) (length (names_of rs)) (area_sum m h rs)

-- the line of the layer that Cut gives at height h (LIST-6)
unfoldable pub line_at : PairedMesh → ℤ → List ℕ
line_at m h = line_of m.mesh h (contours_of (section m h))

-- a line for each height taken
abbrev pub lines_of : PairedMesh → List ℤ → List ℕ
lines_of m heights = flatten (map (line_at m) (heights_taken m.mesh.coords heights))

-- the listing: the first line (LIST-7), and the others (LIST-8)
unfoldable pub listing : PairedMesh → List ℤ → List ℕ
listing m heights = layers_line (length (heights_taken m.mesh.coords heights)) ++ lines_of m heights

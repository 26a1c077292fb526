-- What the functions of this crate answer of a part of a file, in the full profile or the clean one, with the areas of what they went through.
use Rattle.std.specs.Prelude.{ℕ, ◌-◌, List, length, drop, ℤ, Result, Ok, Err}
use Rattle.file_formats.specs.Formats.{Parse, parsed, refused, Format, finished, state_after, sequence}
use Rattle.polygons.specs.ContourAreas.{contour_area, layer_area}
use Rattle.cleaning.specs.Profiles.{fits_in}
use Rattle.cleaning.specs.declared.Profile.{Profile}
use Rattle.file_formats.specs.LayerFile.{Point, Layer, most_points, coordinate_format, point_format, origin, latest, contour_in, room_after, contour_list_in}
use Rattle.file_formats.specs.LayerFile.{height_above, layer_format_in, height_of}
use Rattle.file_formats.specs.LayerRules.{point_total}
use Rattle.file_formats.specs.Positions.{breaks_at}
use Rattle.file_formats.specs.declared.Broken.{Broken}
use Rattle.file_check.specs.declared.PointsEnd.{PointsEnd}
use Rattle.file_check.specs.declared.ContoursEnd.{ContoursEnd}
use Rattle.file_check.specs.declared.CountsEnd.{CountsEnd}
use Rattle.file_check.specs.declared.LayerEnd.{LayerEnd}
use Rattle.file_check.specs.declared.LevelsEnd.{LevelsEnd}

-- in a file of n bytes, an answer by a value and the position after it, or by that of the refused value
abbrev pub answered_by : {A B : Type 0} → (A → ℕ → B) → (ℕ → B) → ℕ → Parse A → B
answered_by good bad n (parsed a r) = good a (n - length r)
answered_by good bad n (refused r) = bad (n - length r)

-- the same of a format, from a position on
unfoldable pub told_at : {A B : Type 0} → (A → ℕ → B) → (ℕ → B) → Format A → List ℕ → ℕ → B
told_at good bad F file at = answered_by good bad (length file) (F.parse (drop at file))

-- a value that is told with the position after it, or where it begins
abbrev pub value_at : {A : Type 0} → Format A → List ℕ → ℕ → Result (A × ℕ) Broken
value_at F file at = told_at (λ a next. Ok (a, next)) (λ q. Err (breaks_at at)) F file at

-- a value of which `good` is told, with the position after it, or the first refused position in it
abbrev pub end_at : {A B : Type 0} → (A → ℕ → B) → Format A → List ℕ → ℕ → Result B Broken
end_at good = told_at (λ a next. Ok (good a next)) (λ q. Err (breaks_at q))

-- a coordinate after p
abbrev pub coordinate_at : ℤ → List ℕ → ℕ → Result (ℤ × ℕ) Broken
coordinate_at p = value_at (coordinate_format p)

-- a height above low
abbrev pub height_told_at : ℤ → List ℕ → ℕ → Result (ℤ × ℕ) Broken
height_told_at low = value_at (height_above low)

-- the n points of a contour, whether it may stand in a file of the profile, and its area
abbrev pub points_end : Profile → List Point → ℕ → PointsEnd
points_end p c next = record { at = next; fits = fits_in p c; area = contour_area c }

abbrev pub points_at : Profile → ℕ → List ℕ → ℕ → Result PointsEnd Broken
points_at p n = end_at (points_end p) (sequence point_format latest n origin)

-- a contour, the room after it, and its area
abbrev pub contour_end : ℕ → List Point → ℕ → ContoursEnd
contour_end room c next = record { at = next; room = room_after room c; area = contour_area c }

abbrev pub contour_told_at : Profile → ℕ → List ℕ → ℕ → Result ContoursEnd Broken
contour_told_at p room = end_at (contour_end room) (contour_in p room)

-- the first n contours of a layer, the room after them, and the sum of their areas
abbrev pub contours_end : Profile → List (List Point) → ℕ → ContoursEnd
contours_end p cs next = record { at = next; room = state_after (contour_in p) room_after most_points cs; area = layer_area cs }

abbrev pub contours_at : Profile → ℕ → List ℕ → ℕ → Result ContoursEnd Broken
contours_at p n = end_at (contours_end p) (sequence (contour_in p) room_after n most_points)

-- all contours of a layer, with their count
abbrev pub counts_end : List (List Point) → ℕ → CountsEnd
counts_end cs next = record { at = next; contours = length cs; points = point_total cs; area = layer_area cs }

abbrev pub counts_at : Profile → List ℕ → ℕ → Result CountsEnd Broken
counts_at p = end_at counts_end (contour_list_in p)

-- a layer above low, its height, and the sum of its areas
abbrev pub layer_end : Layer → ℕ → LayerEnd
layer_end l next = record { at = next; height = l.height; area = layer_area l.contours }

abbrev pub layer_told_at : Profile → ℤ → List ℕ → ℕ → Result LayerEnd Broken
layer_told_at p low = end_at layer_end (layer_format_in p low)

-- n layers above low
abbrev pub levels_end : Profile → ℤ → List Layer → ℕ → LevelsEnd
levels_end p low ls next = record { at = next; height = state_after (layer_format_in p) height_of low ls }

abbrev pub levels_at : Profile → ℕ → ℤ → List ℕ → ℕ → Result LevelsEnd Broken
levels_at p n low = end_at (levels_end p low) (sequence (layer_format_in p) height_of n low)

-- a value with which the file ends
abbrev pub final : {A : Type 0} → Format A → Format A
final F = record { valid = F.valid; encode = F.encode; parse = λ l. finished (F.parse l) }

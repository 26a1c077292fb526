-- The layer file (FILE-1 to FILE-7): what it holds and its format, and that of its clean profile (READCLEAN-1, READCLEAN-3).
use Rattle.std.specs.Prelude.{ℕ, ◌-◌, Bool, List, leb, length, ℤ, pos, negsuc, nat_abs, ◌+ℤ◌, ◌-ℤ◌}
use Rattle.std.specs.Int.Signed.{lt_z}
use Rattle.mesh.specs.Corners.{largest}
pub use Rattle.polygons.specs.Flat.{Point, most_points, fewest_points}
use Rattle.cleaning.specs.Cleaning.{is_clean}
use Rattle.cleaning.specs.Profiles.{profiled}
use Rattle.cleaning.specs.declared.Profile.{Profile}
use Rattle.cleaning.specs.declared.Profile.TheVariants.{Full, Clean}
use Rattle.file_formats.specs.Formats.{Format, through, ruled, obeying, pair, counted, Decoded, decode}
use Rattle.file_formats.specs.Numbers.{largest_word, number, signed}

-- a layer is a height and contours, which are lists of points
pub record Layer : Type 0 where
  pub height : ℤ
  pub contours : List (List Point)

-- a layer in a profile: at its height, with its contours as they are or cleaned (PROFILE-1, PROFILE-2)
abbrev pub layer_in : Profile → Layer → Layer
layer_in p l = record { height = l.height; contours = profiled p l.contours }

-- most layers of a file (LIMIT-5, FILE-2), and so most heights of All layers (LIMIT-4)
abbrev pub most_layers : ℕ
most_layers = 4096

-- a number in coordinate range (LIMIT-3, FILE-7)
abbrev pub in_range : ℤ → Bool
in_range z = leb (nat_abs z) largest

-- a coordinate in range (FILE-7), sent as its difference to that of the point before, p (FILE-6)
unfoldable pub coordinate_format : ℤ → Format ℤ
coordinate_format p = ruled in_range (through (λ d. p +ℤ d) (λ z. z -ℤ p) (signed largest_word))

-- the point after p
unfoldable pub point_format : Point → Format Point
point_format p =
    through (λ q. record { x = q.0; y = q.1 }) (λ q. (q.x, q.y))
    (pair (coordinate_format p.x) (λ x. coordinate_format p.y))

-- what stands for the point before the first: differences to it are the coordinates themselves (FILE-6)
abbrev pub origin : Point
origin = record { x = pos 0; y = pos 0 }

-- each point is the one before the next
abbrev pub latest : Point → Point → Point
latest p q = q

-- a contour of at least 2 points (FILE-4), where its layer has
-- room for so many more (FILE-5): its point count, its points
unfoldable pub contour_format : ℕ → Format (List Point)
contour_format room = counted point_format latest (ruled (λ n. leb fewest_points n) (number room)) origin

-- a contour in a file of the profile: in the clean one it is clean, or
-- else refused at its first byte, that of its point count (READCLEAN-3)
abbrev pub contour_in : Profile → ℕ → Format (List Point)
contour_in Full room = contour_format room
contour_in Clean room = obeying is_clean (contour_format room)

-- the room after a contour (FILE-5)
abbrev pub room_after : ℕ → List Point → ℕ
room_after room c = room - length c

-- the contours of a layer after their count (FILE-1), with room for all their points (LIMIT-7)
unfoldable pub contour_list_in : Profile → Format (List (List Point))
contour_list_in p = counted (contour_in p) room_after (number largest_word) most_points

abbrev pub contour_list : Format (List (List Point))
contour_list = contour_list_in Full

-- a height above the one before (FILE-3)
unfoldable pub height_above : ℤ → Format ℤ
height_above low = ruled (λ h. lt_z low h) (signed largest_word)

-- a layer above the one before: its height, its contours (FILE-1)
unfoldable pub layer_format_in : Profile → ℤ → Format Layer
layer_format_in p low =
    through (λ q. record { height = q.0; contours = q.1 }) (λ l. (l.height, l.contours))
    (pair (height_above low) (λ h. contour_list_in p))

abbrev pub layer_format : ℤ → Format Layer
layer_format = layer_format_in Full

-- below every number of 32 bits
abbrev pub lowest : ℤ
lowest = negsuc 2147483648

-- each height is the one before the next
abbrev pub height_of : ℤ → Layer → ℤ
height_of low l = l.height

-- the file: layers after their count (FILE-1, FILE-2)
unfoldable pub layer_file_in : Profile → Format (List Layer)
layer_file_in p = counted (layer_format_in p) height_of (number most_layers) lowest

abbrev pub layer_file : Format (List Layer)
layer_file = layer_file_in Full

-- the layers of a file of the profile, or where it is none
unfoldable pub layers_of_in : Profile → List ℕ → Decoded (List Layer)
layers_of_in p file = decode (layer_file_in p) file

-- the layers of a file, or refusal 13 with its place (READ-1)
abbrev pub layers_of : List ℕ → Decoded (List Layer)
layers_of = layers_of_in Full

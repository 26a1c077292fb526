-- The layer that a table of points and a table of ends hold (CUT-3,
-- CUT-4), and its bytes in the layer file (FILE-1, FILE-6).
use Rattle.std.specs.Prelude.{ℕ, ◌+◌, ◌*◌, ◌≤◌, ◌≡◌, List, [], ◌∷◌, length, take, ℤ}
use Rattle.std.proofs.lemmas.List.Edits.{sets}
unfoldable pub use Rattle.polygons.specs.Flat.{points_in, contours_in, numbers_of, ends_from}
pub use Rattle.polygons.specs.Flat.{ends_of}
use Rattle.file_formats.specs.Formats.{encode_all}
use Rattle.file_formats.specs.LayerFile.{Point, Layer, most_points, point_format, latest, origin, contour_format, layer_format, lowest}

-- ---- the layer that two tables hold

-- the layer of height h and of j contours
unfoldable pub layer_of : ℤ → List ℤ → List ℕ → ℕ → Layer
layer_of h points ends j = record { height = h; contours = contours_in points 0 (take j ends) }

-- ---- the bytes of a layer and of its parts: they do not depend on what stands before them in the file

-- the points of a contour, by differences to the point before (FILE-6)
unfoldable pub point_bytes : List Point → List ℕ
point_bytes c = encode_all point_format latest origin c

-- a contour: its count of points, and they (FILE-1)
unfoldable pub contour_bytes : List Point → List ℕ
contour_bytes c = (contour_format most_points).encode c

-- a layer: its height, its count of contours, and they (FILE-1)
unfoldable pub layer_bytes : Layer → List ℕ
layer_bytes l = (layer_format lowest).encode l

-- no layer of a file takes more
abbrev pub most_layer_bytes : ℕ
most_layer_bytes = 8 + 10 * most_points

-- the bytes have room in an output from a position on
abbrev pub HasRoom : List ℕ → ℕ → List ℕ → Type 0
HasRoom output at bytes = at + length bytes ≤ length output

-- they stand there: the position after them, and the output with all before and after them as it was
abbrev pub Puts : List ℕ → ℕ → List ℕ → ℕ → List ℕ → Type 0
Puts output at bytes end output' = (end ≡ at + length bytes) × (output' ≡ sets output at bytes)

-- a sum over a list
unfoldable pub total_of : {A : Type 0} → (A → ℕ) → List A → ℕ
total_of f [] = 0
total_of f (a ∷ l) = f a + total_of f l

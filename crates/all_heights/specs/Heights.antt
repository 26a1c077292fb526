-- The heights that All layers takes (ALL-1, ALL-4, ALL-5): those given, else the
-- default, and the refusals 1 (ALL-8) and 12 (ALL-10) that are about heights.
use Rattle.std.specs.Prelude.{ℕ, zero, suc, ◌+◌, ◌*◌, ◌-◌, ◌/◌, Bool, not, cond, ◌&&◌, List, [], ◌∷◌, ltb, length, get_or, ℤ, pos, nat_abs, ◌+ℤ◌, ◌-ℤ◌}
use Rattle.std.specs.Int.Signed.{lt_z}
use Rattle.laws.specs.Tables.{tabulate}
use Rattle.mesh.specs.Corners.{vertex_count, z_of}
use Rattle.mesh.specs.Operation.{Condition, whole}
use Rattle.mesh.specs.Refusals.{Told, refusal}
use Rattle.file_formats.specs.LayerFile.{most_layers}

-- the lowest z + 50 and every 100 after it (ALL-4)
abbrev pub first_offset : ℕ
first_offset = 50

abbrev pub spacing : ℕ
spacing = 100

-- the lower and the higher of two numbers
unfoldable pub lower : ℤ → ℤ → ℤ
lower a b = cond (lt_z b a) b a

unfoldable pub higher : ℤ → ℤ → ℤ
higher a b = cond (lt_z a b) b a

-- the lowest and the highest z of the first n vertices; that of vertex 0 where n is 0, which is asked only where there are vertices
unfoldable pub lowest_to : List ℤ → ℕ → ℤ
lowest_to coords zero = z_of coords 0
lowest_to coords (suc n) = lower (lowest_to coords n) (z_of coords n)

unfoldable pub highest_to : List ℤ → ℕ → ℤ
highest_to coords zero = z_of coords 0
highest_to coords (suc n) = higher (highest_to coords n) (z_of coords n)

-- the lowest and the highest z of all vertices
abbrev pub lowest_z : List ℤ → ℤ
lowest_z coords = lowest_to coords (vertex_count coords)

abbrev pub highest_z : List ℤ → ℤ
highest_z coords = highest_to coords (vertex_count coords)

-- how many default heights there are: only those not above the highest z (ALL-4); with no vertices, none (ALL-5)
unfoldable pub default_count : List ℤ → ℕ
default_count coords = cond (ltb 0 (vertex_count coords)) ((nat_abs (highest_z coords -ℤ lowest_z coords) + (spacing - first_offset)) / spacing) 0

-- default height k, from 0 (ALL-4)
unfoldable pub default_height : List ℤ → ℕ → ℤ
default_height coords k = lowest_z coords +ℤ pos (first_offset + spacing * k)

abbrev pub default_heights : List ℤ → List ℤ
default_heights coords = tabulate (default_count coords) (default_height coords)

-- the heights taken: those given (ALL-1), else the default ones (ALL-4)
unfoldable pub heights_taken : List ℤ → List ℤ → List ℤ
heights_taken coords [] = default_heights coords
heights_taken coords (h ∷ hs) = h ∷ hs

-- 1: more heights than LIMIT-4, default ones counted, place 0 (ALL-8)
abbrev pub too_many_heights : List ℤ → List ℤ → Condition Told
too_many_heights coords heights = whole (refusal 1) (ltb most_layers (length (heights_taken coords heights)))

-- 12: the position of the first height not above its forerunner
-- (ALL-10); positions are those of the heights, so that both are there
unfoldable pub not_above_last : List ℤ → ℕ → Bool
not_above_last hs i = ltb 0 i && not (lt_z (get_or hs (i - 1) (pos 0)) (get_or hs i (pos 0)))

abbrev pub falling_height : List ℤ → Condition Told
falling_height hs = record { tells = refusal 12; places = length hs; fits = not_above_last hs }

-- The heights taken, strictly rising; and one of them by its number, from the lowest z or the heights given, for functions that are not handed the coordinates.
use Rattle.std.specs.Prelude.{ℕ, suc, ◌+◌, ◌*◌, ◌<◌, ◌≡◌, List, [], ◌∷◌, length, get_or, ℤ, pos, ◌+ℤ◌, ◌<ℤ◌}
use Rattle.file_formats.specs.Numbers.{Word}
use Rattle.all_heights.specs.Heights.{first_offset, spacing, lowest_z}

-- each height is above its forerunner (ALL-1)
abbrev pub RisingHeights : List ℤ → Type 0
RisingHeights hs = (i : ℕ) → suc i < length hs → get_or hs i (pos 0) <ℤ get_or hs (suc i) (pos 0)

-- numbers of 32 bits
abbrev pub Words : List ℤ → Type 0
Words numbers = (i : ℕ) → i < length numbers → Word (get_or numbers i (pos 0))

-- the lowest z where the heights are the default ones
unfoldable pub base_z : List ℤ → List ℤ → ℤ
base_z coords [] = lowest_z coords
base_z coords (h ∷ hs) = pos 0

-- height k of those taken; asked only of one that is
unfoldable pub height_at : ℤ → List ℤ → ℕ → ℤ
height_at low [] k = low +ℤ pos (first_offset + spacing * k)
height_at low (h ∷ hs) k = get_or (h ∷ hs) k (pos 0)

-- there is such a height, and it has 32 bits
pub record Takable (low : ℤ) (heights : List ℤ) (k : ℕ) : Type 0 where
  pub there : 0 < length heights → k < length heights
  pub fits : length heights ≡ 0 → Word (low +ℤ pos (first_offset + spacing * k))

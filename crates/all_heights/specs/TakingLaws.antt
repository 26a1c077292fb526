-- Laws of one height taken: it is that of the list, and there is one for every number below its length.
use Rattle.std.specs.Prelude.{ℕ, ◌<◌, ◌≡◌, refl, List, [], ◌∷◌, length, get_or, ℤ, pos}
use Rattle.std.proofs.Common.{sym, arith}
use Rattle.all_heights.specs.Heights.{lowest_z, default_height, heights_taken}
use Rattle.all_heights.specs.HeightLaws.{length_defaults, default_at}
use Rattle.all_heights.specs.Taking.{base_z, height_at}

pub height_at_lem : (coords heights : List ℤ) (k : ℕ) → k < length (heights_taken coords heights)
    → height_at (base_z coords heights) heights k ≡ get_or (heights_taken coords heights) k (pos 0)
unfolding base_z height_at heights_taken default_height
height_at_lem coords [] k h = sym (default_at coords k (omega (arith, length_defaults coords)))
height_at_lem coords (z ∷ zs) k h = refl

-- ---- from where the default heights are counted

pub base_given : (coords heights : List ℤ) → 0 < length heights → pos 0 ≡ base_z coords heights
unfolding base_z
base_given coords [] l = absurd (omega arith)
base_given coords (z ∷ zs) l = refl

pub base_default : (coords heights : List ℤ) → length heights ≡ 0 → lowest_z coords ≡ base_z coords heights
unfolding base_z
base_default coords [] e = refl
base_default coords (z ∷ zs) e = absurd (omega arith)

-- There are no default heights without vertices; so each has 32 bits, and each height taken can be had by its number. These laws stand apart from those of
-- specs/, so that a wrong definition of the count is refused here and at the code.
use Rattle.std.specs.Prelude.{ℕ, ◌<◌, ◌≡◌, List, [], ◌∷◌, length, ℤ, pos, negsuc, ◌≤ℤ◌}
use Rattle.std.proofs.Math.Path.{subst}
use Rattle.std.proofs.Math.Logic.{⊎_elim}
use Rattle.std.proofs.Common.{sym, le-ltb, arith}
use Rattle.laws.specs.Booleans.{split_lt}
use Rattle.laws.specs.Integers.{le_in}
use Rattle.mesh.specs.Corners.{vertex_count}
use Rattle.file_formats.specs.Numbers.{Word}
use Rattle.all_heights.specs.Heights.{lowest_z, highest_z, default_count, default_height, heights_taken}
use Rattle.all_heights.specs.HeightLaws.{default_exactly, length_defaults, default_at, default_above, lowest_word, highest_word}
use Rattle.all_heights.specs.Taking.{Words, base_z, Takable}

module _ (coords : List ℤ) where
  pub count_none : vertex_count coords ≡ 0 → default_count coords ≡ 0
  unfolding default_count
  count_none e = rw (le-ltb 0 (vertex_count coords) (omega arith))

  -- where a default height is taken there is a vertex
  pub count_vertex : (k : ℕ) → k < default_count coords → 0 < vertex_count coords
  count_vertex k h = ⊎_elim (λ l. l) (λ l. absurd (omega (arith, count_none (omega arith)))) (split_lt 0 (vertex_count coords))

  pub default_not_above : (k : ℕ) → k < default_count coords → default_height coords k ≤ℤ highest_z coords
  default_not_above k h = (default_exactly coords (count_vertex k h) k).0 h

-- ---- 32 bits

word_between : (a z b : ℤ) → a ≤ℤ z → z ≤ℤ b → Word a → Word b → Word z
word_between a (pos n) (pos m) h k p q = omega (arith, le_in k)
word_between a (pos n) (negsuc m) h k p q = absurd k.le
word_between (pos m) (negsuc n) b h k p q = absurd h.le
word_between (negsuc m) (negsuc n) b h k p q = omega (arith, le_in h)

module _ (coords : List ℤ) where
  -- a default height has 32 bits where the lowest and the highest z have
  pub default_word : Word (lowest_z coords) → Word (highest_z coords) → (k : ℕ) → k < default_count coords → Word (default_height coords k)
  default_word l t k h = word_between (lowest_z coords) (default_height coords k) (highest_z coords) (default_above coords k) (default_not_above coords k h) l t

  module _ (w : Words coords) where
    pub heights_fit : (k : ℕ) → k < default_count coords → Word (default_height coords k)
    heights_fit k h = let v : 0 < vertex_count coords = count_vertex coords k h in default_word (lowest_word coords w v) (highest_word coords w v) k h

    -- the heights taken have 32 bits where those given have
    pub taken_fit : (heights : List ℤ) → Words heights → Words (heights_taken coords heights)
    unfolding heights_taken
    taken_fit [] f k l =
        let h : k < default_count coords = omega (arith, length_defaults coords) in
        subst Word (sym (default_at coords k h)) (heights_fit k h)
    taken_fit (z ∷ zs) f k l = f k l

pub takable : (coords heights : List ℤ) (k : ℕ) → Words coords → k < length (heights_taken coords heights) → Takable (base_z coords heights) heights k
unfolding base_z heights_taken default_height
takable coords [] k w h = record { there = λ l. absurd (omega arith); fits = λ e. heights_fit coords w k (omega (arith, length_defaults coords)) }
takable coords (z ∷ zs) k w h = record { there = λ l. h; fits = λ e. absurd (omega arith) }

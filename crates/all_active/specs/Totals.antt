-- At how many heights an edge, the corners from one on, and all corners rise: how many crossings all heights have together.
use Rattle.std.specs.Prelude.{ℕ, zero, suc, ◌+◌, ◌*◌, ◌≤◌, not, ◌&&◌, List, length, ℤ}
use Rattle.std.specs.Int.Signed.{lt_z}
use Rattle.file_formats.specs.LayerFile.{most_layers}
use Rattle.laws.specs.Count.{count as tally}
use Rattle.mesh.specs.Corners.{most_corners}
use Rattle.all_active.specs.Lists.{active_at}
use Rattle.all_active.specs.Levels.{LevelOf}

-- f 0 + .. + f (n - 1)
unfoldable pub sum_to : ℕ → (ℕ → ℕ) → ℕ
sum_to zero f = 0
sum_to (suc n) f = f n + sum_to n f

-- an edge from z to y begins to rise at this level, and rises at r of count heights at most
pub record EdgeRises (hs : ℕ → ℤ) (count : ℕ) (z y : ℤ) (level r : ℕ) : Type 0 where
  pub begins : LevelOf hs count z y level
  pub most : tally count (λ k. lt_z z (hs k) && not (lt_z y (hs k))) ≤ r
  pub few : r ≤ most_layers

-- the corners from c on rise at r heights at most, each counted by itself
pub record RiseTotal (coords : List ℤ) (corners : List ℕ) (hs : ℕ → ℤ) (count c r : ℕ) : Type 0 where
  pub most : sum_to (length corners) (λ d. tally count (λ k. active_at coords corners (hs k) d))
      ≤ r + sum_to c (λ d. tally count (λ k. active_at coords corners (hs k) d))
  pub few : r + c * most_layers ≤ length corners * most_layers

-- all heights have at most r crossings together
pub record CrossingTotal (coords : List ℤ) (corners : List ℕ) (hs : ℕ → ℤ) (count r : ℕ) : Type 0 where
  pub most : sum_to count (λ k. tally (length corners) (active_at coords corners (hs k))) ≤ r
  pub few : r ≤ most_corners * most_layers

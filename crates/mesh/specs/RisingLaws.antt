-- Laws of a rising prefix: ranks rise with it, so where an entry's rank is its place, so is that of each in front of it.
use Rattle.std.specs.Prelude.{ℕ, zero, suc, ◌+◌, ◌-◌, ◌≤◌, ◌<◌, ◌≡◌, List, get_or, ℤ}
use Rattle.std.proofs.Common.{ap, arith}
use Rattle.mesh.specs.Corners.{vertex_count}
use Rattle.mesh.specs.Order.{rank, RisingPrefix}
use Rattle.mesh.specs.RankLaws.{before_rank, rank_below}

module _ (coords : List ℤ) (order : List ℕ) (m : ℕ) (prefix : RisingPrefix coords order m) where
  -- the rank of entry i
  abbrev rank_at : ℕ → ℕ
  rank_at i = rank coords (get_or order i 0)

  climbs : (d i j : ℕ) → i + d ≡ j → j < m → rank_at i + d ≤ rank_at j
  climbs zero i j e l = let q : i ≡ j = omega arith in omega (arith, ap rank_at q)
  climbs (suc d) i j e l =
      omega (arith, climbs d (suc i) j (omega arith) l, before_rank coords _ _ (prefix.vertex i (omega arith)) (prefix.rises i (omega arith)))

  pub rank_apart : (i j : ℕ) → i ≤ j → j < m → rank coords (get_or order i 0) + j ≤ rank coords (get_or order j 0) + i
  rank_apart i j h l = omega (arith, climbs (j - i) i j (omega arith) l)

  pub rank_low : (i : ℕ) → i < m → i ≤ rank coords (get_or order i 0)
  rank_low i l = omega (arith, rank_apart 0 i (omega arith) l)

  -- where an entry is right, so is each in front of it
  pub right_before : (i j : ℕ) → i ≤ j → j < m → rank coords (get_or order j 0) ≡ j → rank coords (get_or order i 0) ≡ i
  right_before i j h l e = omega (arith, rank_apart i j h l, rank_low i (omega arith))

  -- as many as there are vertices are all right
  pub rank_full : m ≡ vertex_count coords → (i : ℕ) → i < m → rank coords (get_or order i 0) ≡ i
  rank_full e i l =
      let last : m - 1 < m = omega arith in
      omega (arith, rank_low i l, rank_apart i (m - 1) (omega arith) last, rank_below coords (get_or order (m - 1) 0) (prefix.vertex (m - 1) last))

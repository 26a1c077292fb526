-- `before` is a strict total order of the vertices, and the rank of a vertex, how many stand before it, tells them apart.
use Rattle.std.specs.Prelude.{ℕ, ◌+◌, ◌≤◌, ◌<◌, ◌≡◌, Bool, not, ◌&&◌, ◌||◌, List, T, ℤ}
use Rattle.std.proofs.Math.Path.{refl}
use Rattle.std.proofs.Common.{sym, ap, subst, ⊎_elim, arith}
use Rattle.std.proofs.Math.Bool.{true, false}
use Rattle.std.proofs.Math.Decide.{ℕ_discrete}
use borrow.Author.Tests.{ltb-true, lt-ltb}
use Rattle.std.proofs.Math.Dec.{ltb}
use Rattle.std.specs.Int.Signed.{lt_z, lt_z_yes, lt_z_no}
use Rattle.laws.specs.Booleans.{clash, is_true, is_false, from_T, split_lt}
use Rattle.laws.specs.CountLaws.{count_lt, count_bound}
use Rattle.laws.specs.Integers.{up, dn, le_in, lt_in, lt_out}
use Rattle.mesh.specs.Corners.{vertex_count, z_of}
use Rattle.mesh.specs.Order.{before}
pub use Rattle.mesh.specs.Order.{rank}

-- a comparison of integers as one of naturals

pub lower_sum : (a b : ℤ) → lt_z a b ≡ true → up a + dn b < up b + dn a
lower_sum a b e = omega (arith, lt_in (lt_z_yes {a = a} {b = b} (subst T (sym e) tt)))

pub not_lower_sum : (a b : ℤ) → lt_z a b ≡ false → up b + dn a ≤ up a + dn b
not_lower_sum a b e = omega (arith, le_in (lt_z_no {a = a} {b = b} (subst (λ (t : Bool). T (not t)) (sym e) tt)))

pub sum_lower : (a b : ℤ) → up a + dn b < up b + dn a → lt_z a b ≡ true
sum_lower a b h = from_T (lt_z a b) (lt_out {a = a} {b = b} (omega arith)).lt

pub sum_not_lower : (a b : ℤ) → up b + dn a ≤ up a + dn b → lt_z a b ≡ false
sum_not_lower a b h = is_false (lt_z a b) (λ e. omega (arith, lower_sum a b e))

module _ (coords : List ℤ) where
  -- z of u less z of v, as over u v less over v u
  abbrev over : ℕ → ℕ → ℕ
  over u v = up (z_of coords u) + dn (z_of coords v)

  -- u stands lower, or level with a smaller number
  data Earlier (u v : ℕ) : Type 0 where
    lower : over u v < over v u → Earlier u v
    level : over u v ≡ over v u → u < v → Earlier u v

  earlier_of : (u v : ℕ) → before coords u v ≡ true → Earlier u v
  unfolding before
  earlier_of u v e = by (lt_z (z_of coords u) (z_of coords v)) (lt_z (z_of coords v) (z_of coords u)) refl refl e
    where
      by : (a b : Bool) → lt_z (z_of coords u) (z_of coords v) ≡ a → lt_z (z_of coords v) (z_of coords u) ≡ b → (a || (not b && ltb u v)) ≡ true → Earlier u v
      by true b p q e = lower (lower_sum (z_of coords u) (z_of coords v) p)
      by false true p q e = absurd (clash e refl)
      by false false p q e =
          level (omega (arith, not_lower_sum (z_of coords u) (z_of coords v) p, not_lower_sum (z_of coords v) (z_of coords u) q)) (ltb-true u v e)

  before_of : (u v : ℕ) → Earlier u v → before coords u v ≡ true
  unfolding before
  before_of u v (lower h) = simp (sum_lower (z_of coords u) (z_of coords v) h)
  before_of u v (level e l) =
      simp (sum_not_lower (z_of coords u) (z_of coords v) (omega arith), sum_not_lower (z_of coords v) (z_of coords u) (omega arith), lt-ltb u v l)

  earlier_trans : (u v w : ℕ) → Earlier u v → Earlier v w → Earlier u w
  earlier_trans u v w (lower p) (lower q) = lower (omega arith)
  earlier_trans u v w (lower p) (level q l) = lower (omega arith)
  earlier_trans u v w (level p l) (lower q) = lower (omega arith)
  earlier_trans u v w (level p l) (level q m) = level (omega arith) (omega arith)

  not_earlier : (v : ℕ) → Earlier v v → ⊥
  not_earlier v (lower h) = omega arith
  not_earlier v (level e l) = omega arith

  -- ---- the order

  pub before_irreflexive : (v : ℕ) → before coords v v ≡ false
  before_irreflexive v = is_false (before coords v v) (λ e. not_earlier v (earlier_of v v e))

  pub before_transitive : (u v w : ℕ) → before coords u v ≡ true → before coords v w ≡ true → before coords u w ≡ true
  before_transitive u v w p q = before_of u w (earlier_trans u v w (earlier_of u v p) (earlier_of v w q))

  pub before_total : (u v : ℕ) → (u ≡ v → ⊥) → before coords u v ≡ false → before coords v u ≡ true
  before_total u v ne e =
      let high : over v u ≤ over u v = ⊎_elim (λ h. absurd (clash (before_of u v (lower h)) e)) (λ h. h) (split_lt (over u v) (over v u)) in
      let level_up : over u v ≡ over v u → v < u = λ q. ⊎_elim (λ h. absurd (clash (before_of u v (level q h)) e)) (λ h. omega arith) (split_lt u v) in
      ⊎_elim
      (λ h. before_of v u (lower h)) (λ h. let q : over u v ≡ over v u = omega arith in before_of v u (level (sym q) (level_up q)))
      (split_lt (over v u) (over u v))

  -- ---- the rank

  pub before_rank : (u v : ℕ) → u < vertex_count coords → before coords u v ≡ true → rank coords u < rank coords v
  before_rank u v l e =
      count_lt (λ w. before coords w u) (λ w. before coords w v) (vertex_count coords)
      (λ w _ p. before_transitive w u v p e) u l (before_irreflexive u) e

  pub rank_inj : (u v : ℕ) → u < vertex_count coords → v < vertex_count coords → rank coords u ≡ rank coords v → u ≡ v
  rank_inj u v lu lv e = by (ℕ_discrete u v)
    where
      apart : before coords u v ≡ false
      apart = is_false (before coords u v) (λ p. omega (arith, before_rank u v lu p))

      by : Dec (u ≡ v) → u ≡ v
      by (yes q) = q
      by (no ne) = absurd (omega (arith, before_rank v u lv (before_total u v ne apart)))

  pub rank_before : (u v : ℕ) → u < vertex_count coords → v < vertex_count coords → rank coords u < rank coords v → before coords u v ≡ true
  rank_before u v lu lv h =
      is_true (before coords u v) (λ e. omega (arith, before_rank v u lv (before_total u v (λ q. omega (arith, ap (rank coords) q)) e)))

  pub rank_below : (v : ℕ) → v < vertex_count coords → rank coords v < vertex_count coords
  rank_below v l =
      let a = count_lt (λ u. before coords u v) (λ u. true) (vertex_count coords) (λ u _ _. refl) v l (before_irreflexive v) refl in
      omega (arith, count_bound (vertex_count coords) (λ u. true))

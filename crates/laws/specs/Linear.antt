-- A whole expression's difference of naturals, for `omega`:  P e - N e  over the  up  and  dn  of its variables alone.
-- `le_by ρ e f (omega arith)` proves  eval ρ e ≤ℤ eval ρ f  from linear facts of those, and `le_of` reads such a fact. Assumes nothing.
use Rattle.std.specs.Prelude.{◌≡◌, List, ℕ, ◌+◌, ◌*◌, ◌<◌, ◌≤◌, ℤ, nat_abs, ◌≤ℤ◌, ◌<ℤ◌}
use Rattle.std.proofs.Common.{ap, arith}
use Rattle.laws.specs.Integers.{up, dn, one_zero, abs_is, sum, diff, prod, up_neg, dn_neg, ext, le_in, lt_in, le_out, lt_out}
use Rattle.laws.specs.Ring.{Ex, x, #, ⊝, ◌⊕◌, ◌⊖◌, ◌⊗◌, atom_at, eval}

module _ (ρ : List ℤ) where
  abbrev mutual
    pub P : Ex → ℕ
    P (x n) = up (atom_at ρ n)
    P (# z) = up z
    P (⊝ a) = N a
    P (a ⊕ b) = P a + P b
    P (a ⊖ b) = P a + N b
    P (a ⊗ b) = P a * P b + N a * N b

    pub N : Ex → ℕ
    N (x n) = dn (atom_at ρ n)
    N (# z) = dn z
    N (⊝ a) = P a
    N (a ⊕ b) = N a + N b
    N (a ⊖ b) = N a + P b
    N (a ⊗ b) = P a * N b + N a * P b

  pub read : (e : Ex) → up (eval ρ e) + N e ≡ dn (eval ρ e) + P e
  read (x n) = omega arith
  read (# z) = omega arith
  read (⊝ a) = omega (arith, read a, up_neg (eval ρ a), dn_neg (eval ρ a))
  read (a ⊕ b) = omega (arith, read a, read b, sum (eval ρ a) (eval ρ b))
  read (a ⊖ b) = omega (arith, read a, read b, diff (eval ρ a) (eval ρ b))
  read (a ⊗ b) =
      omega (
        arith,
        prod (eval ρ a) (eval ρ b),
        ap (λ (n : ℕ). n * up (eval ρ b)) (read a),
        ap (λ (n : ℕ). n * dn (eval ρ b)) (read a),
        ap (λ (n : ℕ). P a * n) (read b),
        ap (λ (n : ℕ). N a * n) (read b),
      )

  pub le_by : (e f : Ex) → P e + N f ≤ N e + P f → eval ρ e ≤ℤ eval ρ f
  le_by e f h = omega (arith, le_out, read e, read f)

  pub lt_by : (e f : Ex) → P e + N f < N e + P f → eval ρ e <ℤ eval ρ f
  lt_by e f h = omega (arith, lt_out, read e, read f)

  pub eq_by : (e f : Ex) → P e + N f ≡ N e + P f → eval ρ e ≡ eval ρ f
  eq_by e f h = omega (arith, ext, read e, read f)

  pub le_of : (e f : Ex) → eval ρ e ≤ℤ eval ρ f → P e + N f ≤ N e + P f
  le_of e f h = omega (arith, le_in h, read e, read f)

  pub lt_of : (e f : Ex) → eval ρ e <ℤ eval ρ f → P e + N f < N e + P f
  lt_of e f h = omega (arith, lt_in h, read e, read f)

  pub abs_by : (e : Ex) {k : ℕ} → P e ≤ N e + k → N e ≤ P e + k → nat_abs (eval ρ e) ≤ k
  abs_by e h g = omega (arith, read e, one_zero (eval ρ e), abs_is (eval ρ e))

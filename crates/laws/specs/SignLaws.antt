-- Signed numbers of 64 bits as the code holds them: one below zero is -k - 1, any other is k.
use Rattle.std.specs.Prelude.{ℕ, ◌<◌, ◌^◌, ◌≡◌, refl, T, ℤ, pos, negsuc, nat_abs, ◌-ℤ◌, ◌<ℤ◌, ◌≤ℤ◌}
use Rattle.std.proofs.Common.{sym, ap, ◌∙◌, subst, arith, SFits, Fits, to_z, of_z}
use Rattle.std.specs.Int.Signed.{non_neg}
use Rattle.std.specs.Int.{w64}
use Rattle.std.proofs.lemmas.Int.{to_z-of_z}
use Rattle.laws.specs.Integers.{ext, diff, lt_in}

-- a number below zero is -k - 1, and -1 less it is k
pub record Negative (z : ℤ) : Type 0 where
  pub k : ℕ
  pub small : k < 2 ^ 63
  pub from : z ≡ negsuc k
  pub minus_is : negsuc 0 -ℤ to_z w64 (of_z w64 z) ≡ pos k

pub negative : (z : ℤ) → SFits w64 z → z <ℤ pos 0 → Negative z
negative (pos n) f h = absurd (omega (arith, lt_in h))
negative (negsuc n) f h =
    record {
      k = n;
      small = f.sfits;
      from = refl;
      minus_is =
          let e : negsuc 0 -ℤ negsuc n ≡ pos n = omega (arith, ext, diff (negsuc 0) (negsuc n)) in
          ap (λ (z : ℤ). negsuc 0 -ℤ z) (to_z-of_z w64 (negsuc n) f) ∙ e;
    }

module _ {z : ℤ} (b : Negative z) where
  pub below_fits : SFits w64 (negsuc 0 -ℤ to_z w64 (of_z w64 z))
  below_fits = subst (SFits w64) (sym b.minus_is) (record { sfits = b.small })

  pub below_is : to_z w64 (of_z w64 (negsuc 0 -ℤ to_z w64 (of_z w64 z))) ≡ pos b.k
  below_is = to_z-of_z w64 (negsuc 0 -ℤ to_z w64 (of_z w64 z)) below_fits ∙ b.minus_is

-- any other is k
pub record NonNegative (z : ℤ) : Type 0 where
  pub k : ℕ
  pub small : k < 2 ^ 63
  pub from : z ≡ pos k
  pub is : to_z w64 (of_z w64 z) ≡ pos k

pub non_negative : (z : ℤ) → SFits w64 z → pos 0 ≤ℤ z → NonNegative z
non_negative (negsuc n) f h = absurd h.le
non_negative (pos n) f h = record { k = n; small = f.sfits; from = refl; is = to_z-of_z w64 (pos n) f }

-- a number that is not negative may be cast to an unsigned one
pub plain_ok : {z : ℤ} {k : ℕ} → z ≡ pos k → k < 2 ^ 63 → T (non_neg z) × Fits w64 (nat_abs z)
plain_ok {z} {k} e h = subst (λ (y : ℤ). T (non_neg y) × Fits w64 (nat_abs y)) (sym e) (tt, record { fits = omega arith })

-- Rounding as the code does it: 2^20 divisors more, so that the dividend is positive, and 2^20 less
-- afterwards; half a divisor more to round to the nearest, and below zero one less, so that a half goes down.
use Prim.Native.Nat.{ℕ, suc, ◌+◌, ◌-◌, ◌*◌, ◌%◌, ◌<◌, ◌≤◌}
use mathlib.Core.Path.{◌≡◌, refl, ap, ◌∙◌}
use native.Mathlib.Nat.{div-add-mod', mod-lt, add-mul-div_right}
use native.Mathlib.Omega.{arith}
use lib.Arith.{digits_div}
use lib.IntN.{ℤ, pos, negsuc, neg_ℤ, nat_abs, ◌+ℤ◌, ◌-ℤ◌, ◌*ℤ◌}
use lib.Signed.{◌<ℤ◌, ◌≤ℤ◌, quot_z}
use mir.Syntax.{w64}
use mir.Val.{to_z}
use Rattle.laws.specs.Integers.{ext, sum, diff, prod, up_neg, dn_neg, abs_neg, lt_in, le_in, lt_out}
use Rattle.laws.specs.Machine.{Rd}
use Rattle.cut_points.specs.Points.{nearest, rounded}
use Rattle.cut_points.proofs.RoundedLaws.{rounded_in}
use Rattle.cut_points.specs.Climbs.{Fraction}

-- half a divisor, and one less if the dividend is below zero
abbrev pub half_for : ℤ → ℤ → ℤ
half_for (pos n) d = d
half_for (negsuc n) d = d -ℤ pos 1

-- the dividend, with what is added of a divisor
abbrev pub raised_by : ℤ → ℤ → ℤ → ℤ
raised_by half n d = pos 2 *ℤ n +ℤ half +ℤ pos 1048576 *ℤ (pos 2 *ℤ d)

abbrev pub raised : ℤ → ℤ → ℤ
raised n d = raised_by (half_for n d) n d

-- what an arm sets is no larger than two divisors
pub half_small : {z y : ℤ} {B : ℕ} (r : Rd w64 y B) → z ≡ to_z w64 r.n → B ≤ 4194305 → nat_abs z ≤ 4194305
half_small r e h = omega (arith, ap nat_abs (e ∙ r.is), r.le)

-- by the two arms of the code
pub half_less : (n d : ℤ) → n <ℤ pos 0 → d -ℤ pos 1 ≡ half_for n d
half_less (pos n) d h = absurd (omega (arith, lt_in h))
half_less (negsuc n) d h = refl

pub half_kept : (n d : ℤ) → pos 0 ≤ℤ n → d ≡ half_for n d
half_kept (pos n) d h = refl
half_kept (negsuc n) d h = absurd (omega (arith, le_in h))

-- below zero, where n + 1 over d is the size of the value: q is what it is rounded to, r the rest, and p what is left of 2^20
module _ (n d p q r : ℕ) (split : q * (2 * d) + r ≡ 2 * suc n + d) (rest : r < 2 * d) (all : p + q ≡ 1048576) where
  raised_below : raised (negsuc n) (pos d) ≡ pos (p * (2 * d) + (2 * d - suc r))
  raised_below =
      let a = pos 2 *ℤ negsuc n in
      let b = pos d -ℤ pos 1 in
      omega (arith, ext, sum (a +ℤ b) (pos (1048576 * (2 * d))), sum a b, prod (pos 2) (negsuc n), diff (pos d) (pos 1), ap (λ (k : ℕ). k * (2 * d)) all)

  rounded_below : quot_z (raised (negsuc n) (pos d)) (pos (2 * d)) -ℤ pos 1048576 ≡ neg_ℤ (pos q)
  rounded_below =
      let e : pos p -ℤ pos 1048576 ≡ neg_ℤ (pos q) = omega (arith, ext, diff (pos p) (pos 1048576), up_neg (pos q), dn_neg (pos q)) in
      ap (λ (z : ℤ). quot_z z (pos (2 * d)) -ℤ pos 1048576) raised_below
      ∙ ap (λ (k : ℕ). pos k -ℤ pos 1048576) (digits_div p (omega arith))
      ∙ e

module _ (n d : ℤ) (f : Fraction n d) where
  pub dividend_small : nat_abs n ≤ 2199023255552
  dividend_small = omega (arith, f.inside, f.small)

  pub divisor_above : pos 0 <ℤ (pos 2 *ℤ d)
  divisor_above = omega (arith, lt_out, prod (pos 2) d, lt_in f.positive)

pub rounded_is : (n d : ℤ) → Fraction n d → quot_z (raised n d) (pos 2 *ℤ d) -ℤ pos 1048576 ≡ rounded n d
unfolding rounded
rounded_is (pos n) (pos d) f =
    let q = nearest n d in
    let e : pos (q + 1048576) -ℤ pos 1048576 ≡ pos q = omega (arith, ext, diff (pos (q + 1048576)) (pos 1048576)) in
    ap (λ (k : ℕ). pos k -ℤ pos 1048576) (add-mul-div_right (2 * n + d) 1048576 (omega (arith, lt_in f.positive))) ∙ e
rounded_is (negsuc n) (pos d) f =
    let q = nearest (suc n) d in
    let few : q ≤ 1048576 = omega (arith, abs_neg (pos q), rounded_in (negsuc n) (pos d) 1048576 f.positive f.inside) in
    rounded_below n d (1048576 - q) q ((2 * suc n + d) % (2 * d)) (div-add-mod' (2 * suc n + d) (2 * d))
    (mod-lt (2 * suc n + d) (omega (arith, lt_in f.positive))) (omega arith)
rounded_is n (negsuc d) f = absurd f.positive.lt

pub rounded_by : (half n d : ℤ) → Fraction n d → half ≡ half_for n d → quot_z (raised_by half n d) (pos 2 *ℤ d) -ℤ pos 1048576 ≡ rounded n d
rounded_by half n d f e = ap (λ (z : ℤ). quot_z (raised_by z n d) (pos 2 *ℤ d) -ℤ pos 1048576) e ∙ rounded_is n d f

-- How many groups of seven bits a number has: few, and by the place of its highest bit.
use Rattle.std.specs.Prelude.{◌≡◌, refl, Bool, true, false, cond, [], ◌∷◌, ℕ, zero, suc, ◌+◌, ◌-◌, ◌*◌, ◌/◌, ◌%◌, ◌<◌, ◌≤◌, ◌^◌, ltb, length, bit_or}
use Rattle.std.proofs.Common.{sym, ap, ◌∙◌, pow-suc, arith, pow_mono, pow-add, ltb-true, ltb-false}
use Rattle.std.specs.Int.Bits.{or_zero_r}
use Rattle.std.specs.Int.Count.{count_leading_zeros}
use Rattle.std.proofs.lemmas.Nat.{leading_top, or_shr}
use Rattle.file_formats.specs.Numbers.{groups, encode_number}
use Rattle.file_formats.specs.NumberLaws.{encode_one, encode_more}

-- a number has no more groups than one more than itself
groups_few : (k n : ℕ) → length (groups k n) ≤ k
unfolding groups
groups_few zero n = omega arith
groups_few (suc k) n = by (ltb n 128) (groups_few k (n / 128))
  where
    by : (b : Bool) → length (groups k (n / 128)) ≤ k → length (cond b (n ∷ []) ((128 + n % 128) ∷ groups k (n / 128))) ≤ suc k
    by true h = omega arith
    by false h = omega arith

pub number_few : (n : ℕ) → length (encode_number n) ≤ n + 1
unfolding encode_number
number_few n = omega (arith, groups_few (suc n) n)

-- j is the place of the highest bit of n; k bounds the steps
by_top : (k j n : ℕ) → j < k → 2 ^ j ≤ n → n < 2 ^ suc j → length (encode_number n) ≡ j / 7 + 1
by_top zero j n f h g = absurd (omega arith)
by_top (suc k) j n f h g = by (ltb j 7) refl (by_top k (j - 7) (n / 128))
  where
    by : (b : Bool) → ltb j 7 ≡ b → (j - 7 < k → 2 ^ (j - 7) ≤ n / 128 → n / 128 < 2 ^ suc (j - 7) → length (encode_number (n / 128)) ≡ (j - 7) / 7 + 1)
        → length (encode_number n) ≡ j / 7 + 1
    by true e ih =
        let l : j < 7 = ltb-true j 7 e in
        let m : 2 ^ suc j ≤ 2 ^ 7 = pow_mono l in
        omega (arith, ap length (encode_one n (omega arith)))
    by false e ih =
        let l : 7 ≤ j = ltb-false j 7 e in
        let a : j ≡ 7 + (j - 7) = omega arith in
        let b : suc j ≡ 7 + suc (j - 7) = omega arith in
        let p : 2 ^ j ≡ 128 * 2 ^ (j - 7) = ap (λ (i : ℕ). 2 ^ i) a ∙ pow-add 2 7 (j - 7) in
        let q : 2 ^ suc j ≡ 128 * 2 ^ suc (j - 7) = ap (λ (i : ℕ). 2 ^ i) b ∙ pow-add 2 7 (suc (j - 7)) in
        let big : 128 ≤ n = omega (arith, pow_mono {i = 0} {j = j - 7} (omega arith)) in
        omega (arith, ap length (encode_more n big), ih (omega arith) (omega arith) (omega arith))

-- j is the place of the highest bit of m, which differs from n in its lowest bit at most
pub groups_at : (n m j : ℕ) → m / 2 ≡ n / 2 → 2 ^ j ≤ m → m < 2 * 2 ^ j → j / 7 + 1 ≡ length (encode_number n)
groups_at n m zero e h g = omega (arith, ap length (encode_one n (omega arith)))
groups_at n m (suc i) e h g =
    let twice : 2 ^ suc i ≡ 2 ^ i * 2 = pow-suc 2 i in
    let fourfold : 2 ^ suc (suc i) ≡ 2 ^ suc i * 2 = pow-suc 2 (suc i) in
    sym (by_top (suc (suc i)) (suc i) n (omega arith) (omega arith) (omega arith))

-- as n | 1 does
pub odd_half : (n : ℕ) → bit_or n 1 / 2 ≡ n / 2
odd_half n = or_shr n 1 1 ∙ or_zero_r (n / 2)

-- ---- and the number above half of n, made odd

-- j is the place of the highest bit of 2 (n / 2) + 1, which is that of n, and 0 for 0
odd_top : (j n : ℕ) → 2 ^ j ≤ 2 * (n / 2) + 1 → 2 * (n / 2) + 1 < 2 ^ suc j → length (encode_number n) ≡ j / 7 + 1
odd_top j n h g = let twice : 2 ^ suc j ≡ 2 ^ j * 2 = pow-suc 2 j in sym (groups_at n (2 * (n / 2) + 1) j (omega arith) h (omega arith))

module _ (n : ℕ) (h : n < 2 ^ 64) where
  pub top_fits : count_leading_zeros 64 (2 * (n / 2) + 1) ≤ 63
  top_fits = let t = leading_top 64 (2 * (n / 2) + 1) (omega arith) (omega arith) in omega (arith, t.1)

  pub groups_are : (63 - count_leading_zeros 64 (2 * (n / 2) + 1)) / 7 + 1 ≡ length (encode_number n)
  groups_are =
      let t = leading_top 64 (2 * (n / 2) + 1) (omega arith) (omega arith) in
      omega (arith, t.1, odd_top t.0 n t.2 t.3)

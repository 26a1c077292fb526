-- Laws of numbers in decimal: digit by digit, and how many bytes they take.
use Rattle.std.specs.Prelude.{ℕ, zero, suc, ◌+◌, ◌/◌, ◌%◌, ◌<◌, ◌≤◌, ◌^◌, ◌≡◌, refl, Bool, true, false, List, [], ◌∷◌, ◌++◌, ltb, length, ℤ, pos, negsuc}
use Rattle.std.proofs.Common.{ap, ◌∙◌, arith, lt-ltb, le-ltb, ltb-true, ltb-false, length-append}
use Rattle.std.specs.Int.Signed.{mag}
use Rattle.list_decimals.specs.Decimals.{digit, digits, decimal, signed_decimal}

enough : (k j n : ℕ) → n < k → n < j → digits k n ≡ digits j n
unfolding digits
enough zero j n h g = absurd (omega arith)
enough (suc k) zero n h g = absurd (omega arith)
enough (suc k) (suc j) n h g = by (ltb n 10) refl (enough k j (n / 10))
  where
    by : (t : Bool) → ltb n 10 ≡ t → (n / 10 < k → n / 10 < j → digits k (n / 10) ≡ digits j (n / 10)) → digits (suc k) n ≡ digits (suc j) n
    by true e f = simp e
    by false e f = let low = ltb-false n 10 e in simp (e, f (omega arith) (omega arith))

pub decimal_one : (n : ℕ) → n < 10 → decimal n ≡ digit n ∷ []
unfolding decimal digits
decimal_one n h = simp (lt-ltb n 10 h)

pub decimal_more : (n : ℕ) → 10 ≤ n → decimal n ≡ decimal (n / 10) ++ (digit (n % 10) ∷ [])
unfolding decimal digits
decimal_more n h = simp (le-ltb n 10 h) (ap (λ (l : List ℕ). l ++ (digit (n % 10) ∷ [])) (enough n (suc (n / 10)) (n / 10) (omega arith) (omega arith)))

pub length_more : (n : ℕ) → 10 ≤ n → length (decimal n) ≡ length (decimal (n / 10)) + 1
length_more n h = ap length (decimal_more n h) ∙ length-append (decimal (n / 10)) (digit (n % 10) ∷ [])

-- a number below 10 to the g + 1 has at most g + 1 digits
pub decimal_short : (g n : ℕ) → n < 10 ^ suc g → length (decimal n) ≤ suc g
decimal_short zero n h = omega (arith, ap length (decimal_one n (omega arith)))
decimal_short (suc g) n h = by (ltb n 10) refl (decimal_short g (n / 10))
  where
    by : (t : Bool) → ltb n 10 ≡ t → (n / 10 < 10 ^ suc g → length (decimal (n / 10)) ≤ suc g) → length (decimal n) ≤ suc (suc g)
    by true e f = omega (arith, ap length (decimal_one n (ltb-true n 10 e)))
    by false e f = omega (arith, length_more n (ltb-false n 10 e), f (omega arith))

-- 64 bits take at most 20 digits
pub decimal_word : (n : ℕ) → n < 2 ^ 64 → length (decimal n) ≤ 20
decimal_word n h = decimal_short 19 n (omega arith)

pub decimal_pos : (n : ℕ) → 0 < length (decimal n)
decimal_pos n = by (ltb n 10) refl
  where
    by : (t : Bool) → ltb n 10 ≡ t → 0 < length (decimal n)
    by true e = omega (arith, ap length (decimal_one n (ltb-true n 10 e)))
    by false e = omega (arith, length_more n (ltb-false n 10 e))

pub ten_pos : (g : ℕ) → 1 ≤ 10 ^ g
ten_pos zero = omega arith
ten_pos (suc g) = omega (arith, ten_pos g)

-- one that reaches 10 to the g takes at least g + 1
pub decimal_long : (g n : ℕ) → 10 ^ g ≤ n → suc g ≤ length (decimal n)
decimal_long zero n h = omega (arith, decimal_pos n)
decimal_long (suc g) n h =
    let some : 10 ≤ n = omega (arith, ten_pos g) in omega (arith, length_more n some, decimal_long g (n / 10) (omega arith))

-- a sign takes one more
pub signed_word_lem : (z : ℤ) → mag z < 2 ^ 63 → length (signed_decimal z) ≤ 21
unfolding signed_decimal
signed_word_lem (pos n) h = omega (arith, decimal_word n (omega arith))
signed_word_lem (negsuc k) h = omega (arith, decimal_word (suc k) (omega arith))

-- Numbers in decimal, as bytes of ASCII.
use Rattle.std.specs.Prelude.{ℕ, zero, suc, ◌+◌, ◌/◌, ◌%◌, cond, List, [], ◌∷◌, ◌++◌, ltb, ℤ, pos, negsuc}

-- the byte of a digit, of which "0" is 48
abbrev pub digit : ℕ → ℕ
digit d = 48 + d

-- "-"
abbrev pub minus : ℕ
minus = 45

-- the last k digits of n, the highest first, or fewer where n has fewer
unfoldable pub digits : ℕ → ℕ → List ℕ
digits zero n = []
digits (suc k) n = let front : List ℕ = digits k (n / 10) in cond (ltb n 10) (digit n ∷ []) (front ++ (digit (n % 10) ∷ []))

-- all digits of n: it has no more than n + 1
unfoldable pub decimal : ℕ → List ℕ
decimal n = digits (suc n) n

-- with the sign of a number below zero; `negsuc k` is -k - 1
unfoldable pub signed_decimal : ℤ → List ℕ
signed_decimal (pos n) = decimal n
signed_decimal (negsuc k) = minus ∷ decimal (suc k)

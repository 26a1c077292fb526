-- Numbers (NUMBER-1 to NUMBER-3): plain ones in groups of seven bits (LEB128),
-- signed ones by plain ones (zigzag). The largest number is a parameter.
use Rattle.std.specs.Prelude.{ℕ, zero, suc, ◌+◌, ◌*◌, ◌-◌, ◌/◌, ◌%◌, ◌<◌, ◌≤◌, ◌^◌, cond, List, [], ◌∷◌, eqb, ltb, leb, ℤ, pos, negsuc}
use Rattle.std.specs.Int.Signed.{mag}
use Rattle.file_formats.specs.Formats.{Parse, parsed, refused, Format, tested, through}

-- the largest number of 32 bits
abbrev pub largest_word : ℕ
largest_word = 4294967295

-- ---- plain numbers

-- the lowest k groups of n, lowest first, or fewer where n has
-- fewer; 128 is added to every byte but the last (NUMBER-1)
unfoldable pub groups : ℕ → ℕ → List ℕ
groups zero n = []
groups (suc k) n = let more : List ℕ = groups k (n / 128) in cond (ltb n 128) (n ∷ []) ((128 + n % 128) ∷ more)

-- all groups of n: it has no more than n + 1
unfoldable pub encode_number : ℕ → List ℕ
encode_number n = groups (suc n) n

-- the group of byte b below the groups that make v; v is 0 where the number takes more bytes than it needs (NUMBER-2)
abbrev pub joined_groups : ℕ → Parse ℕ → Parse ℕ
joined_groups b (parsed v r) = cond (ltb 0 v) (parsed (b - 128 + 128 * v) r) (refused r)
joined_groups b (refused r) = refused r

-- a number of any size, in its fewest bytes (NUMBER-2)
unfoldable pub parse_number : List ℕ → Parse ℕ
parse_number [] = refused []
parse_number (b ∷ l) = let more : Parse ℕ = joined_groups b (parse_number l) in cond (ltb b 128) (parsed b l) more

-- a number of at most top: with `largest_word` it has 32 bits (NUMBER-1)
abbrev pub number : ℕ → Format ℕ
number top = record { valid = λ n. n ≤ top; encode = encode_number; parse = λ l. tested (λ n. leb n top) l (parse_number l) }

-- ---- signed numbers

-- n is sent as 2n if n ≥ 0, else as -2n - 1 (NUMBER-3); `negsuc k` is -k - 1
abbrev pub zigzag : ℤ → ℕ
zigzag (pos n) = 2 * n
zigzag (negsuc k) = 2 * k + 1

-- and back
abbrev pub unzigzag : ℕ → ℤ
unzigzag m = cond (eqb (m % 2) 0) (pos (m / 2)) (negsuc (m / 2))

-- a signed number that is sent as a number of at most top: with `largest_word` it has 32 bits
abbrev pub signed : ℕ → Format ℤ
signed top = through unzigzag zigzag (number top)

-- a signed number of 32 bits, that is of at least -2^31 and below 2^31: `mag` is n for n ≥ 0, and -n - 1 else
abbrev pub Word : ℤ → Type 0
Word z = mag z < 2 ^ 31

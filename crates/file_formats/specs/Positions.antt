-- Values at a position of a file, as functions of the code answer them.
use Rattle.std.specs.Prelude.{ℕ, ◌-◌, ◌≤◌, ◌≡◌, List, length, drop, Result, Ok, Err}
use Rattle.file_formats.specs.Formats.{Parse, parsed, refused, Format}
use Rattle.file_formats.specs.Numbers.{number}
use Rattle.file_formats.specs.declared.Broken.{Broken}

-- a file breaks at a position
abbrev pub breaks_at : ℕ → Broken
breaks_at at = record { at = at }

-- in a file of n bytes, the number at a position and the position after it
abbrev pub number_told : ℕ → ℕ → Parse ℕ → Result (ℕ × ℕ) Broken
number_told n at (parsed v r) = Ok (v, n - length r)
number_told n at (refused r) = Err (breaks_at at)

-- the number of at most top at a position
unfoldable pub number_at : ℕ → List ℕ → ℕ → Result (ℕ × ℕ) Broken
number_at top file at = number_told (length file) at ((number top).parse (drop at file))

-- in a file of n bytes, the position after a value, or that of the refused one
abbrev pub extent : {A : Type 0} → ℕ → Parse A → Result ℕ Broken
extent n (parsed a r) = Ok (n - length r)
extent n (refused r) = Err (breaks_at (n - length r))

-- how far the file is in a format, from a position on
unfoldable pub extent_at : {A : Type 0} → Format A → List ℕ → ℕ → Result ℕ Broken
extent_at F file at = extent (length file) (F.parse (drop at file))

-- a value stands at a position, up to `next`
pub record ParsedAt {A : Type 0} (F : Format A) (file : List ℕ) (at : ℕ) (a : A) (next : ℕ) : Type 0 where
  pub inside : next ≤ length file
  pub parses : F.parse (drop at file) ≡ parsed a (drop next file)

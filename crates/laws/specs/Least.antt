-- The least place that fits.
use Rattle.std.specs.Prelude.{ℕ, zero, suc, Bool, cond, ltb}

-- the least i below n that fits; n where none does
unfoldable pub least : ℕ → (ℕ → Bool) → ℕ
least zero fits = zero
least (suc n) fits = cond (fits zero) zero (suc (least n (λ k. fits (suc k))))

-- some i below n fits
unfoldable pub some : ℕ → (ℕ → Bool) → Bool
some n fits = ltb (least n fits) n

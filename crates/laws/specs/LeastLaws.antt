-- Laws of `least` and `some`: what they say of every place, and what a search in ascending order has found.
use Rattle.std.specs.Prelude.{ℕ, zero, suc, ◌+◌, ◌≤◌, ◌<◌, ◌≡◌, refl, Bool, true, false, cond}
use Rattle.std.proofs.Common.{sym, ◌∙◌, ⊎_elim, arith, not-suc-le-zero, le_of_suc-le-suc, ltb-true, ltb-false, lt-ltb}
use Rattle.laws.specs.Booleans.{clash, split_lt}
use Rattle.laws.specs.Least.{least, some}

pub least_le : (n : ℕ) (fits : ℕ → Bool) → least n fits ≤ n
unfolding least
least_le zero fits = omega arith
least_le (suc n) fits = by (fits zero) (least_le n (λ k. fits (suc k)))
  where
    by : (b : Bool) → least n (λ k. fits (suc k)) ≤ n → cond b zero (suc (least n (λ k. fits (suc k)))) ≤ suc n
    by true h = omega arith
    by false h = omega arith

-- the least place fits
pub least_fits : (n : ℕ) (fits : ℕ → Bool) → least n fits < n → fits (least n fits) ≡ true
unfolding least
least_fits zero fits h = absurd (not-suc-le-zero h)
least_fits (suc n) fits h = by (fits zero) refl (least_fits n (λ k. fits (suc k))) h
  where
    r : ℕ
    r = least n (λ k. fits (suc k))

    by : (b : Bool) → fits zero ≡ b → (r < n → fits (suc r) ≡ true) → cond b zero (suc r) < suc n → fits (cond b zero (suc r)) ≡ true
    by true e k l = e
    by false e k l = k (le_of_suc-le-suc l)

-- no place before it fits
pub least_before : (n : ℕ) (fits : ℕ → Bool) (i : ℕ) → i < least n fits → fits i ≡ false
unfolding least
least_before zero fits i h = absurd (not-suc-le-zero h)
least_before (suc n) fits i h = by (fits zero) refl i h (least_before n (λ k. fits (suc k)))
  where
    r : ℕ
    r = least n (λ k. fits (suc k))

    by : (b : Bool) → fits zero ≡ b → (i : ℕ) → i < cond b zero (suc r) → ((j : ℕ) → j < r → fits (suc j) ≡ false) → fits i ≡ false
    by true e i l k = absurd (not-suc-le-zero l)
    by false e zero l k = e
    by false e (suc i) l k = k i (le_of_suc-le-suc l)

-- it is at most any place that fits
pub least_upto : (n : ℕ) (fits : ℕ → Bool) (i : ℕ) → fits i ≡ true → least n fits ≤ i
least_upto n fits i e = ⊎_elim (λ h. absurd (clash e (least_before n fits i h))) (λ h. h) (split_lt i (least n fits))

-- a search in ascending order has found the least place
pub least_is : (n : ℕ) (fits : ℕ → Bool) (i : ℕ) → i < n → fits i ≡ true → ((k : ℕ) → k < i → fits k ≡ false) → least n fits ≡ i
least_is n fits i l e f =
    let a : least n fits ≤ i = least_upto n fits i e in
    let b : i ≤ least n fits = ⊎_elim (λ h. absurd (clash (least_fits n fits (omega arith)) (f (least n fits) h))) (λ h. h) (split_lt (least n fits) i) in
    omega arith

-- or none
pub least_none : (n : ℕ) (fits : ℕ → Bool) → ((i : ℕ) → i < n → fits i ≡ false) → least n fits ≡ n
least_none n fits f =
    let a : least n fits ≤ n = least_le n fits in
    let b : n ≤ least n fits = ⊎_elim (λ h. absurd (clash (least_fits n fits h) (f (least n fits) h))) (λ h. h) (split_lt (least n fits) n) in
    omega arith

-- where none is found none fits
pub none_fits : (n : ℕ) (fits : ℕ → Bool) → n ≤ least n fits → (i : ℕ) → i < n → fits i ≡ false
none_fits n fits h i l = least_before n fits i (omega arith)

-- tests that agree have one least place
pub least_same : (n : ℕ) (p q : ℕ → Bool) → ((i : ℕ) → i < n → p i ≡ q i) → least n p ≡ least n q
unfolding least
least_same zero p q f = refl
least_same (suc n) p q f = (λ i. cond (f zero (omega arith) i) zero (suc (least_same n (λ k. p (suc k)) (λ k. q (suc k)) (λ k l. f (suc k) (omega arith)) i)))

-- some place fits
pub some_of : (n : ℕ) (fits : ℕ → Bool) (i : ℕ) → i < n → fits i ≡ true → some n fits ≡ true
unfolding some
some_of n fits i l e = lt-ltb (least n fits) n (omega (arith, least_upto n fits i e))

pub some_at : (n : ℕ) (fits : ℕ → Bool) → some n fits ≡ true → (least n fits < n) × (fits (least n fits) ≡ true)
unfolding some
some_at n fits e = let h = ltb-true (least n fits) n e in (h, least_fits n fits h)

pub some_none : (n : ℕ) (fits : ℕ → Bool) → some n fits ≡ false → (i : ℕ) → i < n → fits i ≡ false
unfolding some
some_none n fits e = none_fits n fits (ltb-false (least n fits) n e)

-- ---- a loop that searches in ascending order: nothing fits before i

pub record Scanned (n : ℕ) (fits : ℕ → Bool) (i : ℕ) : Type 0 where
  pub upto : i ≤ n
  pub clear : (k : ℕ) → k < i → fits k ≡ false

pub scan_start : {n : ℕ} {fits : ℕ → Bool} → Scanned n fits 0
scan_start = record { upto = omega arith; clear = λ k l. absurd (not-suc-le-zero l) }

module _ {n : ℕ} {fits : ℕ → Bool} {i : ℕ} (s : Scanned n fits i) where
  pub scan_hit : i < n → fits i ≡ true → i ≡ least n fits
  scan_hit l e = sym (least_is n fits i l e s.clear)

  pub scan_miss : i < n → fits i ≡ false → Scanned n fits (i + 1)
  scan_miss l e = record { upto = omega arith; clear = λ k h. ⊎_elim (λ m. s.clear k m) (λ m. let q : k ≡ i = omega arith in rw q e) (split_lt k i) }

  pub scan_end : n ≤ i → i ≡ least n fits
  scan_end h = let q : i ≡ n = omega (arith, s.upto) in q ∙ sym (least_none n fits (λ k l. s.clear k (omega arith)))

  -- the same, where a `for` over the first n has ended
  pub scan_over : n ≤ i → n ≡ least n fits
  scan_over h = sym (least_none n fits (λ k l. s.clear k (omega arith)))

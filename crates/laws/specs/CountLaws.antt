-- Laws of `count`: a weaker test counts no fewer, and one more where it passes one more; tests that agree count the same; and how many pass below one number
-- and below a later one.
use Prim.Native.Nat.{ℕ, zero, suc, ◌+◌, ◌-◌, ◌≤◌, ◌<◌}
use Rattle.std.specs.Prelude.{◌≡◌, Bool, ◌⊎◌}
use Rattle.std.proofs.Math.Path.{refl, ap}
use Rattle.std.proofs.Common.{sym, ◌∙◌, inl, inr, ⊎_elim, add-one, not-suc-le-zero}
use Rattle.std.proofs.Math.Bool.{true, false, cond}
use native.Mathlib.Omega.{arith}
use Rattle.std.proofs.Math.Decide.{ℕ_discrete}
use Rattle.laws.specs.Booleans.{clash, split_lt}
use Rattle.laws.specs.Count.{count}

module _ (s t : ℕ → Bool) where
  tick_le : (a b : Bool) (x y : ℕ) → (a ≡ true → b ≡ true) → x ≤ y → cond a 1 0 + x ≤ cond b 1 0 + y
  tick_le true true x y h l = omega arith
  tick_le true false x y h l = absurd (clash (h refl) refl)
  tick_le false true x y h l = omega arith
  tick_le false false x y h l = omega arith

  pub count_le : (n : ℕ) → ((i : ℕ) → i < n → s i ≡ true → t i ≡ true) → count n s ≤ count n t
  unfolding count
  count_le zero h = omega arith
  count_le (suc n) h = tick_le (s n) (t n) (count n s) (count n t) (h n (omega arith)) (count_le n (λ i l. h i (omega arith)))

  pub count_lt : (n : ℕ) → ((i : ℕ) → i < n → s i ≡ true → t i ≡ true) → (k : ℕ) → k < n → s k ≡ false → t k ≡ true → count n s < count n t
  unfolding count
  count_lt zero h k l p q = absurd (not-suc-le-zero l)
  count_lt (suc n) h k l p q = by (ℕ_discrete k n) (λ m. count_lt n (λ i j. h i (omega arith)) k m p q)
    where
      by : Dec (k ≡ n) → (k < n → count n s < count n t) → cond (s n) 1 0 + count n s < cond (t n) 1 0 + count n t
      by (yes e) ih =
          let a : s n ≡ false = ap s (sym e) ∙ p in
          let b : t n ≡ true = ap t (sym e) ∙ q in
          let c : count n s ≤ count n t = count_le n (λ i j. h i (omega arith)) in
          rw (a, b) (omega arith)
      by (no e) ih = omega (arith, tick_le (s n) (t n) (suc (count n s)) (count n t) (h n (omega arith)) (ih (omega arith)))

pub count_bound : (n : ℕ) (t : ℕ → Bool) → count n t ≤ n
unfolding count
count_bound zero t = omega arith
count_bound (suc n) t = by (t n) (count_bound n t)
  where
    by : (b : Bool) → count n t ≤ n → cond b 1 0 + count n t ≤ suc n
    by true h = omega arith
    by false h = omega arith

-- tests that agree count the same
pub count_same : (n : ℕ) (s t : ℕ → Bool) → ((i : ℕ) → i < n → s i ≡ t i) → count n s ≡ count n t
unfolding count
count_same zero s t h = refl
count_same (suc n) s t h = λ i. cond (h n (omega arith) i) 1 0 + count_same n s t (λ k l. h k (omega arith)) i

-- nothing is counted exactly if nothing passes
pub count_nothing : (n : ℕ) (t : ℕ → Bool) → ((i : ℕ) → i < n → t i ≡ false) → count n t ≡ 0
unfolding count
count_nothing zero t h = refl
count_nothing (suc n) t h = rw (h n (omega arith)) (omega (arith, count_nothing n t (λ k l. h k (omega arith))))

pub count_some : (n : ℕ) (t : ℕ → Bool) (k : ℕ) → k < n → t k ≡ true → 0 < count n t
count_some n t k l e = omega (arith, count_lt (λ i. false) t n (λ i h f. absurd (clash f refl)) k l refl e)

-- what one test adds
abbrev pub tally : Bool → ℕ
tally b = cond b 1 0

-- the first number apart
pub count_first : (n : ℕ) (t : ℕ → Bool) → count (suc n) t ≡ tally (t 0) + count n (λ i. t (i + 1))
unfolding count
count_first zero t = refl
count_first (suc n) t =
    let e : suc n ≡ n + 1 = omega arith in
    let last : tally (t (suc n)) ≡ tally (t (n + 1)) = ap (λ (k : ℕ). tally (t k)) e in
    omega (arith, last, count_first n t)

-- from the last number to the first
pub count_back : (n : ℕ) (t : ℕ → Bool) → count n (λ i. t (n - suc i)) ≡ count n t
unfolding count
count_back zero t = refl
count_back (suc n) t =
    let top : suc n - suc n ≡ 0 = omega arith in
    let one : tally (t (suc n - suc n)) ≡ tally (t 0) = ap (λ (k : ℕ). tally (t k)) top in
    let rest = count_same n (λ i. t (suc n - suc i)) (λ i. t ((n - suc i) + 1)) (λ i l. let e : suc n - suc i ≡ (n - suc i) + 1 = omega arith in ap t e) in
    omega (arith, one, rest, count_back n (λ k. t (k + 1)), count_first n t)

-- ---- a loop that counts

pub count_start : (t : ℕ → Bool) → 0 ≡ count 0 t
unfolding count
count_start t = refl

pub count_one : (n : ℕ) (t : ℕ → Bool) → t n ≡ true → count n t + 1 ≡ count (n + 1) t
unfolding count
count_one n t e = rw (add-one n, e) (omega arith)

pub count_none : (n : ℕ) (t : ℕ → Bool) → t n ≡ false → count n t ≡ count (n + 1) t
unfolding count
count_none n t e = rw (add-one n, e) (omega arith)

-- ---- below one number and below a later one

module _ (t : ℕ → Bool) where
  pub count_stay : (k m : ℕ) → k ≤ m → ((j : ℕ) → k ≤ j → j < m → t j ≡ false) → count m t ≡ count k t
  unfolding count
  count_stay k zero h f = let e : zero ≡ k = omega arith in ap (λ (j : ℕ). count j t) e
  count_stay k (suc m) h f = by (split_lt m k) (λ l. count_stay k m l (λ j a b. f j a (omega arith)))
    where
      by : (m < k) ⊎ (k ≤ m) → (k ≤ m → count m t ≡ count k t) → count (suc m) t ≡ count k t
      by (inl l) ih = let e : suc m ≡ k = omega arith in ap (λ (j : ℕ). count j t) e
      by (inr l) ih = let e = f m l (omega arith) in rw e (omega (arith, ih l))

  pub count_rise : (k m : ℕ) → k ≤ m → count k t ≤ count m t
  unfolding count
  count_rise k zero h = let e : k ≡ zero = omega arith in rw e (omega arith)
  count_rise k (suc m) h = by (split_lt m k) (count_rise k m)
    where
      tick : (b : Bool) (x y : ℕ) → x ≤ y → x ≤ cond b 1 0 + y
      tick true x y l = omega arith
      tick false x y l = omega arith

      by : (m < k) ⊎ (k ≤ m) → (k ≤ m → count k t ≤ count m t) → count k t ≤ count (suc m) t
      by (inl l) ih = let e : k ≡ suc m = omega arith in omega (arith, ap (λ (j : ℕ). count j t) e)
      by (inr l) ih = tick (t m) (count k t) (count m t) (ih l)

  pub count_past : (i k : ℕ) → i < k → t i ≡ true → count i t < count k t
  count_past i k h e = omega (arith, count_one i t e, count_rise (i + 1) k (omega arith))

  -- the number that has r before it that pass, and passes
  pub record Nth (k r : ℕ) : Type 0 where
    pub at : ℕ
    pub below : at < k
    pub fits : t at ≡ true
    pub is : count at t ≡ r

  pub count_nth : (k r : ℕ) → r < count k t → Nth k r
  unfolding count
  count_nth zero r h = absurd (omega arith)
  count_nth (suc k) r h = by (t k) refl h (count_nth k r)
    where
      further : Nth k r → Nth (suc k) r
      further x = record { at = x.at; below = omega (arith, x.below); fits = x.fits; is = x.is }

      by : (b : Bool) → t k ≡ b → r < cond b 1 0 + count k t → (r < count k t → Nth k r) → Nth (suc k) r
      by true e l ih = ⊎_elim (λ m. further (ih m)) (λ m. record { at = k; below = omega arith; fits = e; is = omega arith }) (split_lt r (count k t))
      by false e l ih = further (ih (omega arith))

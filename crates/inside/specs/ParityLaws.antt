-- Odd and even counts: one more turns the one into the other, and once round a contour a level is passed an even number of times.
use Prim.Native.Nat.{ℕ, zero, suc, ◌+◌, ◌%◌, ◌<◌}
use Rattle.std.specs.Prelude.{◌≡◌, refl, Bool, true, false, eqb}
use Rattle.std.proofs.Math.Path.{sym, ap}
use Rattle.std.proofs.Common.{◌∙◌, eq-eqb, ne_eqb, eqb-true}
use Rattle.std.proofs.Math.Bool.{xor}
use native.Mathlib.Omega.{arith}
use Rattle.std.proofs.lemmas.Bool.{eqb-false}
use Rattle.laws.specs.Count.{count}
use Rattle.laws.specs.CountLaws.{tally, count_same}
use Rattle.contours.specs.Areas.{next_point}
use Rattle.contours.specs.AreaLaws.{next_on, next_round}
use Rattle.inside.specs.Inside.{is_odd}

pub odd_none : is_odd 0 ≡ false
unfolding is_odd
odd_none = refl

xor_none : (s : Bool) → xor false s ≡ s
unfolding xor
xor_none true = refl
xor_none false = refl

xor_self : (s : Bool) → xor s s ≡ false
unfolding xor
xor_self true = refl
xor_self false = refl

-- one more
pub odd_more : (b : Bool) (m : ℕ) → is_odd (tally b + m) ≡ xor b (is_odd m)
unfolding is_odd xor
odd_more b m = by b (eqb (m % 2) 1) refl
  where
    by : (b t : Bool) → eqb (m % 2) 1 ≡ t → eqb ((tally b + m) % 2) 1 ≡ xor b t
    by false t e = let same : 0 + m ≡ m = omega arith in ap (λ (k : ℕ). eqb (k % 2) 1) same ∙ e ∙ sym (xor_none t)
    by true true e = ne_eqb ((1 + m) % 2) 1 (λ q. omega (arith, eqb-true (m % 2) 1 e))
    by true false e = eq-eqb ((1 + m) % 2) 1 (odd_next (eqb-false (m % 2) 1 e))
      where
        odd_next : (m % 2 ≡ 1 → ⊥) → (1 + m) % 2 ≡ 1
        odd_next h = omega (arith, h)

-- two changes are one
xor_across : (s t u : Bool) → xor (xor t u) (xor s t) ≡ xor s u
unfolding xor
xor_across true true true = refl
xor_across true true false = refl
xor_across true false true = refl
xor_across true false false = refl
xor_across false true true = refl
xor_across false true false = refl
xor_across false false true = refl
xor_across false false false = refl

module _ (side : ℕ → Bool) where
  -- from point 0 to point n the side changes an odd number of times exactly if the two differ
  changes : (n : ℕ) → is_odd (count n (λ i. xor (side i) (side (i + 1)))) ≡ xor (side 0) (side n)
  unfolding count
  changes zero = odd_none ∙ sym (xor_self (side 0))
  changes (suc n) =
      let e : n + 1 ≡ suc n = omega arith in
      odd_more (xor (side n) (side (n + 1))) (count n (λ i. xor (side i) (side (i + 1))))
      ∙ ap (xor (xor (side n) (side (n + 1)))) (changes n)
      ∙ xor_across (side 0) (side n) (side (n + 1))
      ∙ ap (λ (k : ℕ). xor (side 0) (side k)) e

  -- once round, an even number of times
  pub round_even : (n : ℕ) → is_odd (count n (λ i. xor (side i) (side (next_point n i)))) ≡ false
  unfolding count
  round_even zero = odd_none
  round_even (suc n) =
      odd_more (xor (side n) (side (next_point (suc n) n))) (count n (λ i. xor (side i) (side (next_point (suc n) i))))
      ∙ (λ t. xor (xor (side n) (side (last t))) (is_odd (count_same n _ _ before t)))
      ∙ ap (xor (xor (side n) (side 0))) (changes n)
      ∙ xor_across (side 0) (side n) (side 0)
      ∙ xor_self (side 0)
    where
      last : next_point (suc n) n ≡ 0
      last = next_round (suc n) n (omega arith)

      before : (i : ℕ) → i < n → xor (side i) (side (next_point (suc n) i)) ≡ xor (side i) (side (i + 1))
      before i l = ap (λ (k : ℕ). xor (side i) (side k)) (next_on (suc n) i (omega arith))

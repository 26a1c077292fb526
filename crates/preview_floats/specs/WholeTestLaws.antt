-- Laws of the test for whole numbers of coordinate range: what passes it, and that two comparisons and a cast there and back decide it.
use Rattle.std.specs.Prelude.{◌≡◌, ℕ, suc, ◌+◌, ◌-◌, ◌*◌, ◌/◌, ◌%◌, ◌^◌, ◌<◌, ◌≤◌, min, Bool, true, false, cond, ◌&&◌, ◌||◌, ◌⊎◌, ◌↔◌, ℤ, pos, neg_ℤ, ◌==◌}
use Rattle.std.specs.Prelude.{nat_eq, nat_le, nat_lt, unsigned_abs, refl, Float}
use Rattle.std.proofs.Common.{sym, ap, ◌∙◌, subst, zero-mul, mul-div_cancel, div-add-mod', div-lt_iff_lt-mul, mul_right_comm, mul-le-mul_right, arith, ltb-true}
use Rattle.std.proofs.Common.{lt-ltb, eqb-true, eq-eqb, leb-true, le-leb, inl, inr, ⊎_elim}
use Rattle.std.specs.Bool.{beq}
use Rattle.std.proofs.lemmas.Bool.{false≢true}
use Rattle.std.proofs.Math.Nat.{mul-mod_left, eq_of_mul-eq-mul_right}
use Rattle.std.specs.Float.{nan, inf, fin, binary32}
use Rattle.std.specs.Float.Ieee.{up, down, to_signed, le, eq, level}
use Rattle.std.specs.Float.Ieee.Fits.{down_pos}
use Rattle.laws.specs.Booleans.{clash, and_parts, and_of, or_left, or_right, or_cases, same_test, split_lt}
use Rattle.mesh.specs.Corners.{largest}
use Rattle.laws.specs.Integers.{up_neg, up as plus}
use Rattle.preview_floats.specs.WholeFloats.{with_sign, FloatIs, is_whole, value_of, float}
use Rattle.preview_floats.specs.WholeLaws.{signed_abs, signed_mul, zero_of, Parts, parts_of, of_parts_lem, cast_stands}

-- ---- which floats are whole numbers of coordinate range

-- a float is at most one number
pub stands_one : (x : Float) (a b : ℤ) → FloatIs x a → FloatIs x b → a ≡ b
stands_one nan a b h k = absurd h
stands_one (inf s) a b h k = absurd h
stands_one (fin s m e) a b h k =
    let u = parts_of s m e a h in
    let v = parts_of s m e b k in
    sym u.is ∙ ap (with_sign s) (eq_of_mul-eq-mul_right (down e) (down_pos e) (unsigned_abs a) (unsigned_abs b) (sym u.size ∙ v.size)) ∙ v.is

-- a float that passes the test is the number `value_of`, which is in range
pub whole_stands : (x : Float) → is_whole x ≡ true → FloatIs x (value_of x) × (unsigned_abs (value_of x) ≤ largest)
unfolding is_whole value_of
whole_stands nan t = absurd (clash t refl)
whole_stands (inf s) t = absurd (clash t refl)
whole_stands (fin s m e) t =
    let p = and_parts (m * up e % down e == 0) (nat_le (m * up e / down e) largest) t in
    let k = m * up e / down e in
    let rest : m * up e % down e ≡ 0 = eqb-true (m * up e % down e) 0 p.0 in
    let size : m * up e ≡ k * down e = omega (arith, div-add-mod' (m * up e) (down e)) in
    (ap (with_sign s) size ∙ signed_mul s k (down e), subst (λ (n : ℕ). n ≤ largest) (sym (signed_abs s k)) (leb-true k largest p.1))

-- and one that is a number in range passes it
pub stands_whole : (x : Float) (z : ℤ) → FloatIs x z → unsigned_abs z ≤ largest → is_whole x ≡ true
unfolding is_whole
stands_whole nan z h k = absurd h
stands_whole (inf s) z h k = absurd h
stands_whole (fin s m e) z h k =
    let size = (parts_of s m e z h).size in
    let cut : m * up e / down e ≡ unsigned_abs z = ap (λ (n : ℕ). n / down e) size ∙ mul-div_cancel (unsigned_abs z) (down_pos e) in
    let rest : m * up e % down e ≡ 0 = ap (λ (n : ℕ). n % down e) size ∙ mul-mod_left (unsigned_abs z) (down e) in
    and_of (eq-eqb (m * up e % down e) 0 rest) (le-leb (m * up e / down e) largest (subst (λ (n : ℕ). n ≤ largest) (sym cut) k))

pub stands_value : (x : Float) (z : ℤ) → FloatIs x z → unsigned_abs z ≤ largest → value_of x ≡ z
stands_value x z h k = stands_one x (value_of x) z (whole_stands x (stands_whole x z h k)).0 h

-- exactly the whole numbers of coordinate range pass the test
pub whole_exactly : (x : Float) → (is_whole x ≡ true) ↔ (z : ℤ) × FloatIs x z × (unsigned_abs z ≤ largest)
whole_exactly x = (λ t. (value_of x, (whole_stands x t).0, (whole_stands x t).1), λ w. stands_whole x w.0 w.1 w.2)

-- ---- the test by two comparisons and a cast there and back

-- at most 1,048,576 in size
abbrev pub Within : Float → Type 0
Within nan = ⊥
Within (inf s) = ⊥
Within (fin s m e) = m * up e ≤ largest * down e

-- -1,048,576.0 and 1,048,576.0
abbrev pub lowest : Float
lowest = fin true 1 (pos 20)

abbrev pub highest : Float
highest = fin false 1 (pos 20)

-- a ≤ b, as `le` tests it, by `same` for a = b
le_in : (a b : ℕ) (same : Bool) → (a ≡ b → same ≡ true) → a ≤ b → (nat_lt a b || (same && true)) ≡ true
le_in a b same f h = ⊎_elim (λ l. or_left (nat_lt a b) (same && true) (lt-ltb a b l)) (λ l. or_right (nat_lt a b) (same && true) (equal l)) (split_lt a b)
  where
    equal : b ≤ a → (same && true) ≡ true
    equal l = and_of (f (omega arith)) refl

le_out : (a b : ℕ) (same : Bool) → (same ≡ true → a ≡ b) → (nat_lt a b || (same && true)) ≡ true → a ≤ b
le_out a b same f t =
    ⊎_elim (λ l. omega (arith, ltb-true a b l)) (λ l. omega (arith, f (and_parts same true l).0)) (or_cases (nat_lt a b) (same && true) t)

pub whole_within : (x : Float) → is_whole x ≡ true → Within x
unfolding is_whole
whole_within nan t = absurd (clash t refl)
whole_within (inf s) t = absurd (clash t refl)
whole_within (fin s m e) t =
    let p = and_parts (m * up e % down e == 0) (nat_le (m * up e / down e) largest) t in
    let k = m * up e / down e in
    let rest : m * up e % down e ≡ 0 = eqb-true (m * up e % down e) 0 p.0 in
    omega (arith, div-add-mod' (m * up e) (down e), mul-le-mul_right (down e) (leb-true k largest p.1))

pub within_low : (x : Float) → Within x → le lowest x ≡ true
unfolding le
within_low nan w = absurd w
within_low (inf s) w = absurd w
within_low (fin false m e) w = or_left (nat_lt 0 (largest * down e + m * up e * 1)) _ (lt-ltb 0 (largest * down e + m * up e * 1) (omega (arith, down_pos e)))
within_low (fin true m e) w =
    let size = m * up e * 1 in
    let limit = largest * down e in
    le_in size limit (limit == size) (λ q. eq-eqb limit size (sym q)) (omega arith)

pub within_high : (x : Float) → Within x → le x highest ≡ true
unfolding le
within_high nan w = absurd w
within_high (inf s) w = absurd w
within_high (fin false m e) w =
    let size = m * up e * 1 in
    let limit = largest * down e in
    le_in size limit (size == limit) (eq-eqb size limit) (omega arith)
within_high (fin true m e) w = or_left (nat_lt 0 (m * up e * 1 + largest * down e)) _ (lt-ltb 0 (m * up e * 1 + largest * down e) (omega (arith, down_pos e)))

pub within_of : (x : Float) → le lowest x ≡ true → le x highest ≡ true → Within x
unfolding le
within_of nan a b = false≢true a
within_of (inf true) a b = false≢true a
within_of (inf false) a b = false≢true b
within_of (fin false m e) a b =
    let size = m * up e * 1 in
    let limit = largest * down e in
    omega (arith, le_out size limit (size == limit) (eqb-true size limit) b)
within_of (fin true m e) a b =
    let size = m * up e * 1 in
    let limit = largest * down e in
    omega (arith, le_out size limit (limit == size) (λ q. sym (eqb-true limit size q)) a)

cut_small : (a d : ℕ) → 0 < d → a ≤ largest * d → a / d ≤ largest
cut_small a d D h = omega (arith, (div-lt_iff_lt-mul {k = d} {x = a} {y = suc largest} D).1 (omega arith))

-- cut to a whole number it is `value_of`, which an f32 holds
pub within_cut : (x : Float) → Within x → to_signed 63 x ≡ value_of x
unfolding to_signed value_of
within_cut nan w = absurd w
within_cut (inf s) w = absurd w
within_cut (fin s m e) w = by s (m * up e / down e) (cut_small (m * up e) (down e) (down_pos e) w)
  where
    by : (s : Bool) (k : ℕ) → k ≤ largest → cond s (neg_ℤ (pos (min k (2 ^ 63)))) (pos (min k (2 ^ 63 - 1))) ≡ with_sign s k
    by false k h = let e : min k (2 ^ 63 - 1) ≡ k = omega arith in ap pos e
    by true k h = let e : min k (2 ^ 63) ≡ k = omega arith in ap (λ (n : ℕ). neg_ℤ (pos n)) e

pub within_small : (x : Float) → Within x → unsigned_abs (value_of x) ≤ largest
unfolding value_of
within_small nan w = absurd w
within_small (inf s) w = absurd w
within_small (fin s m e) w = subst (λ (n : ℕ). n ≤ largest) (sym (signed_abs s (m * up e / down e))) (cut_small (m * up e) (down e) (down_pos e) w)

-- ---- `==` of a float that is z: it holds of the floats that are z

beq_same : (s t : Bool) → beq s t ≡ true → s ≡ t
beq_same true true q = refl
beq_same true false q = absurd (false≢true q)
beq_same false true q = absurd (false≢true q)
beq_same false false q = refl

-- the same size with another sign is 0
other_sign : (s t : Bool) (n : ℕ) → with_sign s n ≡ with_sign t n → (beq s t ≡ true) ⊎ (n ≡ 0)
other_sign true true n q = inl refl
other_sign false false n q = inl refl
other_sign false true n q = inr (omega (arith, ap plus q, up_neg (pos n)))
other_sign true false n q = inr (omega (arith, ap plus q, up_neg (pos n)))

any_sign : (s t : Bool) (n : ℕ) (z : ℤ) → n ≡ 0 → with_sign t n ≡ z → with_sign s n ≡ z
any_sign s t n z e q = zero_signed s ∙ sym (zero_signed t) ∙ q
  where
    zero_signed : (u : Bool) → with_sign u n ≡ pos 0
    zero_signed true = ap (λ (k : ℕ). neg_ℤ (pos k)) e
    zero_signed false = ap pos e

module _ (t s : Bool) (n m : ℕ) (d e : ℤ) (z : ℤ) (y_is : Parts t n d z) where
  left : n * up d * down e ≡ unsigned_abs z * down e * down d
  left = ap (λ (i : ℕ). i * down e) y_is.size ∙ mul_right_comm (unsigned_abs z) (down d) (down e)

  eq_to : level t (n * up d * down e) s (m * up e * down d) ≡ true → Parts s m e z
  eq_to q =
      let p = and_parts (n * up d * down e == m * up e * down d) (beq t s || n * up d * down e == 0) q in
      let cross : n * up d * down e ≡ m * up e * down d = eqb-true (n * up d * down e) (m * up e * down d) p.0 in
      record {
        is =
            ⊎_elim (λ k. subst (λ (u : Bool). with_sign u (unsigned_abs z) ≡ z) (beq_same t s k) y_is.is)
            (λ k. any_sign s t (unsigned_abs z) z (no_size k) y_is.is)
            (or_cases (beq t s) (n * up d * down e == 0) p.1);
        size = eq_of_mul-eq-mul_right (down d) (down_pos d) (m * up e) (unsigned_abs z * down e) (sym cross ∙ left);
      }
    where
      no_size : nat_eq (n * up d * down e) 0 ≡ true → unsigned_abs z ≡ 0
      no_size k =
          zero_of (unsigned_abs z) (down e) (down_pos e) (zero_of (unsigned_abs z * down e) (down d) (down_pos d) (sym left ∙ eqb-true (n * up d * down e) 0 k))

  eq_from : Parts s m e z → level t (n * up d * down e) s (m * up e * down d) ≡ true
  eq_from p =
      and_of (eq-eqb (n * up d * down e) (m * up e * down d) (left ∙ ap (λ (i : ℕ). i * down d) (sym p.size)))
      (⊎_elim (λ k. or_left (beq t s) (n * up d * down e == 0) k)
      (λ k. or_right (beq t s) (n * up d * down e == 0) (eq-eqb (n * up d * down e) 0 (left ∙ nothing k)))
      (other_sign t s (unsigned_abs z) (y_is.is ∙ sym p.is)))
    where
      nothing : unsigned_abs z ≡ 0 → unsigned_abs z * down e * down d ≡ 0
      nothing k = ap (λ (i : ℕ). i * down e * down d) k ∙ ap (λ (i : ℕ). i * down d) (zero-mul (down e)) ∙ zero-mul (down d)

pub eq_exactly : (y x : Float) (z : ℤ) → FloatIs y z → (eq y x ≡ true) ↔ FloatIs x z
unfolding eq
eq_exactly nan x z h = absurd h
eq_exactly (inf t) x z h = absurd h
eq_exactly (fin t n d) nan z h = (λ q. false≢true q, absurd)
eq_exactly (fin t n d) (inf s) z h = (λ q. false≢true q, absurd)
eq_exactly (fin t n d) (fin s m e) z h =
    let p = parts_of t n d z h in
    (λ q. of_parts_lem s m e z (eq_to t s n m d e z p q), λ k. eq_from t s n m d e z p (parts_of s m e z k))

-- and equals what it was cut from exactly if nothing was cut off
pub within_whole : (x : Float) → Within x → eq (float (value_of x)) x ≡ is_whole x
within_whole x w =
    let k = within_small x w in
    let q = eq_exactly (float (value_of x)) x (value_of x) (cast_stands binary32 (value_of x) (omega arith)) in
    same_test (eq (float (value_of x)) x) (is_whole x) (λ t. stands_whole x (value_of x) (q.0 t) k) (λ t. q.1 (whole_stands x t).0)

-- What the machine computes with signed numbers, read as ℤ. An `Rd w z B` is a local of width w: its bits `n`, that they stand for the integer z (`is`),
-- and that |z| is at most B (`le`).
-- One combinator for each operation makes the `Rd` of its result (`mul r s tt`), and another answers the need that the result fits (`mul_ok r s tt`).
-- The `tt` is the bound's comparison with the width, which computes. A proof mirrors the code:  `dx = sub x1 x0 tt`.
-- The combinators are `abbrev`, so that the bits compute to the term that a need shows. Assumes nothing.
use Rattle.std.specs.Prelude.{◌≡◌, Bool, true, false, not, ℕ, zero, suc, ◌+◌, ◌*◌, ◌/◌, ◌<◌, ◌≤◌, ◌^◌, T, leb, ltb, ℤ, pos, negsuc, nat_abs, ◌+ℤ◌, ◌-ℤ◌, ◌*ℤ◌}
use Rattle.std.specs.Prelude.{◌≤ℤ◌, ◌<ℤ◌}
use Rattle.std.proofs.Common.{sym, ap, ◌∙◌, subst, mul-le-mul, le_trans, le_refl, le_of_eq, lt_of_le_of_lt, div-le_self, arith, pow_pos, ltb→lt}
use Rattle.std.proofs.Math.Facts.{sfits_widen}
use Rattle.std.specs.Int.Signed.{mag, le_z, lt_z, le_z_yes, lt_z_yes, lt_z_no, quot_z, <ℤ_irrefl, nat_abs-le, non_neg, yes_non_neg, pos-nat_abs}
use Rattle.std.specs.Int.{Width}
use mir.Val.{SFits, Fits, to_z, of_z, hbits, bits}
use Rattle.std.proofs.lemmas.Int.{to_z-of_z, to_z_pos}
use Rattle.laws.specs.Integers.{abs_neg, abs_add, abs_sub, abs_mul, mag_le, lt_not_le, eq_z, eq_z_refl, eq_z_false}

pub record Rd (w : Width) (z : ℤ) (B : ℕ) : Type 0 where
  pub n : ℕ
  pub is : to_z w n ≡ z
  pub le : nat_abs z ≤ B

pub small_fits : {w : Width} {z : ℤ} (B : ℕ) → nat_abs z ≤ B → T (ltb B (2 ^ hbits w)) → SFits w z
small_fits {w} {z} B h t = record { sfits = lt_of_le_of_lt (le_trans (mag_le z) h) (ltb→lt B (2 ^ hbits w) t) }

-- m, which is z, is written to a local of width w
pub ok : {w : Width} {m z : ℤ} {B : ℕ} → m ≡ z → nat_abs z ≤ B → T (ltb B (2 ^ hbits w)) → SFits w m
ok {w} {m} {z} {B} e h t = subst (SFits w) (sym e) (small_fits B h t)

abbrev put : {w : Width} {m z : ℤ} {B : ℕ} → m ≡ z → nat_abs z ≤ B → T (ltb B (2 ^ hbits w)) → Rd w z B
put {w} {m} e h t = record { n = of_z w m; is = to_z-of_z w m (ok e h t) ∙ e; le = h }

-- a parameter, or any signed value that a need is told fits
abbrev pub arg : {w : Width} {z : ℤ} {B : ℕ} → SFits w z → nat_abs z ≤ B → Rd w z B
arg {w} {z} f h = record { n = of_z w z; is = to_z-of_z w z f; le = h }

-- a signed value with a bound, as an element of a slice
abbrev pub small : {w : Width} {z : ℤ} {B : ℕ} → nat_abs z ≤ B → T (ltb B (2 ^ hbits w)) → Rd w z B
small {w} {z} {B} h t = arg (small_fits B h t) h

-- a call's result z, which the call ensures to be y: `got c.f.ok (c.f.ensures ∙ ..) h`
abbrev pub got : {w : Width} {z y : ℤ} {B : ℕ} → mag z < 2 ^ hbits w → z ≡ y → nat_abs y ≤ B → Rd w y B
got {w} {z} f e h = record { n = of_z w z; is = to_z-of_z w z (record { sfits = f }) ∙ e; le = h }

-- what is written and read back is the same, for `cc`: `same w32 c.f.result c.f.ok`
pub same : (w : Width) (z : ℤ) → mag z < 2 ^ hbits w → to_z w (of_z w z) ≡ z
same w z f = to_z-of_z w z (record { sfits = f })

pub same_in : (w : Width) (z : ℤ) (B : ℕ) → nat_abs z ≤ B → T (ltb B (2 ^ hbits w)) → to_z w (of_z w z) ≡ z
same_in w z B h t = to_z-of_z w z (small_fits B h t)

-- a literal operand
abbrev pub lit : {w : Width} (z : ℤ) → T (ltb (mag z) (2 ^ hbits w)) → Rd w z (nat_abs z)
lit {w} z t = record { n = of_z w z; is = to_z-of_z w z (record { sfits = ltb→lt (mag z) (2 ^ hbits w) t }); le = le_refl (nat_abs z) }

-- another bound
abbrev pub bounded : {w : Width} {z : ℤ} {B C : ℕ} → Rd w z B → nat_abs z ≤ C → Rd w z C
bounded r h = record { n = r.n; is = r.is; le = h }

-- a cast of a parameter to a wider type, for `search (needs, widen)`
pub widen : (w w' : Width) (z : ℤ) → SFits w z → T (leb (hbits w) (hbits w')) → SFits w' (to_z w (of_z w z))
widen w w' z f t = subst (SFits w') (sym (to_z-of_z w z f)) (sfits_widen t f)

-- a cast between signed widths
pub cast_ok : {w w' : Width} {z : ℤ} {B : ℕ} (r : Rd w z B) → T (ltb B (2 ^ hbits w')) → SFits w' (to_z w r.n)
cast_ok {w} {w'} r t = ok r.is r.le t

abbrev pub cast : {w w' : Width} {z : ℤ} {B : ℕ} → Rd w z B → T (ltb B (2 ^ hbits w')) → Rd w' z B
cast r t = put r.is r.le t

module _ {w : Width} {x y : ℤ} {B C : ℕ} (r : Rd w x B) (s : Rd w y C) where
  pub add_le : nat_abs (x +ℤ y) ≤ B + C
  add_le = omega (arith, abs_add x y, r.le, s.le)

  pub sub_le : nat_abs (x -ℤ y) ≤ B + C
  sub_le = omega (arith, abs_sub x y, r.le, s.le)

  pub mul_bound : nat_abs (x *ℤ y) ≤ B * C
  mul_bound = subst (λ (k : ℕ). k ≤ B * C) (sym (abs_mul x y)) (mul-le-mul r.le s.le)

  pub add_ok : T (ltb (B + C) (2 ^ hbits w)) → SFits w (to_z w r.n +ℤ to_z w s.n)
  add_ok t = ok (λ i. r.is i +ℤ s.is i) add_le t

  abbrev pub add : T (ltb (B + C) (2 ^ hbits w)) → Rd w (x +ℤ y) (B + C)
  add t = put (λ i. r.is i +ℤ s.is i) add_le t

  pub sub_ok : T (ltb (B + C) (2 ^ hbits w)) → SFits w (to_z w r.n -ℤ to_z w s.n)
  sub_ok t = ok (λ i. r.is i -ℤ s.is i) sub_le t

  abbrev pub sub : T (ltb (B + C) (2 ^ hbits w)) → Rd w (x -ℤ y) (B + C)
  sub t = put (λ i. r.is i -ℤ s.is i) sub_le t

  pub mul_ok : T (ltb (B * C) (2 ^ hbits w)) → SFits w (to_z w r.n *ℤ to_z w s.n)
  mul_ok t = ok (λ i. r.is i *ℤ s.is i) mul_bound t

  abbrev pub mul : T (ltb (B * C) (2 ^ hbits w)) → Rd w (x *ℤ y) (B * C)
  mul t = put (λ i. r.is i *ℤ s.is i) mul_bound t

  -- what a test computed, of the integers
  pub lt_is : {b : Bool} → lt_z (to_z w r.n) (to_z w s.n) ≡ b → lt_z x y ≡ b
  lt_is e = (λ i. lt_z (sym r.is i) (sym s.is i)) ∙ e

  pub le_is : {b : Bool} → le_z (to_z w r.n) (to_z w s.n) ≡ b → le_z x y ≡ b
  le_is e = (λ i. le_z (sym r.is i) (sym s.is i)) ∙ e

  pub lt_by_le : {b : Bool} → le_z (to_z w r.n) (to_z w s.n) ≡ b → lt_z y x ≡ not b
  lt_by_le e = lt_not_le y x ∙ ap not (le_is e)

  pub eq_is : r.n ≡ s.n → x ≡ y
  eq_is e = sym r.is ∙ ap (to_z w) e ∙ s.is

  -- a test's fact
  pub lt_true : lt_z (to_z w r.n) (to_z w s.n) ≡ true → x <ℤ y
  lt_true e = lt_z_yes (subst T (sym ((λ i. lt_z (sym r.is i) (sym s.is i)) ∙ e)) tt)

  pub lt_false : lt_z (to_z w r.n) (to_z w s.n) ≡ false → y ≤ℤ x
  lt_false e = lt_z_no (subst (λ (b : Bool). T (not b)) (sym ((λ i. lt_z (sym r.is i) (sym s.is i)) ∙ e)) tt)

  pub le_true : le_z (to_z w r.n) (to_z w s.n) ≡ true → x ≤ℤ y
  le_true e = le_z_yes (subst T (sym ((λ i. le_z (sym r.is i) (sym s.is i)) ∙ e)) tt)

-- any signed value that fits, with the bound that its width gives
abbrev pub fit : {w : Width} {z : ℤ} → SFits w z → Rd w z (2 ^ hbits w)
fit {w} {z} f = arg f (nat_abs-le z f.sfits)

-- a quotient, rounded toward zero, is no larger than the dividend
pub quot_abs : (x y : ℤ) → nat_abs (quot_z x y) ≤ nat_abs x
quot_abs (pos a) (pos b) = div-le_self a b
quot_abs (pos a) (negsuc b) = le_trans (le_of_eq (abs_neg (pos (a / suc b)))) (div-le_self a (suc b))
quot_abs (negsuc a) (pos b) = le_trans (le_of_eq (abs_neg (pos (suc a / b)))) (div-le_self (suc a) b)
quot_abs (negsuc a) (negsuc b) = div-le_self (suc a) (suc b)

pub bits_pos : (w : Width) (n : ℕ) (y : ℤ) → pos 0 <ℤ y → to_z w n ≡ y → 0 < n
bits_pos w zero y k e = absurd (<ℤ_irrefl (subst (λ (z : ℤ). pos 0 <ℤ z) (sym e ∙ to_z_pos w 0 (pow_pos (hbits w))) k))
bits_pos w (suc n) y k e = omega arith

module _ {w : Width} {x y : ℤ} {B C : ℕ} (r : Rd w x B) (s : Rd w y C) (k : pos 0 <ℤ y) where
  pub div_le : nat_abs (quot_z x y) ≤ B
  div_le = le_trans (quot_abs x y) r.le

  pub div_ok : T (ltb B (2 ^ hbits w)) → (0 < s.n) × SFits w (quot_z (to_z w r.n) (to_z w s.n))
  div_ok t = (bits_pos w s.n y k s.is, ok (λ i. quot_z (r.is i) (s.is i)) div_le t)

  abbrev pub div : T (ltb B (2 ^ hbits w)) → Rd w (quot_z x y) B
  div t = put (λ i. quot_z (r.is i) (s.is i)) div_le t

-- a cast of a number that is not negative to an unsigned width
pub unsigned_ok : {w w' : Width} {z : ℤ} {B : ℕ} (r : Rd w z B) → pos 0 ≤ℤ z → T (ltb B (2 ^ bits w'))
    → T (non_neg (to_z w r.n)) × Fits w' (nat_abs (to_z w r.n))
unsigned_ok {w} {w'} {z} {B} r h t =
    subst (λ (m : ℤ). T (non_neg m) × Fits w' (nat_abs m)) (sym r.is)
    (yes_non_neg h, record { fits = lt_of_le_of_lt r.le (ltb→lt B (2 ^ bits w') t) })

pub unsigned_is : {w : Width} {z : ℤ} {B : ℕ} (r : Rd w z B) → pos 0 ≤ℤ z → pos (nat_abs (to_z w r.n)) ≡ z
unsigned_is r h = ap (λ (m : ℤ). pos (nat_abs m)) r.is ∙ pos-nat_abs _ (yes_non_neg h)

-- `==` and `!=` compare bits: what an arm is told of two parameters, of the integers
module _ {w : Width} {x y : ℤ} (f : SFits w x) (g : SFits w y) where
  pub eq_true : of_z w x ≡ of_z w y → eq_z x y ≡ true
  eq_true e = subst (λ (z : ℤ). eq_z x z ≡ true) (sym (to_z-of_z w x f) ∙ ap (to_z w) e ∙ to_z-of_z w y g) (eq_z_refl x)

  pub eq_false : (of_z w x ≡ of_z w y → ⊥) → eq_z x y ≡ false
  eq_false h = eq_z_false x y (λ e. h (ap (of_z w) e))

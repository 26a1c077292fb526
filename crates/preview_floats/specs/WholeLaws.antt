-- Laws of floats that are whole numbers: where a cast and a sum of them round nothing.
use Rattle.std.specs.Prelude.{◌≡◌, ℕ, zero, suc, ◌+◌, ◌-◌, ◌*◌, ◌^◌, ◌<◌, ◌≤◌, Bool, true, false, cond, not, ◌&&◌, ℤ, pos, negsuc, ◌+ℤ◌, ◌-ℤ◌, ◌*ℤ◌, neg_ℤ}
use Rattle.std.specs.Prelude.{◌==◌, ◌≢◌, nat_lt, unsigned_abs, Float}
use Rattle.std.proofs.Math.Path.{refl, ap}
use Rattle.std.proofs.Common.{sym, ◌∙◌, subst, zero-lt-suc, zero-mul, mul-one, mul_comm, mul_assoc, mul-pos, add-mul, le_of_mul-le-mul_right}
use Rattle.std.proofs.Common.{lt_of_mul-lt-mul_right, arith, ltb-true, ltb-false, eqb-true, eq-eqb}
use Rattle.std.proofs.Math.Bool.{false≢true}
use Rattle.std.proofs.Math.Nat.{mul-sub, eq_of_mul-eq-mul_right}
use Rattle.std.proofs.Math.IntN.{neg_ℤ-neg_ℤ}
use Rattle.std.specs.Float.{nan, inf, fin, Format, binary32}
use Rattle.std.specs.Float.Ieee.{prec, up, down, round, sum, add, sub, neg, of_int}
use Rattle.std.specs.Float.Ieee.Exact.{HasValue}
use Rattle.std.specs.Float.Ieee.Back.{round_whole}
use Rattle.std.specs.Float.Ieee.Fits.{up_pos, down_pos}
use Rattle.std.specs.Float.Ieee.Scale.{round_same}
use Rattle.laws.specs.Booleans.{clash, is_false, and_parts, and_of}
use Rattle.mesh.specs.Corners.{largest}
use Rattle.laws.specs.Integers.{ext, diff, abs_add, abs_mul, neg_mul, up_neg, dn_neg, sum as sum-law, up as plus}
use Rattle.preview_floats.specs.WholeFloats.{with_sign, FloatIs, float, minus_zero, ExactFloat}

-- ---- with_sign numbers

pub signed_abs : (s : Bool) (n : ℕ) → unsigned_abs (with_sign s n) ≡ n
signed_abs false n = refl
signed_abs true zero = refl
signed_abs true (suc n) = refl

pub signed_mul : (s : Bool) (n d : ℕ) → with_sign s (n * d) ≡ with_sign s n *ℤ pos d
signed_mul false n d = refl
signed_mul true zero d = ap (λ (k : ℕ). neg_ℤ (pos k)) (zero-mul d) ∙ sym (ap pos (zero-mul d))
signed_mul true (suc n) d = refl

-- a sum, by cases on the signs
same_sign : (s : Bool) (p q : ℕ) → with_sign s p +ℤ with_sign s q ≡ with_sign s (p + q)
same_sign false p q = refl
same_sign true p q =
    let e = sum-law (neg_ℤ (pos p)) (neg_ℤ (pos q)) in
    omega (arith, ext, e, up_neg (pos p), dn_neg (pos p), up_neg (pos q), dn_neg (pos q), up_neg (pos (p + q)), dn_neg (pos (p + q)))

less_plus : (p q : ℕ) → p ≤ q → with_sign true p +ℤ with_sign false q ≡ with_sign false (q - p)
less_plus p q h = omega (arith, ext, sum-law (neg_ℤ (pos p)) (pos q), up_neg (pos p), dn_neg (pos p))

less_minus : (p q : ℕ) → q ≤ p → with_sign true p +ℤ with_sign false q ≡ with_sign true (p - q)
less_minus p q h =
    let e = sum-law (neg_ℤ (pos p)) (pos q) in
    omega (arith, ext, e, up_neg (pos p), dn_neg (pos p), up_neg (pos (p - q)), dn_neg (pos (p - q)))

plus_less : (p q : ℕ) → q ≤ p → with_sign false p +ℤ with_sign true q ≡ with_sign false (p - q)
plus_less p q h = omega (arith, ext, sum-law (pos p) (neg_ℤ (pos q)), up_neg (pos q), dn_neg (pos q))

minus_less : (p q : ℕ) → p ≤ q → with_sign false p +ℤ with_sign true q ≡ with_sign true (q - p)
minus_less p q h =
    let e = sum-law (pos p) (neg_ℤ (pos q)) in
    omega (arith, ext, e, up_neg (pos q), dn_neg (pos q), up_neg (pos (q - p)), dn_neg (pos (q - p)))

-- ---- what a float that is z looks like

-- its size is |z|, and its sign z's, where z is not 0
pub record Parts (s : Bool) (m : ℕ) (e : ℤ) (z : ℤ) : Type 0 where
  pub is : with_sign s (unsigned_abs z) ≡ z
  pub size : m * up e ≡ unsigned_abs z * down e

pub parts_of : (s : Bool) (m : ℕ) (e z : ℤ) → FloatIs (fin s m e) z → Parts s m e z
parts_of s m e z h = record { is = by s z (down_pos e) size h; size = size }
  where
    size : m * up e ≡ unsigned_abs z * down e
    size = sym (signed_abs s (m * up e)) ∙ ap unsigned_abs h ∙ abs_mul z (pos (down e))

    by : (s : Bool) (z : ℤ) {n d : ℕ} → 0 < d → n ≡ unsigned_abs z * d → with_sign s n ≡ z *ℤ pos d → with_sign s (unsigned_abs z) ≡ z
    by false (pos k) D p q = refl
    by true (negsuc k) D p q = refl
    by true (pos zero) D p q = refl
    by true (pos (suc k)) {n} {d} D p q = absurd (omega (arith, ap plus q, up_neg (pos n)))
    by false (negsuc k) {n} {d} D p q = absurd (omega (arith, ap plus q, up_neg (pos (suc k * d))))

pub of_parts_lem : (s : Bool) (m : ℕ) (e z : ℤ) → Parts s m e z → FloatIs (fin s m e) z
of_parts_lem s m e z p =
    ap (with_sign s) p.size ∙ signed_mul s (unsigned_abs z) (down e) ∙ ap (λ (y : ℤ). y *ℤ pos (down e)) p.is

-- by the library's own account of a value
pub has_stands : (x : Float) (s : Bool) (n : ℕ) → HasValue x s n 1 → FloatIs x (with_sign s n)
has_stands nan s n h = h
has_stands (inf t) s n h = h
has_stands (fin t m e) s n h =
    (λ i. with_sign (h.0 i) ((sym (mul-one (m * up e)) ∙ h.1) i)) ∙ signed_mul s n (down e)

-- ---- a cast

-- a fraction that is a whole number rounds as that number's cast does
round_int : (f : Format) (s : Bool) (n : ℕ) → (s ≡ true → n ≢ 0) → round f s n 1 ≡ of_int f (with_sign s n)
unfolding of_int
round_int f false n h = refl
round_int f true zero h = absurd (h refl refl)
round_int f true (suc n) h = refl

-- A whole number whose size is at most 2 ^ prec, 2 ^ 24 for an f32, casts to a float that is exactly that number.
pub cast_stands : (f : Format) (z : ℤ) → unsigned_abs z ≤ 2 ^ prec f → FloatIs (of_int f z) z
unfolding of_int
cast_stands f (pos n) h = has_stands (round f false n 1) false n (round_whole f false n h)
cast_stands f (negsuc n) h = has_stands (round f true (suc n) 1) true (suc n) (round_whole f true (suc n) h)

pub zero_of : (n d : ℕ) → 0 < d → n * d ≡ 0 → n ≡ 0
zero_of n d D e = eq_of_mul-eq-mul_right d D n 0 (e ∙ sym (zero-mul d))

-- and never to −0.0
has_plain : (x : Float) (s : Bool) (n : ℕ) → HasValue x s n 1 → (s ≡ true → n ≢ 0) → minus_zero x ≡ false
has_plain nan s n h no_zero = refl
has_plain (inf t) s n h no_zero = refl
has_plain (fin t m e) s n h no_zero = is_false (t && m == 0) (λ a. no_zero (sym h.0 ∙ (and_parts t (m == 0) a).0) (none a))
  where
    none : (t && m == 0) ≡ true → n ≡ 0
    none a =
        let z : m ≡ 0 = eqb-true m 0 (and_parts t (m == 0) a).1 in
        zero_of n (down e) (down_pos e) (sym h.1 ∙ mul-one (m * up e) ∙ ap (λ (k : ℕ). k * up e) z ∙ zero-mul (up e))

pub cast_plain : (f : Format) (z : ℤ) → unsigned_abs z ≤ 2 ^ prec f → minus_zero (of_int f z) ≡ false
unfolding of_int
cast_plain f (pos n) h = has_plain (round f false n 1) false n (round_whole f false n h) (λ e z. false≢true e)
cast_plain f (negsuc n) h = has_plain (round f true (suc n) 1) true (suc n) (round_whole f true (suc n) h) (λ e z. omega arith)

-- ---- a sum

-- fractions p c / c and q c / c are the whole numbers p and q
module _ (f : Format) (c : ℕ) (C : 0 < c) where
  over : (s : Bool) (a n : ℕ) → a ≡ n * c → (s ≡ true → n ≢ 0) → round f s a c ≡ of_int f (with_sign s n)
  over s a n e h = round_same f s a c n 1 C (zero-lt-suc 0) (mul-one a ∙ e) ∙ round_int f s n h

  less : (p q : ℕ) → p * c - q * c ≡ (p - q) * c
  less p q = sym (mul_comm (p - q) c ∙ mul-sub c p q ∙ (λ i. mul_comm c p i - mul_comm c q i))

  below : {p q : ℕ} → nat_lt (p * c) (q * c) ≡ true → p < q
  below {p} {q} e = lt_of_mul-lt-mul_right c (ltb-true (p * c) (q * c) e)

  above : {p q : ℕ} → nat_lt (p * c) (q * c) ≡ false → q ≤ p
  above {p} {q} e = le_of_mul-le-mul_right (ltb-false (p * c) (q * c) e) C

  sum_whole : (s : Bool) (p : ℕ) (t : Bool) (q : ℕ) → (s ≡ true → p ≢ 0) → sum f s (p * c) t (q * c) c ≡ of_int f (with_sign s p +ℤ with_sign t q)
  unfolding sum
  sum_whole false p false q h = over false (p * c + q * c) (p + q) (sym (add-mul p q c)) (λ e z. false≢true e)
  sum_whole true p true q h =
      over true (p * c + q * c) (p + q) (sym (add-mul p q c)) (λ e z. h refl (omega arith)) ∙ ap (of_int f) (sym (same_sign true p q))
  sum_whole false p true q h = by (nat_lt (p * c) (q * c)) refl
    where
      by : (b : Bool) → nat_lt (p * c) (q * c) ≡ b
          → cond b (round f true (q * c - p * c) c) (round f false (p * c - q * c) c) ≡ of_int f (with_sign false p +ℤ with_sign true q)
      by true e =
          let l = below e in
          over true (q * c - p * c) (q - p) (less q p) (λ t z. omega arith) ∙ ap (of_int f) (sym (minus_less p q (omega arith)))
      by false e =
          over false (p * c - q * c) (p - q) (less p q) (λ t z. false≢true t) ∙ ap (of_int f) (sym (plus_less p q (above e)))
  sum_whole true p false q h = by (nat_lt (p * c) (q * c)) refl
    where
      by : (b : Bool) → nat_lt (p * c) (q * c) ≡ b
          → cond b (round f false (q * c - p * c) c) (round f (nat_lt (q * c) (p * c)) (p * c - q * c) c) ≡ of_int f (with_sign true p +ℤ with_sign false q)
      by true e =
          let l = below e in
          over false (q * c - p * c) (q - p) (less q p) (λ t z. false≢true t) ∙ ap (of_int f) (sym (less_plus p q (omega arith)))
      by false e = at (nat_lt (q * c) (p * c)) refl
        where
          at : (d : Bool) → nat_lt (q * c) (p * c) ≡ d → round f d (p * c - q * c) c ≡ of_int f (with_sign true p +ℤ with_sign false q)
          at true g =
              let l = below g in
              over true (p * c - q * c) (p - q) (less p q) (λ t z. omega arith) ∙ ap (of_int f) (sym (less_minus p q (omega arith)))
          at false g =
              let l : p - q ≡ q - p = omega (arith, above e, above g) in
              over false (p * c - q * c) (q - p) (less p q ∙ ap (λ (k : ℕ). k * c) l) (λ t z. false≢true t)
              ∙ ap (of_int f) (sym (less_plus p q (above g)))

-- The sum of two floats that are whole numbers is the cast of the numbers' sum: only that cast could round. A sum is −0.0 where both are, and else never.
pub add_whole : (f : Format) (x y : Float) (a b : ℤ) → FloatIs x a → FloatIs y b → minus_zero x ≡ false → add f x y ≡ of_int f (a +ℤ b)
unfolding add
add_whole f nan y a b h k z = absurd h
add_whole f (inf s) y a b h k z = absurd h
add_whole f (fin s m e) nan a b h k z = absurd k
add_whole f (fin s m e) (inf t) a b h k z = absurd k
add_whole f (fin s m e) (fin t n d) a b h k z =
    let u = parts_of s m e a h in
    let v = parts_of t n d b k in
    let c = down e * down d in
    let left : m * up e * down d ≡ unsigned_abs a * c = ap (λ (i : ℕ). i * down d) u.size ∙ mul_assoc (unsigned_abs a) (down e) (down d) in
    let right : n * up d * down e ≡ unsigned_abs b * c =
    ap (λ (i : ℕ). i * down e) v.size ∙ mul_assoc (unsigned_abs b) (down d) (down e) ∙ ap (λ (i : ℕ). unsigned_abs b * i) (mul_comm (down d) (down e)) in
    (λ i. sum f s (left i) t (right i) c)
    ∙ sum_whole f c (mul-pos (down_pos e) (down_pos d)) s (unsigned_abs a) t (unsigned_abs b) (no_zero u.size)
    ∙ (λ i. of_int f (u.is i +ℤ v.is i))
  where
    no_zero : {p : ℕ} → m * up e ≡ p * down e → s ≡ true → p ≢ 0
    no_zero size i j =
        let m_zero : m ≡ 0 = zero_of m (up e) (up_pos e) (size ∙ ap (λ (k : ℕ). k * down e) j ∙ zero-mul (down e)) in
        clash (and_of i (eq-eqb m 0 m_zero)) z

signed_not : (s : Bool) (n : ℕ) → with_sign (not s) n ≡ neg_ℤ (with_sign s n)
signed_not false n = refl
signed_not true n = sym (neg_ℤ-neg_ℤ (pos n))

pub neg_whole : (y : Float) (b : ℤ) → FloatIs y b → FloatIs (neg y) (neg_ℤ b)
unfolding neg
neg_whole nan b h = h
neg_whole (inf t) b h = h
neg_whole (fin t n d) b h = signed_not t (n * up d) ∙ ap neg_ℤ h ∙ sym (neg_mul b (pos (down d)))

pub sub_whole : (f : Format) (x y : Float) (a b : ℤ) → FloatIs x a → FloatIs y b → minus_zero x ≡ false → sub f x y ≡ of_int f (a -ℤ b)
unfolding sub
sub_whole f x y a b h k z = add_whole f x (neg y) a (neg_ℤ b) h (neg_whole y b k) z

-- ---- what a drawn coordinate is: z and b are whole numbers of coordinate range, and o is a float that is b

module _ (z b : ℤ) (o : Float) (z-small : unsigned_abs z ≤ largest) (b-small : unsigned_abs b ≤ largest) (o_is : FloatIs o b) where
  sum_small : unsigned_abs (z +ℤ b) ≤ 2 ^ prec binary32
  sum_small = omega (arith, abs_add z b)

  point_small : unsigned_abs z ≤ 2 ^ prec binary32
  point_small = omega arith

  -- the f32 sum of point and origin is the f32 of their sum
  pub drawn_is : add binary32 (float z) o ≡ float (z +ℤ b)
  drawn_is = add_whole binary32 (float z) o z b (cast_stands binary32 z point_small) o_is (cast_plain binary32 z point_small)

  -- which is that number: nothing was rounded
  pub drawn_exact : ExactFloat (add binary32 (float z) o) (z +ℤ b)
  drawn_exact =
      subst (λ (x : Float). ExactFloat x (z +ℤ b)) (sym drawn_is) (cast_stands binary32 (z +ℤ b) sum_small, cast_plain binary32 (z +ℤ b) sum_small)

  -- and the f32 difference of it and the origin is the point again, bit by bit
  pub drawn_back : sub binary32 (add binary32 (float z) o) o ≡ float z
  drawn_back =
      ap (λ (x : Float). sub binary32 x o) drawn_is
      ∙ sub_whole binary32 (float (z +ℤ b)) o (z +ℤ b) b (cast_stands binary32 (z +ℤ b) sum_small) o_is (cast_plain binary32 (z +ℤ b) sum_small)
      ∙ ap float (let e : z +ℤ b -ℤ b ≡ z = omega (arith, ext, diff (z +ℤ b) b, sum-law z b) in e)

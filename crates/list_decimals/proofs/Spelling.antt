-- How many digits a number has, writing a number from its last digit to its first, a text, and a number with its sign.
use Prim.Native.Nat.{ℕ, zero, suc, ◌+◌, ◌-◌, ◌*◌, ◌/◌, ◌%◌, ◌^◌, ◌<◌, ◌≤◌, max}
use mathlib.Core.Bool.{Bool, true, false}
use lib.Dec.{ltb}
use borrow.Author.Tests.{ltb-true, ltb-false}
use mathlib.Core.Path.{◌≡◌, refl, sym, ap, ◌∙◌}
use mathlib.Core.List.{List, [], ◌∷◌, ◌++◌, append_assoc, append-nil}
use native.Mathlib.Omega.{arith}
use native.Mathlib.Numerals.{add-one}
use lib.ListN.{length, set, take, drop, length-set, length-append}
use lib.Seq.{sets, sets-eq, length-sets, set_comm, drop-drop}
use borrow.Rule.Slice.PartMut.{put_mid}
use lib.IntN.{ℤ, pos, negsuc, nat_abs}
use lib.Signed.{◌<ℤ◌, ◌≤ℤ◌}
use Rattle.laws.specs.Integers.{lt_in}
use Rattle.list_decimals.specs.Decimals.{digit, minus, decimal, signed_decimal}
use Rattle.list_decimals.proofs.DecimalLaws.{decimal_one, decimal_more, decimal_short, ten_pos, decimal_long}
use Rattle.list_decimals.specs.Texts.{TextRoom, PutsText}

-- ---- digits

-- the digits of a number, by the power of ten that it reaches; 0 has one, as 1 has
pub digits_counted : (n r m : ℕ) → m ≡ max n 1 → 10 ^ r ≤ m → m < 10 * 10 ^ r → r + 1 ≡ length (decimal n)
digits_counted zero zero m e h k = omega (arith, ap length (decimal_one 0 (omega arith)))
digits_counted zero (suc r) m e h k = absurd (omega (arith, ten_pos r))
digits_counted (suc n) r m e h k = omega (arith, decimal_long r (suc n) (omega arith), decimal_short r (suc n) (omega arith))

-- ---- a number

set_before : {A : Type 0} (vs l : List A) (i j : ℕ) (v : A) → j < i → set (sets l i vs) j v ≡ sets (set l j v) i vs
set_before [] l i j v h = refl
set_before (x ∷ vs) l i j v h =
    set_before vs (set l i x) (suc i) j v (omega arith)
    ∙ ap (λ (m : List _). sets m (suc i) vs) (set_comm l i j x v (λ e. omega arith))

-- n goes to the position `at` of a list: its last digits stand from i on, and the first ones, which are those of the rest, are left
pub record Spelling (l : List ℕ) (at n : ℕ) (m : List ℕ) (rest i : ℕ) : Type 0 where
  pub left : List ℕ
  pub done : List ℕ
  pub whole : decimal n ≡ left ++ done
  pub place : i ≡ at + length left
  pub is : m ≡ sets l i done
  pub of_rest : at < i → left ≡ decimal rest

pub spelling : {l : List ℕ} {at n i : ℕ} → i ≡ at + length (decimal n) → Spelling l at n l n i
spelling {n = n} e =
    record { left = decimal n; done = []; whole = sym (append-nil (decimal n)); place = e; is = refl; of_rest = λ h. refl }

module _ {l : List ℕ} {at n : ℕ} {m : List ℕ} {rest i : ℕ} (w : Spelling l at n m rest i) where
  pub spelling_size : length m ≡ length l
  spelling_size = ap length w.is ∙ length-sets l i w.done

  module _ (some : at < i) where
    pub spelling_room : TextRoom l at (decimal n) → i - 1 < length m
    spelling_room h = omega (arith, h.within, w.place, spelling_size, ap length w.whole ∙ length-append w.left w.done)

    put : (d : ℕ) → set m (i - 1) d ≡ sets l (i - 1) (d ∷ w.done)
    put d =
        let s : i ≡ suc (i - 1) = omega arith in
        ap (λ (t : List ℕ). set t (i - 1) d) (w.is ∙ ap (λ (k : ℕ). sets l k w.done) s) ∙ set_before w.done l (suc (i - 1)) (i - 1) d (omega arith)

    pub spelling_next : Spelling l at n (set m (i - 1) (digit (rest % 10))) (rest / 10) (i - 1)
    spelling_next = by (ltb rest 10) refl
      where
        by : (t : Bool) → ltb rest 10 ≡ t → Spelling l at n (set m (i - 1) (digit (rest % 10))) (rest / 10) (i - 1)
        by true t =
            let one = ltb-true rest 10 t in
            let d : rest ≡ rest % 10 = omega arith in
            let e : w.left ≡ digit (rest % 10) ∷ [] = w.of_rest some ∙ decimal_one rest one ∙ ap (λ (k : ℕ). digit k ∷ []) d in
            record {
              left = [];
              done = digit (rest % 10) ∷ w.done;
              whole = w.whole ∙ ap (λ (k : List ℕ). k ++ w.done) e;
              place = omega (arith, w.place, ap length e);
              is = put (digit (rest % 10));
              of_rest = λ h. absurd (omega (arith, w.place, ap length e));
            }
        by false t =
            let more = ltb-false rest 10 t in
            let e : w.left ≡ decimal (rest / 10) ++ (digit (rest % 10) ∷ []) = w.of_rest some ∙ decimal_more rest more in
            record {
              left = decimal (rest / 10);
              done = digit (rest % 10) ∷ w.done;
              whole = w.whole ∙ ap (λ (k : List ℕ). k ++ w.done) e ∙ append_assoc (decimal (rest / 10)) (digit (rest % 10) ∷ []) w.done;
              place = omega (arith, w.place, ap length e ∙ length-append (decimal (rest / 10)) (digit (rest % 10) ∷ []));
              is = put (digit (rest % 10));
              of_rest = λ h. refl;
            }

  pub spelling_end : {end : ℕ} → TextRoom l at (decimal n) → i ≤ at → end ≡ at + length (decimal n) → PutsText l at (decimal n) end m
  spelling_end g h f =
      let s : i ≡ at = omega (arith, w.place) in
      let z : length w.left ≡ 0 = omega (arith, w.place) in
      record {
        ends = f;
        within = omega (arith, g.within);
        is = w.is ∙ ap (λ (k : ℕ). sets l k w.done) s ∙ ap (sets l at) (sym (w.whole ∙ ap (λ (k : List ℕ). k ++ w.done) (none w.left z)));
      }
    where
      none : (k : List ℕ) → length k ≡ 0 → k ≡ []
      none [] e = refl
      none (d ∷ k) e = absurd (omega arith)

-- ---- a text

-- bytes copied onto as many of an output
pub copied : {l : List ℕ} {at n : ℕ} {text bytes : List ℕ} → TextRoom l at text → n ≡ length text → bytes ≡ text
    → PutsText l at text (at + length text) (put_mid at n l bytes)
copied {l} {at} {n} {text} h k e =
    record {
      ends = refl;
      within = h.within;
      is =
          (λ i. put_mid at (k i) l (e i))
          ∙ ap (λ (m : List ℕ). take at l ++ (text ++ m)) (drop-drop (length text) at l)
          ∙ sym (append_assoc (take at l) text (drop (at + length text) l))
          ∙ sym (sets-eq text l at h.within);
    }

-- ---- a sign and then a number

text_below : (z : ℤ) → z <ℤ pos 0 → signed_decimal z ≡ minus ∷ decimal (nat_abs z)
unfolding signed_decimal
text_below (pos n) h = absurd (omega (arith, lt_in h))
text_below (negsuc k) h = refl

text_above : (z : ℤ) → pos 0 ≤ℤ z → signed_decimal z ≡ decimal (nat_abs z)
unfolding signed_decimal
text_above (pos n) h = refl
text_above (negsuc k) h = absurd h.le

module _ {z : ℤ} (below : z <ℤ pos 0) {u : ℕ} (is : u ≡ nat_abs z) where
  below_text : signed_decimal z ≡ minus ∷ decimal u
  below_text = text_below z below ∙ ap (λ (n : ℕ). minus ∷ decimal n) (sym is)

  module _ {l : List ℕ} {at : ℕ} (h : TextRoom l at (signed_decimal z)) where
    pub sign_room : at < length l
    sign_room = omega (arith, h.within, ap length below_text)

    pub below_room : (sign : ℕ) → TextRoom (set l at sign) (at + 1) (decimal u)
    below_room sign = record { within = omega (arith, h.within, ap length below_text, length-set l at sign) }

  pub below_put : {l : List ℕ} {at p : ℕ} {m : List ℕ} → PutsText (set l at minus) (at + 1) (decimal u) p m → PutsText l at (signed_decimal z) p m
  below_put {l} {at} v =
      record {
        ends = omega (arith, v.ends, ap length below_text);
        within = omega (arith, v.within, length-set l at minus);
        is = v.is ∙ ap (λ (k : ℕ). sets (set l at minus) k (decimal u)) (add-one at) ∙ ap (sets l at) (sym below_text);
      }

module _ {z : ℤ} (above : pos 0 ≤ℤ z) {u : ℕ} (is : u ≡ nat_abs z) where
  above_text : signed_decimal z ≡ decimal u
  above_text = text_above z above ∙ ap decimal (sym is)

  pub above_room : {l : List ℕ} {at : ℕ} → TextRoom l at (signed_decimal z) → TextRoom l at (decimal u)
  above_room h = record { within = omega (arith, h.within, ap length above_text) }

  pub above_put : {l : List ℕ} {at p : ℕ} {m : List ℕ} → PutsText l at (decimal u) p m → PutsText l at (signed_decimal z) p m
  above_put {l} {at} v =
      record {
        ends = v.ends ∙ ap (λ (t : List ℕ). at + length t) (sym above_text);
        within = v.within;
        is = v.is ∙ ap (sets l at) (sym above_text);
      }

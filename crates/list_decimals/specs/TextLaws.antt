-- Texts written one after the other.
use Rattle.std.specs.Prelude.{ℕ, ◌+◌, ◌≤◌, ◌≡◌, refl, length}
use Rattle.std.proofs.Math.Path.{sym}
use Rattle.std.proofs.Common.{ap, ◌∙◌, arith}
use mathlib.Core.List.{List, [], ◌∷◌, ◌++◌, flatten}
use Rattle.std.proofs.Math.ListN.{length-append}
use Rattle.std.proofs.Math.Seq.{sets, length-sets}
use Rattle.file_formats.specs.EmitLaws.{sets_append}
use Rattle.list_decimals.specs.Texts.{TextRoom, PutsText}

pub put_length : {l : List ℕ} {at : ℕ} {a : List ℕ} {p : ℕ} {m : List ℕ} → PutsText l at a p m → length m ≡ length l
put_length {l} {at} {a} v = ap length v.is ∙ length-sets l at a

-- one text and then another
pub put_both : {l : List ℕ} {at : ℕ} {a b : List ℕ} {p q : ℕ} {m n : List ℕ} → PutsText l at a p m → PutsText m p b q n → PutsText l at (a ++ b) q n
put_both {l} {at} {a} {b} v w =
    record {
      ends = omega (arith, v.ends, w.ends, length-append a b);
      within = omega (arith, w.within, put_length v);
      is = w.is ∙ (λ i. sets (v.is i) (v.ends i) b) ∙ sym (sets_append a b l at);
    }

pub length_flatten_more : {A : Type 0} (t : List A) (ts : List (List A)) → length (flatten (t ∷ ts)) ≡ length t + length (flatten ts)
unfolding flatten
length_flatten_more t ts = length-append t (flatten ts)

-- the text `all` goes to the position `at` of an output l, which is m now: those texts that are left go to p
pub record TextWriting (l : List ℕ) (at : ℕ) (all m : List ℕ) (p : ℕ) (texts : List (List ℕ)) : Type 0 where
  pub ends : p + length (flatten texts) ≡ at + length all
  pub size : length m ≡ length l
  pub inside : p ≤ length m
  pub same : sets m p (flatten texts) ≡ sets l at all

pub text_writing : {l : List ℕ} {at : ℕ} {all : List ℕ} {texts : List (List ℕ)} → at ≤ length l → all ≡ flatten texts → TextWriting l at all l at texts
text_writing {l} {at} h e = record { ends = ap (λ (t : List ℕ). at + length t) (sym e); size = refl; inside = h; same = ap (sets l at) (sym e) }

module _ {l : List ℕ} {at : ℕ} {all m : List ℕ} {p : ℕ} {t : List ℕ} {ts : List (List ℕ)} (w : TextWriting l at all m p (t ∷ ts)) where
  -- the next text has room where all have
  pub next_room : TextRoom l at all → TextRoom m p t
  next_room h = record { within = omega (arith, h.within, w.ends, w.size, length_flatten_more t ts) }

  -- and is written
  pub next_put : {q : ℕ} {n : List ℕ} → PutsText m p t q n → TextWriting l at all n q ts
  unfolding flatten
  next_put {q} {n} v =
      record {
        ends = omega (arith, w.ends, v.ends, length-append t (flatten ts));
        size = put_length v ∙ w.size;
        inside = omega (arith, v.within, put_length v);
        same = (λ i. sets (v.is i) (v.ends i) (flatten ts)) ∙ sym (sets_append t (flatten ts) m p) ∙ w.same;
      }

pub all_put : {l : List ℕ} {at : ℕ} {all m : List ℕ} {p : ℕ} → TextWriting l at all m p [] → PutsText l at all p m
unfolding flatten
all_put w = record { ends = omega (arith, w.ends); within = omega (arith, w.inside, w.size); is = w.same }

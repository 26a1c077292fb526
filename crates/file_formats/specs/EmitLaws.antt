-- Writing a list into a table piece by piece: bytes into an output, and values into a lent table.
use Rattle.std.specs.Prelude.{◌≡◌, refl, List, [], ◌∷◌, ◌++◌, ℕ, suc, ◌+◌, ◌<◌, ◌≤◌, length, set}
use Rattle.std.proofs.Common.{sym, ap, ◌∙◌, arith, add-one, length-set, length-append}
use Rattle.std.proofs.lemmas.List.Edits.{sets}
use Rattle.std.proofs.Math.Seq.{length-sets}

module _ {A : Type 0} where
  pub sets_append : (a b l : List A) (i : ℕ) → sets l i (a ++ b) ≡ sets (sets l i a) (i + length a) b
  sets_append [] b l i = ap (λ (n : ℕ). sets l n b) (omega arith)
  sets_append (x ∷ a) b l i = sets_append a b (set l i x) (suc i) ∙ ap (λ (n : ℕ). sets (sets (set l i x) (suc i) a) n b) (omega arith)

  -- the list all goes to the position `at` of a table l, which is m now: those that are left go to i
  pub record Emit (l : List A) (at : ℕ) (all m : List A) (i : ℕ) (left : List A) : Type 0 where
    pub ends : i + length left ≡ at + length all
    pub size : length m ≡ length l
    pub room : at + length all ≤ length l
    pub same : sets m i left ≡ sets l at all

  pub emit_start : (l : List A) (at : ℕ) (all : List A) → at + length all ≤ length l → Emit l at all l at all
  emit_start l at all h = record { ends = refl; size = refl; room = h; same = refl }

  module _ {l : List A} {at : ℕ} {all m : List A} {i : ℕ} where
    -- a piece fits, and is written
    pub emit_fits : (a b : List A) → Emit l at all m i (a ++ b) → i + length a ≤ length m
    emit_fits a b e = omega (arith, e.ends, e.room, e.size, length-append a b)

    pub emit : (a b : List A) → Emit l at all m i (a ++ b) → Emit l at all (sets m i a) (i + length a) b
    emit a b e =
        record {
          ends = omega (arith, e.ends, length-append a b);
          size = length-sets m i a ∙ e.size;
          room = e.room;
          same = sym (sets_append a b m i) ∙ e.same;
        }

    -- the same for a piece of one
    pub emit_one_fits : (x : A) (b : List A) → Emit l at all m i (x ∷ b) → i < length m
    emit_one_fits x b e = omega (arith, e.ends, e.room, e.size)

    pub emit_one : (x : A) (b : List A) → Emit l at all m i (x ∷ b) → Emit l at all (set m i x) (i + 1) b
    emit_one x b e =
        record {
          ends = omega (arith, e.ends);
          size = length-set m i x ∙ e.size;
          room = e.room;
          same = ap (λ (n : ℕ). sets (set m i x) n b) (add-one i) ∙ e.same;
        }

    pub emit_end : Emit l at all m i [] → (i ≡ at + length all) × (m ≡ sets l at all)
    emit_end e = (omega (arith, e.ends), e.same)

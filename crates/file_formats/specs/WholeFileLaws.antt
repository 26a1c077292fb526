-- Refusals 13 and 18 at the head of a list of refusals: answered exactly if the file is refused, at that place; and what is left to test of a file that
-- holds something.
use Rattle.std.specs.Prelude.{ℕ, ◌-◌, ◌≤◌, ◌≡◌, refl, List, ◌∷◌, ◌↔◌, length}
use Rattle.std.proofs.Math.Path.{sym, ap}
use Rattle.std.proofs.Common.{◌∙◌, arith}
use borrow.Author.Tests.{eq-eqb, ne_eqb}
use Rattle.mesh.specs.Operation.{refuses, fine, Condition, test, verdict}
use Rattle.mesh.specs.OperationLaws.{apart, same_refusal, nowhere_fine, fits_refused, then_refused, then_fine, Every, refused_every}
use Rattle.mesh.specs.Refusals.{Told, refusal}
use Rattle.file_formats.specs.Formats.{Parse, parsed, refused, Format, Decoded, holds, broken, finished, decoded_in, decode}
use Rattle.file_formats.specs.WholeFiles.{broken_at, form_as, form, unclean_form, held_or}

-- the place lies in the file or at its end
placed_inside : {A : Type 0} (n : ℕ) (d : Parse A) (place : ℕ) → decoded_in n d ≡ broken place → place ≤ n
placed_inside n (parsed a r) place e = cc
placed_inside n (refused r) place e = let p : n - length r ≡ place = cc in omega arith

pub decode_inside : {A : Type 0} (F : Format A) (file : List ℕ) (place : ℕ) → decode F file ≡ broken place → place ≤ length file
decode_inside F file place e = placed_inside (length file) (finished (F.parse file)) place e

module _ {A : Type 0} (number : ℕ) (file : List ℕ) {d : Decoded A} where
  pub form_refused : {place : ℕ} → place ≤ length file → d ≡ broken place → refuses (refusal number place) ≡ test (form_as number file d)
  unfolding broken_at
  form_refused {place} l e =
      fits_refused (form_as number file d) place (omega arith) (ap (λ (d : Decoded A). broken_at d place) e ∙ eq-eqb place place refl)
      (λ j h. ap (λ (d : Decoded A). broken_at d j) e ∙ ne_eqb j place (λ p. omega arith))

  pub form_fine : {a : A} → d ≡ holds a → fine ≡ test (form_as number file d)
  unfolding broken_at
  form_fine e = nowhere_fine (form_as number file d) (λ i l. ap (λ (d : Decoded A). broken_at d i) e)

pub held_or_is : {A : Type 0} (none : A) {a : A} {d : Decoded A} → d ≡ holds a → held_or none d ≡ a
unfolding held_or
held_or_is none e = ap (held_or none) e

-- such a refusal at the head of a list of refusals, of which the others tell another number
module _ {A : Type 0} (number : ℕ) (file : List ℕ) (d : Decoded A) (inside : (place : ℕ) → d ≡ broken place → place ≤ length file)
    (ks : List (Condition Told)) where
  pub form_first : {place : ℕ} → d ≡ broken place → verdict (form_as number file d ∷ ks) ≡ refuses (refusal number place)
  unfolding verdict
  form_first {place} e = sym (then_refused (verdict ks) (sym (form_refused number file (inside place e) e)))

  pub form_next : {a : A} → d ≡ holds a → verdict (form_as number file d ∷ ks) ≡ verdict ks
  unfolding verdict
  form_next e = sym (then_fine (sym (form_fine number file e)))

  -- nothing is refused of a file that holds something only
  pub fine_holds : verdict (form_as number file d ∷ ks) ≡ fine → (a : A) × (d ≡ holds a)
  fine_holds v = by d refl
    where
      by : (x : Decoded A) → d ≡ x → (a : A) × (d ≡ holds a)
      by (holds a) e = (a, e)
      by (broken place) e = apart (sym (form_first e) ∙ v)

  form_exactly : Every (λ r. r.number ≡ number → ⊥) ks → (place : ℕ)
      → (verdict (form_as number file d ∷ ks) ≡ refuses (refusal number place)) ↔ (d ≡ broken place)
  form_exactly others place = (λ v. by d refl v, form_first)
    where
      by : (x : Decoded A) → d ≡ x → verdict (form_as number file d ∷ ks) ≡ refuses (refusal number place) → d ≡ broken place
      by (holds a) e v = absurd (refused_every (λ r. r.number ≡ number → ⊥) ks (refusal number place) others (sym (form_next e) ∙ v) refl)
      by (broken q) e v = e ∙ ap (λ (r : Told). broken r.place) (same_refusal (sym (form_first e) ∙ v))

module _ {A : Type 0} (file : List ℕ) (d : Decoded A) (inside : (place : ℕ) → d ≡ broken place → place ≤ length file) (ks : List (Condition Told)) where
  pub thirteen_exactly : Every (λ r. r.number ≡ 13 → ⊥) ks → (place : ℕ) → (verdict (form file d ∷ ks) ≡ refuses (refusal 13 place)) ↔ (d ≡ broken place)
  thirteen_exactly = form_exactly 13 file d inside ks

  pub eighteen_exactly : Every (λ r. r.number ≡ 18 → ⊥) ks → (place : ℕ)
      → (verdict (unclean_form file d ∷ ks) ≡ refuses (refusal 18 place)) ↔ (d ≡ broken place)
  eighteen_exactly = form_exactly 18 file d inside ks

-- What Ink promises: it refuses exactly if a listed condition holds, at its place; its answer is the only one; 13 exactly where the file breaks a rule,
-- 19 exactly if the file holds layers and the thickness is out of its range; and all else is charged what its layers are. That it refuses with 13 where
-- Read layer does, and charges less than 2 ^ 63, is in proofs/InkLaws.antt.
use Rattle.std.specs.Prelude.{ℕ, ◌<◌, ◌≤◌, ◌≡◌, Bool, not, ◌&&◌, List, [], ◌∷◌, ◌↔◌, ◌⊎◌, Result, Ok, Err}
use Rattle.std.proofs.Math.Path.{refl}
use Rattle.std.proofs.Common.{sym, ap, ◌∙◌, arith}
use Rattle.std.proofs.Math.Bool.{true, false}
use Rattle.std.proofs.Math.Logic.{inl, inr}
use borrow.Author.Tests.{le-leb, lt-leb, leb-true, leb-false}
use Rattle.std.proofs.Math.Dec.{leb}
use Rattle.laws.specs.Booleans.{and_of, and_parts}
use Rattle.mesh.specs.Operation.{gives, refuses, fine, Condition, verdict}
use Rattle.mesh.specs.OperationLaws.{First, None, whole_refused, whole_fine, then_refused, then_fine, verdict_one, Recovers, refused_verdict, given_verdict}
use Rattle.mesh.specs.OperationLaws.{refused_exactly, given_exactly, only_outcome, same_refusal, apart}
use Rattle.mesh.specs.Refusals.{Told, refusal}
use Rattle.mesh.specs.declared.Refusal.{Refusal}
use Rattle.mesh.specs.RefusalLaws.{refusal_of, refusal_once}
use Rattle.cleaning.specs.declared.Profile.TheVariants.{Full}
use Rattle.file_formats.specs.Formats.{Decoded, holds, broken}
use Rattle.file_formats.specs.LayerFile.{Layer, layers_of}
use Rattle.file_formats.specs.WholeFiles.{form, layers_in}
use Rattle.file_formats.specs.WholeFileLaws.{held_or_is, form_first, form_next, fine_holds, thirteen_exactly}
use Rattle.read_layer.specs.ReadingLaws.{layers_broken_inside}
use Rattle.ink.specs.Charges.{job_charge}
use Rattle.ink.specs.Inking.{least_thickness, most_thickness, thickness_fits, wrong_thickness, inking, tell_ink, Inks}

-- ---- the thickness

module _ (t : ℕ) where
  pub thickness_in : thickness_fits t ≡ true → (least_thickness ≤ t) × (t ≤ most_thickness)
  unfolding thickness_fits
  thickness_in e = let p = and_parts _ _ e in (leb-true least_thickness t p.0, leb-true t most_thickness p.1)

  pub thickness_of : least_thickness ≤ t → t ≤ most_thickness → thickness_fits t ≡ true
  unfolding thickness_fits
  thickness_of h k = and_of (le-leb least_thickness t h) (le-leb t most_thickness k)

  -- it is too thin or too thick
  abbrev pub ThicknessOut : Type 0
  ThicknessOut = (t < least_thickness) ⊎ (most_thickness < t)

  pub thickness_out : (thickness_fits t ≡ false) ↔ ThicknessOut
  unfolding thickness_fits
  thickness_out = ((λ e. by (leb least_thickness t) refl e), from)
    where
      by : (b : Bool) → leb least_thickness t ≡ b → b && leb t most_thickness ≡ false → ThicknessOut
      by true p e = inr (leb-false t most_thickness e)
      by false p e = inl (leb-false least_thickness t p)

      from : ThicknessOut → leb least_thickness t && leb t most_thickness ≡ false
      from (inl h) = ap (λ (b : Bool). b && leb t most_thickness) (lt-leb least_thickness t h)
      from (inr h) =
          let e : leb least_thickness t ≡ true = le-leb least_thickness t (omega arith) in
          ap (λ (b : Bool). b && leb t most_thickness) e ∙ lt-leb t most_thickness h

-- ---- the verdict, case by case

module _ (file : List ℕ) (t : ℕ) where
  abbrev others : List (Condition Told)
  others = wrong_thickness t ∷ []

  -- the two tests, in order
  abbrev tests : List (Condition Told)
  tests = form file (layers_of file) ∷ others

  tests_broken : {q : ℕ} → layers_of file ≡ broken q → verdict tests ≡ refuses (refusal 13 q)
  tests_broken e = form_first 13 file (layers_of file) (layers_broken_inside Full file) others e

  module _ {ls : List Layer} (e : layers_of file ≡ holds ls) where
    left : verdict tests ≡ verdict others
    left = form_next 13 file (layers_of file) (layers_broken_inside Full file) others e

    tests_out : thickness_fits t ≡ false → verdict tests ≡ refuses (refusal 19 0)
    tests_out f = left ∙ sym (whole_refused (refusal 19) (not (thickness_fits t)) (ap not f) ∙ verdict_one (wrong_thickness t))

    tests_fine : thickness_fits t ≡ true → verdict tests ≡ fine
    tests_fine f = left ∙ sym (whole_fine (refusal 19) (not (thickness_fits t)) (ap not f) ∙ verdict_one (wrong_thickness t))

  -- where nothing is refused
  fine_charged : verdict tests ≡ fine → ((ls : List Layer) × (layers_of file ≡ holds ls)) × (thickness_fits t ≡ true)
  fine_charged v =
      let h = fine_holds 13 file (layers_of file) (layers_broken_inside Full file) others v in
      (h, by (thickness_fits t) refl h.1)
    where
      by : (b : Bool) → thickness_fits t ≡ b → {ls : List Layer} → layers_of file ≡ holds ls → thickness_fits t ≡ true
      by true f e = f
      by false f e = apart (sym (tests_out e f) ∙ v)

  -- these are what Ink asks
  pub ink_verdict_broken : {q : ℕ} → layers_of file ≡ broken q → verdict (inking (file, t)).refusals ≡ refuses (refusal 13 q)
  ink_verdict_broken e = tests_broken e

  pub ink_verdict_out : {ls : List Layer} → layers_of file ≡ holds ls → thickness_fits t ≡ false
      → verdict (inking (file, t)).refusals ≡ refuses (refusal 19 0)
  ink_verdict_out e f = tests_out e f

  pub ink_verdict_fine : {ls : List Layer} → layers_of file ≡ holds ls → thickness_fits t ≡ true → verdict (inking (file, t)).refusals ≡ fine
  ink_verdict_fine e f = tests_fine e f

-- ---- Ink

pub ink_recovers : Recovers tell_ink
ink_recovers = record {
  back = elim [ gives n ↦ Ok n | refuses r ↦ Err (refusal_of r) ];
  once = elim [ Ok n ↦ refl | Err r ↦ ap Err (refusal_once r) ];
}

-- c is what the layers of a file are charged, at a thickness in its range
pub record Charged (file : List ℕ) (t c : ℕ) (ls : List Layer) : Type 0 where
  pub held : layers_of file ≡ holds ls
  pub least : least_thickness ≤ t
  pub most : t ≤ most_thickness
  pub is : c ≡ job_charge t ls

module _ {file : List ℕ} {t : ℕ} {result : Result ℕ Refusal} (d : Inks file t result) where
  -- refused exactly if a listed condition holds, the first that fits; charged exactly if none does; and one answer only
  pub ink_refused : (r : Told) → (tell_ink result ≡ refuses r) ↔ First (inking (file, t)).refusals r
  ink_refused = refused_exactly d

  pub ink_given : (tell_ink result ≡ gives (job_charge t (layers_in file))) ↔ None (inking (file, t)).refusals
  ink_given = given_exactly d

  pub ink_only : {other : Result ℕ Refusal} → Inks file t other → result ≡ other
  ink_only e = (only_outcome ink_recovers d e).0

  -- refusal 13 is that of the file's format
  pub ink_broken : (q : ℕ) → (tell_ink result ≡ refuses (refusal 13 q)) ↔ (layers_of file ≡ broken q)
  ink_broken q = (
    (λ e. (thirteen_exactly file (layers_of file) (layers_broken_inside Full file) (others file t) ((λ j e. omega arith), tt) q).0 (refused_verdict d e)),
    (λ e. d.answers ∙ sym (then_refused _ (tests_broken file t e))),
  )

  -- refused with 19 exactly if the file holds layers and the thickness is out of its range
  pub ink_thickness : (tell_ink result ≡ refuses (refusal 19 0)) ↔ (((ls : List Layer) × (layers_of file ≡ holds ls)) × ThicknessOut t)
  ink_thickness = (
    (λ e. by (layers_of file) refl (thickness_fits t) refl (refused_verdict d e)),
    (λ h. d.answers ∙ sym (then_refused _ (tests_out file t h.0.1 ((thickness_out t).1 h.1)))),
  )
    where
      by : (x : Decoded (List Layer)) → layers_of file ≡ x → (b : Bool) → thickness_fits t ≡ b → verdict (inking (file, t)).refusals ≡ refuses (refusal 19 0)
          → ((ls : List Layer) × (layers_of file ≡ holds ls)) × ThicknessOut t
      by (broken q) e b f v =
          let n : refusal 13 q ≡ refusal 19 0 = same_refusal (sym (tests_broken file t e) ∙ v) in
          absurd (omega (arith, ap (λ (r : Told). r.number) n))
      by (holds ls) e true f v = apart (sym v ∙ tests_fine file t e f)
      by (holds ls) e false f v = ((ls, e), (thickness_out t).0 f)

  -- what the layers of a file are charged, at a thickness in its range, is answered
  pub ink_charges : {ls : List Layer} → layers_of file ≡ holds ls → least_thickness ≤ t → t ≤ most_thickness → tell_ink result ≡ gives (job_charge t ls)
  ink_charges e h k =
      d.answers ∙ sym (then_fine (tests_fine file t e (thickness_of t h k))) ∙ ap (λ (ls : List Layer). gives (job_charge t ls)) (held_or_is [] e)

  -- and nothing else
  pub ink_charged : {c : ℕ} → tell_ink result ≡ gives c → (ls : List Layer) × Charged file t c ls
  ink_charged e =
      let v = given_verdict d e in
      let h = fine_charged file t v.0 in
      let k = thickness_in t h.1 in
      (h.0.0, record { held = h.0.1; least = k.0; most = k.1; is = v.1 ∙ ap (job_charge t) (held_or_is [] h.0.1) })

-- The answer: a lemma for each return of `ink`.
use Prim.Native.Nat.{ℕ, ◌≤◌}
use mathlib.Core.Path.{◌≡◌, refl, sym, ap, ◌∙◌}
use mathlib.Core.Bool.{Bool, true, false}
use mathlib.Core.List.{List, []}
use Rattle.std.specs.Prelude.{Result, Ok, Err}
use native.Mathlib.Omega.{arith}
use Rattle.laws.specs.Booleans.{clash}
use Rattle.mesh.specs.Operation.{gives}
use Rattle.mesh.specs.OperationLaws.{does_refuse, does_give}
use Rattle.mesh.specs.declared.Refusal.{Refusal}
use Rattle.mesh.specs.declared.Refusal.TheVariants.{File, Thickness}
use Rattle.file_formats.specs.Formats.{Decoded, holds, broken}
use Rattle.file_formats.specs.LayerFile.{Layer, layers_of}
use Rattle.file_formats.specs.WholeFileLaws.{held_or_is}
use Rattle.ink.specs.Charges.{job_charge}
use Rattle.ink.specs.Inking.{most_thickness, thickness_fits, tell_ink, Inks}
use Rattle.ink.specs.InkLaws.{thickness_in, ink_verdict_broken, ink_verdict_out, ink_verdict_fine}
use Rattle.ink.specs.Steps.{charge_of}
use Rattle.file_formats.specs.Positions.{breaks_at}
use Rattle.file_formats.specs.declared.Broken.{Broken}

-- ---- the thickness

-- the thickness that the file is charged at: its own where it fits
pub record ChargedAt (t u : ℕ) : Type 0 where
  pub low : u ≤ most_thickness
  pub is : thickness_fits t ≡ true → u ≡ t

pub at_own : {t u : ℕ} {b : Bool} → b ≡ thickness_fits t → b ≡ true → u ≡ t → ChargedAt t u
at_own {t} e f g = record { low = omega (arith, (thickness_in t (sym e ∙ f)).1); is = λ h. g }

pub at_none : {t u : ℕ} {b : Bool} → b ≡ thickness_fits t → b ≡ false → u ≡ 0 → ChargedAt t u
at_none e f g = record { low = omega arith; is = λ h. absurd (clash (e ∙ h) f) }

-- ---- the file

broken_of : (u : ℕ) (d : Decoded (List Layer)) {b : Broken} → Err b ≡ charge_of u d → d ≡ broken b.at
broken_of u (holds ls) e = cc
broken_of u (broken p) {b} e = let same : breaks_at p ≡ b = cc in ap (λ (b : Broken). broken b.at) same

charge_of_lem : (u : ℕ) (d : Decoded (List Layer)) {n : ℕ} → Ok n ≡ charge_of u d
    → (ls : List Layer) × (d ≡ holds ls) × (n ≡ job_charge u ls)
charge_of_lem u (holds ls) e = (ls, refl, cc)
charge_of_lem u (broken p) e = cc

module _ (file : List ℕ) (t u : ℕ) where
  pub answers_broken : {b : Broken} → Err b ≡ charge_of u (layers_of file) → {result : Result ℕ Refusal} → result ≡ Err (File b.at) → Inks file t result
  answers_broken e r = does_refuse refl (ink_verdict_broken file t (broken_of u (layers_of file) e)) (ap tell_ink r) refl

  module _ {n : ℕ} (e : Ok n ≡ charge_of u (layers_of file)) where
    pub answers_charge : ChargedAt t u → thickness_fits t ≡ true → Inks file t (Ok n)
    answers_charge a f =
        let q = charge_of_lem u (layers_of file) e in
        does_give refl (ink_verdict_fine file t q.1 f)
        (ap gives (q.2 ∙ (λ i. job_charge (a.is f i) (sym (held_or_is [] q.1) i)))) refl

    pub answers_out : thickness_fits t ≡ false → Inks file t (Err (Thickness 0))
    answers_out f = does_refuse refl (ink_verdict_out file t (charge_of_lem u (layers_of file) e).1 f) refl refl

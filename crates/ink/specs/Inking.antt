-- Ink (INK-1 to INK-7): its refusals in order, and what it answers. It is lent no table.
use Rattle.std.specs.Prelude.{ℕ, Bool, not, ◌&&◌, List, [], ◌∷◌, leb, Result}
use Rattle.mesh.specs.Operation.{Answer, Condition, whole, Operation, Does}
use Rattle.mesh.specs.Refusals.{Told, refusal, tell}
use Rattle.mesh.specs.declared.Refusal.{Refusal}
use Rattle.file_formats.specs.LayerFile.{layers_of}
use Rattle.file_formats.specs.WholeFiles.{form, layers_in}
use Rattle.ink.specs.Charges.{job_charge}

-- the least and the most thickness of a layer, in micrometres (LIMIT-13)
abbrev pub least_thickness : ℕ
least_thickness = 1

abbrev pub most_thickness : ℕ
most_thickness = 1000

-- a layer may be so thick
unfoldable pub thickness_fits : ℕ → Bool
thickness_fits t = leb least_thickness t && leb t most_thickness

-- 19: the thickness is out of its range, place 0 (INK-6)
abbrev pub wrong_thickness : ℕ → Condition Told
wrong_thickness t = whole (refusal 19) (not (thickness_fits t))

-- Ink of a file and a thickness: its refusals in order (INK-5), 13 being that of
-- Read layer (READ-1), and the charge of the file's layers (INK-1)
abbrev pub inking : List ℕ × ℕ → Operation Told ℕ Unit
inking = λ (file, t). record {
  refusals = form file (layers_of file) ∷ wrong_thickness t ∷ [];
  values = job_charge t (layers_in file);
  leaves = λ v. tt;
}

-- what its answer says
abbrev pub tell_ink : Result ℕ Refusal → Answer Told ℕ
tell_ink = tell (λ n. n)

-- the contract of Ink
abbrev pub Inks : List ℕ → ℕ → Result ℕ Refusal → Type 0
Inks file t result = Does inking tell_ink (file, t) result tt

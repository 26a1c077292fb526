-- The tests that operations begin with, where no other count is limited, and where no table is lent.
use Rattle.std.specs.Prelude.{◌≡◌, refl, Bool, true, false, not, List, ◌∷◌, ℕ}
use Rattle.std.proofs.Common.{sym, ap, ◌∙◌}
use Rattle.mesh.specs.Meshes.{PairedMesh}
use Rattle.mesh.specs.Operation.{Finding, Condition, whole, test, ◌then◌, verdict}
use Rattle.mesh.specs.OperationLaws.{whole_fine, verdict_next}
use Rattle.mesh.specs.Refusals.{Told, refusal}
use Rattle.mesh.specs.Tests.{size}
use Rattle.mesh_tables.specs.MeshTests.{content_tests, opening_tests}

-- a condition that never fits changes nothing
never : (tells : ℕ → Told) (ks : List (Condition Told)) → verdict ks ≡ verdict (whole tells false ∷ ks)
never tells ks = verdict_next (whole tells false) ks (whole_fine tells false refl) refl refl

-- no other count: 1, 9, 2, 3, 4 and 7
pub opening_few : (m : PairedMesh) (room : Bool) → verdict (opening_tests m true room) ≡ verdict (size m.mesh ∷ whole (refusal 9) (not room) ∷ content_tests m)
unfolding verdict
opening_few m room = ap (λ (v : Finding Told). test (size m.mesh) then v) (sym (never (refusal 1) (whole (refusal 9) (not room) ∷ content_tests m)))

-- and no table: 1, 2, 3, 4 and 7
pub opening_bare : (m : PairedMesh) → verdict (opening_tests m true true) ≡ verdict (size m.mesh ∷ content_tests m)
unfolding verdict
opening_bare m = opening_few m true ∙ ap (λ (v : Finding Told). test (size m.mesh) then v) (sym (never (refusal 9) (content_tests m)))

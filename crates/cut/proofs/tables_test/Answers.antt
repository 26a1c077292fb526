-- `tables_test` meets its contract: the tests that operations begin with, with the room that Cut asks for.
use mathlib.Core.Path.{ap, ◌∙◌}
use mathlib.Core.Bool.{Bool, not}
use mathlib.Core.List.{◌∷◌}
use Rattle.mesh.specs.Meshes.{paired}
use Rattle.mesh.specs.Operation.{whole, verdict}
use Rattle.mesh.specs.Refusals.{refusal}
use Rattle.mesh.specs.Tests.{size}
use Rattle.mesh_tables.specs.MeshTests.{content_tests}
use Rattle.mesh_tables.specs.OpeningLaws.{opening_few}
use Rattle.cut.proofs.tables_test.Goals as goal

pub returns : goal.returns
returns c =
    let a = c.args in
    let m = paired a.coords.now a.corners.now a.pairing.now in record {
      told = c.opening_test.ensures.told
          ∙ opening_few m c.cut_room_for-room.result
          ∙ ap (λ (b : Bool). verdict (size m.mesh ∷ whole (refusal 9) (not b) ∷ content_tests m)) c.cut_room_for-room.ensures.value;
    }

-- `step_test` meets its contract: 1, 2, 3, 4 and 7, then 8, 10 and 11.
use mathlib.Core.Path.{◌≡◌, ap, ◌∙◌}
use mathlib.Core.Bool.{true}
use mathlib.Core.List.{List, [], ◌∷◌, ◌++◌}
use lib.ListN.{length}
use Rattle.mesh.specs.Meshes.{PairedMesh, paired}
use Rattle.mesh.specs.Operation.{Condition, verdict}
use Rattle.mesh.specs.OperationLaws.{join_stop, join_next, verdict_one}
use Rattle.mesh.specs.Refusals.{Told, tell_verdict}
use Rattle.mesh.proofs.Raising.{handed_on}
use Rattle.mesh_tables.specs.MeshTests.{opening_tests}
use Rattle.mesh_tables.specs.OpeningLaws.{opening_bare}
use Rattle.sweep.specs.Operations.{short_ring, linked_tests, state_tests}
use Rattle.sweep.proofs.step_test.Goals as goal
use Rattle.sweep.proofs.step_test.Goals.{Start}

abbrev mesh_of : Start → PairedMesh
mesh_of start = paired start.args.coords.now start.args.corners.now start.args.pairing.now

abbrev first : Start → List (Condition Told)
first start = linked_tests (mesh_of start)

abbrev second : Start → List (Condition Told)
second start = state_tests start.args.coords.now start.args.order.now start.args.n

abbrev third : Start → List (Condition Told)
third start = short_ring start.args.corners.now (length start.args.ring.now) ∷ []

bare : (start : Start) → verdict (opening_tests (mesh_of start) true true) ≡ verdict (first start)
bare start = opening_bare (mesh_of start)

pub returns-in_err-opening_test : goal.returns-in_err-opening_test
returns-in_err-opening_test c =
    let start = (goal.at.returns-in_err-opening_test c).Start in
    record {
      told = ap tell_verdict (handed_on c.in_err-opening_test.was c.from_residual.ensures.1)
          ∙ join_stop (first start) (second start ++ third start) (c.opening_test.ensures.told ∙ bare start) (ap tell_verdict c.in_err-opening_test.was);
    }

pub returns-in_err-state_test : goal.returns-in_err-state_test
returns-in_err-state_test c =
    let start = (goal.at.returns-in_err-state_test c).Start in
    record {
      told = ap tell_verdict (handed_on c.in_err-state_test.was c.from_residual-in_err-state_test.ensures.1)
          ∙ join_next (first start) (second start ++ third start) (c.opening_test.ensures.told ∙ bare start)
          (ap tell_verdict c.in_ok-opening_test.was)
          (join_stop (second start) (third start) c.state_test.ensures.told (ap tell_verdict c.in_err-state_test.was));
    }

pub returns : goal.returns
returns c =
    let start = (goal.at.returns c).Start in
    record {
      told = join_next (first start) (second start ++ third start) (c.opening_test.ensures.told ∙ bare start)
          (ap tell_verdict c.in_ok-opening_test.was)
          (join_next (second start) (third start) c.state_test.ensures.told (ap tell_verdict c.in_ok-state_test.was)
          (c.one_sweep_test.ensures.told ∙ verdict_one _));
    }

-- `unchecked_pairing::pairing_test` meets its contract.
use Rattle.mesh.specs.OperationLaws.{test_refused, test_fine, nowhere_fine}
use Rattle.mesh_tables.proofs.unchecked_pairing.pairing_test.Goals as goal

pub returns-then-all_meet : goal.returns-then-all_meet
returns-then-all_meet c = record { told = nowhere_fine _ (c.all_meet.ensures.sound c.if-all_meet.true) }

pub returns-then-c-corners : goal.returns-then-c-corners
returns-then-c-corners c = record { told = test_refused _ _ c.first_unpaired-c.ensures.value c.if-c-corners.true }

pub returns : goal.returns
returns c = record { told = test_fine _ _ c.first_unpaired-c.ensures.value c.if-c-corners.false }

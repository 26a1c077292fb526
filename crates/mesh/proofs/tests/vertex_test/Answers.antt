-- `tests::vertex_test` meets its contract.
use Rattle.mesh.specs.OperationLaws.{test_refused, test_fine, nowhere_fine}
use Rattle.mesh.proofs.tests.vertex_test.Goals as goal

pub returns-then-all_named : goal.returns-then-all_named
returns-then-all_named c = record { told = nowhere_fine _ (c.all_named.ensures.sound c.if-all_named.true) }

pub returns-then-c-corners : goal.returns-then-c-corners
returns-then-c-corners c = record { told = test_refused _ _ c.first_stray-c.ensures.value c.if-c-corners.true }

pub returns : goal.returns
returns c = record { told = test_fine _ _ c.first_stray-c.ensures.value c.if-c-corners.false }

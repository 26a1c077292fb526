-- `tests::triangle_test` meets its contract.
use Rattle.mesh.specs.OperationLaws.{test_refused, test_fine}
use Rattle.mesh.proofs.tests.triangle_test.Goals as goal

pub returns-then-t-corners : goal.returns-then-t-corners
returns-then-t-corners c = record { told = test_refused _ _ c.first_degenerate-t.ensures.value c.if-t-corners.true }

pub returns : goal.returns
returns c = record { told = test_fine _ _ c.first_degenerate-t.ensures.value c.if-t-corners.false }

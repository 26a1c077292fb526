-- `heights_test` meets its contract.
use Rattle.mesh.specs.OperationLaws.{test_refused, test_fine}
use Rattle.all_heights.proofs.heights_test.Goals as goal

pub returns-then-i-heights : goal.returns-then-i-heights
returns-then-i-heights c = record { told = test_refused _ _ c.first_falling-i.ensures.value c.if-i-heights.true }

pub returns : goal.returns
returns c = record { told = test_fine _ _ c.first_falling-i.ensures.value c.if-i-heights.false }

-- `tests::range_test` meets its contract.
use Rattle.mesh.specs.OperationLaws.{test_refused, test_fine, nowhere_fine}
use Rattle.mesh.proofs.tests.range_test.Goals as goal

pub returns-then-all_in_range : goal.returns-then-all_in_range
returns-then-all_in_range c = record { told = nowhere_fine _ (c.all_in_range.ensures.sound c.if-all_in_range.true) }

pub returns-then-i-coords : goal.returns-then-i-coords
returns-then-i-coords c = record { told = test_refused _ _ c.first_out-i.ensures.value c.if-i-coords.true }

pub returns : goal.returns
returns c = record { told = test_fine _ _ c.first_out-i.ensures.value c.if-i-coords.false }

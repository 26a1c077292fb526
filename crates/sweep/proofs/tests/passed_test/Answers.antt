-- `passed_test` meets its contract.
use borrow.Author.Tests.{lt-ltb, le-ltb}
use Rattle.mesh.specs.OperationLaws.{whole_refused, whole_fine}
use Rattle.mesh.specs.Refusals.{refusal}
use Rattle.sweep.proofs.tests.passed_test.Goals as goal

pub returns-then-coords-n : goal.returns-then-coords-n
returns-then-coords-n c = record { told = whole_refused (refusal 10) _ (lt-ltb _ _ c.if-coords-n.true) }

pub returns : goal.returns
returns c = record { told = whole_fine (refusal 10) _ (le-ltb _ _ c.if-coords-n.false) }

-- `tests::length_test` meets its contract.
use lib.ListN.{length}
use borrow.Author.Tests.{lt-ltb, le-ltb}
use Rattle.mesh.specs.OperationLaws.{whole_refused, whole_fine}
use Rattle.mesh.specs.Refusals.{refusal}
use Rattle.sweep.proofs.tests.length_test.Goals as goal

pub returns-then-ring-corners : goal.returns-then-ring-corners
returns-then-ring-corners c = record { told = whole_refused (λ i. refusal 11 (length c.args.ring.now)) _ (lt-ltb _ _ c.if-ring-corners.true) }

pub returns : goal.returns
returns c = record { told = whole_fine (λ i. refusal 11 (length c.args.ring.now)) _ (le-ltb _ _ c.if-ring-corners.false) }

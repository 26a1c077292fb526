-- `start_test` meets its contract.
use mathlib.Core.Path.{ap, ◌∙◌}
use borrow.Author.Tests.{lt-ltb, le-ltb}
use Rattle.mesh.specs.OperationLaws.{verdict_stop, verdict_next, verdict_one, whole_refused, whole_fine}
use Rattle.mesh.specs.Refusals.{refusal, tell_verdict}
use Rattle.mesh.proofs.Raising.{handed_on}
use Rattle.sweep.proofs.start_test.Goals as goal

pub returns-in_err-size_test : goal.returns-in_err-size_test
returns-in_err-size_test c = record {
  told = ap tell_verdict (handed_on c.in_err-size_test.was c.from_residual.ensures.1)
      ∙ verdict_stop _ _ c.size_test.ensures.told (ap tell_verdict c.in_err-size_test.was);
}

pub returns-then-ring-corners : goal.returns-then-ring-corners
returns-then-ring-corners c = record {
  told = verdict_next _ _ c.size_test.ensures.told (ap tell_verdict c.in_ok-size_test.was)
      (whole_refused (refusal 9) _ (lt-ltb _ _ c.if-ring-corners.true) ∙ verdict_one _);
}

pub returns : goal.returns
returns c = record {
  told = verdict_next _ _ c.size_test.ensures.told (ap tell_verdict c.in_ok-size_test.was)
      (whole_fine (refusal 9) _ (le-ltb _ _ c.if-ring-corners.false) ∙ verdict_one _);
}

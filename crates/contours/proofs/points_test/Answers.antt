-- `points_test` meets its contract.
use mathlib.Core.Path.{ap, ◌∙◌}
use Rattle.mesh.specs.Refusals.{tell_verdict}
use Rattle.mesh.specs.OperationLaws.{verdict_stop, verdict_next, verdict_one}
use Rattle.mesh.proofs.Raising.{handed_on}
use Rattle.contours.proofs.points_test.Goals as goal

pub returns-in_err-run_test : goal.returns-in_err-run_test
returns-in_err-run_test c = record {
  told = ap tell_verdict (handed_on c.in_err-run_test.was c.from_residual.ensures.1)
      ∙ verdict_stop _ _ c.run_test.ensures.told (ap tell_verdict c.in_err-run_test.was);
}

pub returns : goal.returns
returns c = record {
  told = verdict_next _ _ c.run_test.ensures.told (ap tell_verdict c.in_ok-run_test.was) (c.range_test.ensures.told ∙ verdict_one _);
}

-- `tests::state_test` meets its contract: 8 and 10 in turn.
use mathlib.Core.Path.{ap, ◌∙◌}
use Rattle.mesh.specs.OperationLaws.{verdict_stop, verdict_next, verdict_one}
use Rattle.mesh.specs.Refusals.{tell_verdict}
use Rattle.mesh.proofs.Raising.{handed_on}
use Rattle.sweep.proofs.tests.state_test.Goals as goal

pub returns-in_err-one_sweep_test : goal.returns-in_err-one_sweep_test
returns-in_err-one_sweep_test c = record {
  told = ap tell_verdict (handed_on c.in_err-one_sweep_test.was c.from_residual.ensures.1)
      ∙ verdict_stop _ _ c.one_sweep_test.ensures.told (ap tell_verdict c.in_err-one_sweep_test.was);
}

pub returns : goal.returns
returns c = record {
  told = verdict_next _ _ c.one_sweep_test.ensures.told (ap tell_verdict c.in_ok-one_sweep_test.was)
      (c.one_sweep_test-2.ensures.told ∙ verdict_one _);
}

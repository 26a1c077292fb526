-- `tests::mesh_test` meets its contract.
use mathlib.Core.Path.{ap, ◌∙◌}
use Rattle.mesh.specs.OperationLaws.{verdict_stop, verdict_next, verdict_one}
use Rattle.mesh.specs.Refusals.{tell_verdict}
use Rattle.mesh.proofs.Raising.{handed_on}
use Rattle.mesh.proofs.tests.mesh_test.Goals as goal

pub returns-in_err-range_test : goal.returns-in_err-range_test
returns-in_err-range_test c = record {
  told = ap tell_verdict (handed_on c.in_err-range_test.was c.from_residual.ensures.1)
      ∙ verdict_stop _ _ c.range_test.ensures.told (ap tell_verdict c.in_err-range_test.was);
}

pub returns-in_err-vertex_test : goal.returns-in_err-vertex_test
returns-in_err-vertex_test c = record {
  told = ap tell_verdict (handed_on c.in_err-vertex_test.was c.from_residual-in_err-vertex_test.ensures.1)
      ∙ verdict_next _ _ c.range_test.ensures.told (ap tell_verdict c.in_ok-range_test.was)
      (verdict_stop _ _ c.vertex_test.ensures.told (ap tell_verdict c.in_err-vertex_test.was));
}

pub returns : goal.returns
returns c = record {
  told = verdict_next _ _ c.range_test.ensures.told (ap tell_verdict c.in_ok-range_test.was)
      (verdict_next _ _ c.vertex_test.ensures.told (ap tell_verdict c.in_ok-vertex_test.was) (c.triangle_test.ensures.told ∙ verdict_one _));
}

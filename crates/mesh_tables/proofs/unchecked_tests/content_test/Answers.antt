-- `unchecked_tests::content_test` meets its contract: 2, 3, 4 and 7 in turn.
use mathlib.Core.Path.{ap, ◌∙◌}
use Rattle.mesh.specs.OperationLaws.{verdict_stop, verdict_next, verdict_one}
use Rattle.mesh.specs.Refusals.{tell_verdict}
use Rattle.mesh.proofs.Raising.{handed_on}
use Rattle.mesh_tables.proofs.unchecked_tests.content_test.Goals as goal

pub returns-in_err-one_mesh_test : goal.returns-in_err-one_mesh_test
returns-in_err-one_mesh_test c = record {
  told = ap tell_verdict (handed_on c.in_err-one_mesh_test.was c.from_residual.ensures.1)
      ∙ verdict_stop _ _ c.one_mesh_test.ensures.told (ap tell_verdict c.in_err-one_mesh_test.was);
}

pub returns-in_err-one_mesh_test-2 : goal.returns-in_err-one_mesh_test-2
returns-in_err-one_mesh_test-2 c = record {
  told = ap tell_verdict (handed_on c.in_err-one_mesh_test-2.was c.from_residual-in_err-one_mesh_test-2.ensures.1)
      ∙ verdict_next _ _ c.one_mesh_test.ensures.told (ap tell_verdict c.in_ok-one_mesh_test.was)
      (verdict_stop _ _ c.one_mesh_test-2.ensures.told (ap tell_verdict c.in_err-one_mesh_test-2.was));
}

pub returns-in_err-one_mesh_test-3 : goal.returns-in_err-one_mesh_test-3
returns-in_err-one_mesh_test-3 c = record {
  told = ap tell_verdict (handed_on c.in_err-one_mesh_test-3.was c.from_residual-in_err-one_mesh_test-3.ensures.1)
      ∙ verdict_next _ _ c.one_mesh_test.ensures.told (ap tell_verdict c.in_ok-one_mesh_test.was)
      (verdict_next _ _ c.one_mesh_test-2.ensures.told (ap tell_verdict c.in_ok-one_mesh_test-2.was)
      (verdict_stop _ _ c.one_mesh_test-3.ensures.told (ap tell_verdict c.in_err-one_mesh_test-3.was)));
}

pub returns : goal.returns
returns c = record {
  told = verdict_next _ _ c.one_mesh_test.ensures.told (ap tell_verdict c.in_ok-one_mesh_test.was)
      (verdict_next _ _ c.one_mesh_test-2.ensures.told (ap tell_verdict c.in_ok-one_mesh_test-2.was)
      (verdict_next _ _ c.one_mesh_test-3.ensures.told (ap tell_verdict c.in_ok-one_mesh_test-3.was)
      (c.one_mesh_test-4.ensures.told ∙ verdict_one _)));
}

-- `table_test` meets its contract.
use mathlib.Core.Path.{ap, ◌∙◌}
use Rattle.mesh.specs.OperationLaws.{verdict_stop, verdict_next}
use Rattle.mesh.specs.Refusals.{tell_verdict}
use Rattle.mesh.proofs.Raising.{handed_on}
use Rattle.check_mesh.proofs.table_test.Goals as goal

pub returns-in_err-size_test : goal.returns-in_err-size_test
returns-in_err-size_test c = record {
  told = ap tell_verdict (handed_on c.in_err-size_test.was c.from_residual.ensures.1)
      ∙ verdict_stop _ _ c.size_test.ensures.told (ap tell_verdict c.in_err-size_test.was);
}

pub returns-in_err-room_test : goal.returns-in_err-room_test
returns-in_err-room_test c = record {
  told = ap tell_verdict (handed_on c.in_err-room_test.was c.from_residual-in_err-room_test.ensures.1)
      ∙ verdict_next _ _ c.size_test.ensures.told (ap tell_verdict c.in_ok-size_test.was)
      (verdict_stop _ _ c.room_test.ensures.told (ap tell_verdict c.in_err-room_test.was));
}

pub returns : goal.returns
returns c = record {
  told = verdict_next _ _ c.size_test.ensures.told (ap tell_verdict c.in_ok-size_test.was)
      (verdict_next _ _ c.room_test.ensures.told (ap tell_verdict c.in_ok-room_test.was) c.mesh_test.ensures.told);
}

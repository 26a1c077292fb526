-- `area` meets its contract.
use mathlib.Core.Path.{refl, ap, ◌∙◌}
use mir.Syntax.{w64}
use Rattle.laws.specs.Machine.{same}
use Rattle.mesh.specs.Operation.{gives}
use Rattle.mesh.specs.OperationLaws.{does_refuse, does_give}
use Rattle.mesh.specs.Refusals.{tell_verdict}
use Rattle.mesh.proofs.Raising.{raised}
use Rattle.contours.specs.Areas.{tell_area}
use Rattle.contours.proofs.Answers.{tested_run}
use Rattle.contours.proofs.area.Goals as goal

pub returns-in_err-points_test : goal.returns-in_err-points_test
returns-in_err-points_test c = record {
  outcome = does_refuse c.points_test.ensures.told (ap tell_verdict c.in_err-points_test.was)
      (ap tell_area (raised _ c.from_residual.ensures.1)) refl;
}

pub doubled_area-requires : goal.doubled_area-requires
doubled_area-requires c = tested_run _ c.points_test.ensures.told c.in_ok-points_test.was

pub returns : goal.returns
returns c = record {
  outcome = does_give c.points_test.ensures.told (ap tell_verdict c.in_ok-points_test.was)
      (ap gives (same w64 c.doubled_area.result c.doubled_area.type_inv ∙ c.doubled_area.ensures.value)) refl;
}

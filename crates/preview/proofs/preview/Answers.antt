-- `preview` meets its contract.
use mathlib.Core.Path.{refl, sym, ap, ◌∙◌}
use Rattle.mesh.specs.Operation.{gives}
use Rattle.mesh.specs.OperationLaws.{does_refuse, does_give}
use Rattle.mesh.specs.Refusals.{tell_verdict}
use Rattle.mesh.proofs.Raising.{raised}
use Rattle.preview.specs.Preview.{tell_preview}
use Rattle.preview.proofs.preview.Goals as goal

pub returns-in_err-preview_test : goal.returns-in_err-preview_test
returns-in_err-preview_test c = record {
  outcome = does_refuse c.preview_test.ensures.told (ap tell_verdict c.in_err-preview_test.was)
      (ap tell_preview (raised _ c.from_residual.ensures.1)) refl;
}

pub call_at-requires : goal.call_at-requires
call_at-requires c = sym c.preview_test.ensures.told ∙ ap tell_verdict c.in_ok-preview_test.was

pub returns : goal.returns
returns c = record {
  outcome = does_give c.preview_test.ensures.told (ap tell_verdict c.in_ok-preview_test.was) (ap gives c.call_at.ensures.value) refl;
}

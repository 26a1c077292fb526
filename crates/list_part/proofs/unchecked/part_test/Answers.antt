-- `unchecked::part_test` meets its contract.
use mathlib.Core.Path.{sym, ap, ◌∙◌}
use Rattle.mesh.proofs.Raising.{raised}
use Rattle.check_mesh.specs.Check.{tell_check}
use Rattle.list_part.proofs.Parts.{limit_stop, check_stop, heights_next}
use Rattle.list_part.proofs.unchecked.part_test.Goals as goal

pub returns-then-beyond : goal.returns-then-beyond
returns-then-beyond c = record { outcome = limit_stop _ (sym c.beyond.ensures.value ∙ c.if-beyond.true) }

pub returns-in_err-check : goal.returns-in_err-check
returns-in_err-check c = record {
  outcome = check_stop _ (sym c.beyond.ensures.value ∙ c.if-beyond.false) c.check.ensures.outcome c.requires.0 c.requires.1
      (ap tell_check c.in_err-check.was) (ap tell_check (raised _ c.from_residual.ensures.1));
}

pub returns : goal.returns
returns c = record {
  outcome = heights_next _ (sym c.beyond.ensures.value ∙ c.if-beyond.false) c.check.ensures.outcome c.requires.0 c.requires.1
      (ap tell_check c.in_ok-check.was) c.heights_test.ensures.told;
}

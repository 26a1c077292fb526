-- `unchecked::find_heights` meets its contract.
use mathlib.Core.Path.{sym, ◌∙◌}
use Rattle.file_formats.specs.PositionLaws.{took}
use Rattle.read_part.specs.Layouts.{Finds}
use Rattle.read_part.proofs.Finding.{breaks_off, no_height_count, heights_broken, left_over_lem, laid}
use Rattle.read_part.proofs.unchecked.find_heights.Goals as goal

pub returns-in_err-h : goal.returns-in_err-h
returns-in_err-h c = record {
  result = breaks_off _ _ c.from_residual.ensures.1 (no_height_count _ c.requires (sym c.read_number.ensures.value ∙ c.in_err-h.was));
}

pub check_run-requires : goal.check_run-requires
check_run-requires c = (took (sym c.read_number.ensures.value ∙ c.in_ok-h.was)).inside

pub returns-in_err-end : goal.returns-in_err-end
returns-in_err-end c = record {
  result = breaks_off _ _ c.from_residual-in_err-end.ensures.1
      (heights_broken _ c.requires (sym c.read_number.ensures.value ∙ c.in_ok-h.was) (sym c.check_run.ensures.value ∙ c.in_err-end.was));
}

pub returns-then-end-file : goal.returns-then-end-file
unfolding Finds
returns-then-end-file c = record {
  result = left_over_lem _ c.requires (sym c.read_number.ensures.value ∙ c.in_ok-h.was)
      (sym c.check_run.ensures.value ∙ c.in_ok-end.was) c.if-end-file.true;
}

pub returns : goal.returns
unfolding Finds
returns c = record {
  result = laid _ c.requires (sym c.read_number.ensures.value ∙ c.in_ok-h.was)
      (sym c.check_run.ensures.value ∙ c.in_ok-end.was) c.if-end-file.false;
}

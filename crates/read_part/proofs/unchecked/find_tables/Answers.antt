-- `unchecked::find_tables` meets its contract.
use mathlib.Core.Path.{sym, ◌∙◌}
use Rattle.read_part.proofs.Finding.{breaks_off, coords_broken, coords_run, corners_broken, tabled}
use Rattle.read_part.proofs.unchecked.find_tables.Goals as goal

pub returns-in_err-i : goal.returns-in_err-i
returns-in_err-i c = record {
  result = breaks_off _ _ c.from_residual.ensures.1 (coords_broken _ c.requires (sym c.check_run.ensures.value ∙ c.in_err-i.was));
}

pub check_run-requires-2 : goal.check_run-requires-2
check_run-requires-2 c = (coords_run _ c.requires (sym c.check_run.ensures.value ∙ c.in_ok-i.was)).inside

pub returns-in_err-j : goal.returns-in_err-j
returns-in_err-j c = record {
  result = breaks_off _ _ c.from_residual-in_err-j.ensures.1
      (corners_broken _ c.requires (sym c.check_run.ensures.value ∙ c.in_ok-i.was) (sym c.check_run-2.ensures.value ∙ c.in_err-j.was));
}

pub find_heights-requires : goal.find_heights-requires
find_heights-requires c =
    tabled _ c.requires (sym c.check_run.ensures.value ∙ c.in_ok-i.was) (sym c.check_run-2.ensures.value ∙ c.in_ok-j.was)

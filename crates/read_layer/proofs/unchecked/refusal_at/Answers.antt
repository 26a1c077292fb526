-- `refusal_at` meets its contract.
use mathlib.Core.Path.{sym, ◌∙◌}
use Rattle.read_layer.proofs.LayerSearch.{told_unclean, told_broken}
use Rattle.read_layer.proofs.unchecked.refusal_at.Goals as goal

pub returns-in-Ok : goal.returns-in-Ok
returns-in-Ok c = record { value = told_unclean _ _ _ _ c.in-Clean.is (sym c.check_last.ensures.value ∙ c.in-Ok.is) }

pub returns-in-Err : goal.returns-in-Err
returns-in-Err c = record { value = told_broken _ _ _ _ c.in-Clean.is (sym c.check_last.ensures.value ∙ c.in-Err.is) }

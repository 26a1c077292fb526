-- `run_test` meets its contract.
use mathlib.Core.Path.{sym, ap, ◌∙◌}
use mathlib.Core.Bool.{not}
use Rattle.mesh.specs.OperationLaws.{whole_refused, whole_fine}
use Rattle.mesh.specs.Refusals.{refusal}
use Rattle.contours.proofs.run_test.Goals as goal

pub returns-then-run_fits : goal.returns-then-run_fits
returns-then-run_fits c = record { told = whole_fine (refusal 1) _ (ap not (sym c.run_fits.ensures.value ∙ c.if-run_fits.true)) }

pub returns : goal.returns
returns c = record { told = whole_refused (refusal 1) _ (ap not (sym c.run_fits.ensures.value ∙ c.if-run_fits.false)) }

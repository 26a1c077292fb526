-- `tests::size_test` meets its contract.
use mathlib.Core.Path.{sym, ap, ◌∙◌}
use mathlib.Core.Bool.{not}
use Rattle.mesh.specs.OperationLaws.{whole_refused, whole_fine}
use Rattle.mesh.proofs.tests.size_test.Goals as goal

pub returns-then-sizes_fit : goal.returns-then-sizes_fit
returns-then-sizes_fit c = record { told = whole_fine _ _ (ap not (sym c.sizes_fit.ensures.value ∙ c.if-sizes_fit.true)) }

pub returns : goal.returns
returns c = record { told = whole_refused _ _ (ap not (sym c.sizes_fit.ensures.value ∙ c.if-sizes_fit.false)) }

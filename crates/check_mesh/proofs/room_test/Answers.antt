-- `room_test` meets its contract.
use mathlib.Core.Path.{sym, ap, ◌∙◌}
use mathlib.Core.Bool.{not}
use Rattle.mesh.specs.OperationLaws.{whole_refused, whole_fine}
use Rattle.check_mesh.proofs.room_test.Goals as goal

pub returns-then-check_room_for : goal.returns-then-check_room_for
returns-then-check_room_for c = record { told = whole_fine _ _ (ap not (sym c.check_room_for.ensures.value ∙ c.if-check_room_for.true)) }

pub returns : goal.returns
returns c = record { told = whole_refused _ _ (ap not (sym c.check_room_for.ensures.value ∙ c.if-check_room_for.false)) }

-- `unchecked::number_behind` meets its contract.
use mathlib.Core.Path.{refl}
use Rattle.sweep.proofs.Moves.{number_none, number_last}
use Rattle.sweep.proofs.unchecked.number_behind.Goals as goal

pub returns-then-n-eq0 : goal.returns-then-n-eq0
returns-then-n-eq0 c = record { value = number_none _ _ c.if-n-eq0.true }

pub returns-else-n-eq0 : goal.returns-else-n-eq0
returns-else-n-eq0 c = record { value = number_last _ _ _ c.if-n-eq0.false refl }

-- `unchecked::height_behind` meets its contract.
use mathlib.Core.Path.{refl, ◌∙◌}
use mir.Syntax.{w32}
use Rattle.laws.specs.Machine.{same}
use Rattle.sweep.proofs.Moves.{behind_none, behind_last}
use Rattle.sweep.proofs.unchecked.height_behind.Goals as goal

pub returns-then-n-eq0 : goal.returns-then-n-eq0
returns-then-n-eq0 c = record { value = behind_none _ _ _ c.if-n-eq0.true }

pub returns : goal.returns
returns c = record { value = same w32 _ c.result-1.given ∙ behind_last _ _ _ _ c.if-n-eq0.false refl }

-- `unchecked::lies_within` meets its contract.
use mathlib.Core.Path.{◌∙◌}
use Rattle.inside.specs.PointLaws.{back_lies}
use Rattle.inside.proofs.Bounds.{not_within}
use Rattle.inside.proofs.unchecked.lies_within.Goals as goal

pub returns-then-is_within : goal.returns-then-is_within
returns-then-is_within c = record { value = c.lies_in.ensures.value ∙ back_lies _ c.requires.2 _ }

pub returns-else-is_within : goal.returns-else-is_within
returns-else-is_within c = let pre = c.requires in record { value = not_within _ _ pre.2 pre.3 c.is_within.ensures.value c.if-is_within.false }

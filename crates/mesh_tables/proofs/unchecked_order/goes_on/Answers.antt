-- `unchecked_order::goes_on` meets its contract: a law for each way that it returns.
use mathlib.Core.Path.{◌∙◌}
use borrow.Author.Tests.{le-ltb, eq-eqb}
use Rattle.mesh_tables.proofs.OrderTest.{rises_missing, rises_none, rises_first, rises_later}
use Rattle.mesh_tables.proofs.unchecked_order.goes_on.Goals as goal

pub returns-then-i-order : goal.returns-then-i-order
returns-then-i-order c = record { value = rises_missing _ _ _ c.if-i-order.true }

pub returns-then-i-eq0 : goal.returns-then-i-eq0
returns-then-i-eq0 c = record { value = eq-eqb _ _ c.if-i-eq0.true ∙ rises_first _ _ _ c.if-i-order.false c.if-v-n.true c.if-i-eq0.true }

pub returns-else-i-eq0 : goal.returns-else-i-eq0
returns-else-i-eq0 c = record { value = c.comes_before.ensures.value ∙ rises_later _ _ _ c.if-i-order.false c.if-v-n.true c.if-i-eq0.false }

pub returns-else-v-n : goal.returns-else-v-n
returns-else-v-n c = record { value = le-ltb _ _ c.if-v-n.false ∙ rises_none _ _ _ c.if-i-order.false c.if-v-n.false }

-- `ordering::order_test` meets its contract.
use Rattle.mesh_tables.proofs.OrderTest.{risen_prefix, order_fine, order_refused}
use Rattle.mesh_tables.proofs.ordering.order_test.Goals as goal

pub returns-then-m-n : goal.returns-then-m-n
returns-then-m-n c = record { told = order_fine _ _ _ c.rising_prefix-m.ensures.value c.if-m-n.true }

pub first_misplaced-requires : goal.first_misplaced-requires
first_misplaced-requires c = risen_prefix _ _ _ c.rising_prefix-m.ensures.value

pub returns : goal.returns
returns c = record { told = order_refused _ _ _ c.rising_prefix-m.ensures.value c.if-m-n.false _ c.first_misplaced.ensures.value }

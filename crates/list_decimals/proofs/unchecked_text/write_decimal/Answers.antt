-- `unchecked_text::write_decimal` meets its contract.
use native.Mathlib.Omega.{arith}
use Rattle.list_decimals.proofs.Spelling.{spelling, spelling_room, spelling_next, spelling_end}
use Rattle.list_decimals.proofs.unchecked_text.write_decimal.Goals as goal

pub overflow_add-end : goal.overflow_add-end
overflow_add-end c = omega (arith, c.requires, c.digit_count.ensures.value)

pub loop-i-init : goal.loop-i-init
loop-i-init c = spelling (omega (arith, c.digit_count.ensures.value))

pub bounds-output-i : goal.bounds-output-i
bounds-output-i c = spelling_room c.loop-i.invariant (omega arith) c.requires

pub loop-i-preserved : goal.loop-i-preserved
loop-i-preserved c = spelling_next c.loop-i.invariant (omega arith)

pub returns : goal.returns
returns c = record { outcome = spelling_end c.loop-i.invariant c.requires (omega arith) (omega (arith, c.digit_count.ensures.value)) }

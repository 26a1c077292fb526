-- `first_falling` meets its contract. The invariant: nothing that fits was passed.
use mathlib.Core.Path.{sym, ◌∙◌}
use native.Mathlib.Omega.{arith}
use Rattle.laws.specs.LeastLaws.{scan_start, scan_hit, scan_miss, scan_over}
use Rattle.all_heights.proofs.first_falling.Goals as goal

pub loop-i-init : goal.loop-i-init
loop-i-init c = scan_start

pub returns-then-not_above_last : goal.returns-then-not_above_last
returns-then-not_above_last c = record { value = scan_hit c.loop-i.invariant (omega arith) (sym c.not_above_last.ensures.value ∙ c.if-not_above_last.true) }

pub loop-i-preserved : goal.loop-i-preserved
loop-i-preserved c = scan_miss c.loop-i.invariant (omega arith) (sym c.not_above_last.ensures.value ∙ c.if-not_above_last.false)

pub returns : goal.returns
returns c = record { value = scan_over c.loop-i.invariant (omega arith) }

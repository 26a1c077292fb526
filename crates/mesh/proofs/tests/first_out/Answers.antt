-- `tests::first_out` meets its contract. The invariant: nothing that fits was passed.
use mathlib.Core.Path.{sym, ◌∙◌}
use native.Mathlib.Omega.{arith}
use Rattle.laws.specs.LeastLaws.{scan_start, scan_hit, scan_miss, scan_over}
use Rattle.mesh.proofs.tests.first_out.Goals as goal

pub loop-i-init : goal.loop-i-init
loop-i-init c = scan_start

pub returns-then-out_of_range : goal.returns-then-out_of_range
returns-then-out_of_range c = record { value = scan_hit c.loop-i.invariant (omega arith) (sym c.out_of_range.ensures.value ∙ c.if-out_of_range.true) }

pub loop-i-preserved : goal.loop-i-preserved
loop-i-preserved c = scan_miss c.loop-i.invariant (omega arith) (sym c.out_of_range.ensures.value ∙ c.if-out_of_range.false)

pub returns : goal.returns
returns c = record { value = scan_over c.loop-i.invariant (omega arith) }

-- `tests::first_stray` meets its contract. The invariant: nothing that fits was passed.
use mathlib.Core.Path.{sym, ◌∙◌}
use native.Mathlib.Omega.{arith}
use Rattle.laws.specs.LeastLaws.{scan_start, scan_hit, scan_miss, scan_over}
use Rattle.mesh.proofs.tests.first_stray.Goals as goal

pub loop-c-init : goal.loop-c-init
loop-c-init c = scan_start

pub returns-then-names_none : goal.returns-then-names_none
returns-then-names_none c = record { value = scan_hit c.loop-c.invariant (omega arith) (sym c.names_none.ensures.value ∙ c.if-names_none.true) }

pub loop-c-preserved : goal.loop-c-preserved
loop-c-preserved c = scan_miss c.loop-c.invariant (omega arith) (sym c.names_none.ensures.value ∙ c.if-names_none.false)

pub returns : goal.returns
returns c = record { value = scan_over c.loop-c.invariant (omega arith) }

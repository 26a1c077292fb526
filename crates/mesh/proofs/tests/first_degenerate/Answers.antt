-- `tests::first_degenerate` meets its contract. The invariant: nothing that fits was passed.
use mathlib.Core.Path.{refl, sym, ◌∙◌}
use native.Mathlib.Omega.{arith}
use Rattle.laws.specs.LeastLaws.{scan_start, scan_hit, scan_miss, scan_over}
use Rattle.mesh.proofs.tests.first_degenerate.Goals as goal

pub loop-t-init : goal.loop-t-init
loop-t-init c = (scan_start, refl)

pub returns-then-names_twice : goal.returns-then-names_twice
returns-then-names_twice c = record { value = scan_hit c.loop-t.invariant.0 (omega arith) (sym c.names_twice.ensures.value ∙ c.if-names_twice.true) }

pub loop-t-preserved : goal.loop-t-preserved
loop-t-preserved c =
    (scan_miss c.loop-t.invariant.0 (omega arith) (sym c.names_twice.ensures.value ∙ c.if-names_twice.false), c.loop-t.invariant.1)

pub returns : goal.returns
returns c = record { value = scan_over c.loop-t.invariant.0 (omega arith) }

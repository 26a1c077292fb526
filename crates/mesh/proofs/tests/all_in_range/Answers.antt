-- `tests::all_in_range` meets its contract. The invariant: while fine, nothing out of range was passed.
use mathlib.Core.Path.{sym, ◌∙◌}
use native.Mathlib.Omega.{arith}
use borrow.Author.Tests.{not-true}
use Rattle.laws.specs.Booleans.{and_parts}
use Rattle.laws.specs.LeastLaws.{scan_start, scan_miss}
use Rattle.mesh.proofs.tests.all_in_range.Goals as goal

pub loop-i-init : goal.loop-i-init
loop-i-init c = (omega arith, λ e. scan_start)

pub loop-i-preserved : goal.loop-i-preserved
loop-i-preserved c = (
  omega arith,
  λ e. let p = and_parts _ _ e in scan_miss (c.loop-i.invariant.1 p.0) c.loop-i-test.true
      (sym c.out_of_range.ensures.value ∙ not-true _ p.1),
)

pub returns : goal.returns
returns c = record { sound = λ e i l. (c.loop-i.invariant.1 e).clear i (omega arith) }

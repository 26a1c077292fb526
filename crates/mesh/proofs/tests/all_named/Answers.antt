-- `tests::all_named` meets its contract. The invariant: while fine, no corner that names no vertex was passed.
use mathlib.Core.Path.{refl}
use native.Mathlib.Omega.{arith}
use borrow.Author.Tests.{ltb-true}
use Rattle.laws.specs.Booleans.{clash, and_parts}
use Rattle.laws.specs.LeastLaws.{scan_start, scan_miss}
use Rattle.mesh.specs.TestLaws.{names_one}
use Rattle.mesh.proofs.tests.all_named.Goals as goal

pub returns-then-vertices-gt-MOST_VERTICES : goal.returns-then-vertices-gt-MOST_VERTICES
returns-then-vertices-gt-MOST_VERTICES c = record { sound = λ e. absurd (clash e refl) }

pub loop-c-init : goal.loop-c-init
loop-c-init c = λ e. scan_start

pub loop-c-preserved : goal.loop-c-preserved
loop-c-preserved c = λ e. let p = and_parts _ _ e in scan_miss (c.loop-c.invariant p.0) c.loop-c-test.true (names_one _ _ _ (ltb-true _ _ p.1))

pub returns : goal.returns
returns c = record { sound = λ e i l. (c.loop-c.invariant e).clear i (omega arith) }

-- `tests::all_in_range` meets its contract. The invariant: while fine, nothing out of range was passed.
use mathlib.Core.Path.{◌≡◌}
use mathlib.Core.Bool.{true}
use Prim.Native.Nat.{◌≤◌}
use lib.ListN.{length}
use Rattle.laws.specs.LeastLaws.{Scanned}
use Rattle.mesh.specs.Tests.{out_of_range}
use Rattle.mesh.proofs.tests.all_in_range.Given as goal

abbrev pub invariant-loop-i : goal.invariant-loop-i
invariant-loop-i l = (l.i ≤ length l.coords) × (l.fine ≡ true → Scanned (length l.coords) (out_of_range l.coords) l.i)

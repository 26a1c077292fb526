-- `tests::first_out` meets its contract. The invariant: nothing that fits was passed.
use lib.ListN.{length}
use Rattle.laws.specs.LeastLaws.{Scanned}
use Rattle.mesh.specs.Tests.{out_of_range}
use Rattle.mesh.proofs.tests.first_out.Given as goal

abbrev pub invariant-loop-i : goal.invariant-loop-i
invariant-loop-i l = Scanned (length l.coords) (out_of_range l.coords) l.i

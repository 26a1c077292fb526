-- `tests::first_stray` meets its contract. The invariant: nothing that fits was passed.
use lib.ListN.{length}
use Rattle.laws.specs.LeastLaws.{Scanned}
use Rattle.mesh.specs.Tests.{names_none}
use Rattle.mesh.proofs.tests.first_stray.Given as goal

abbrev pub invariant-loop-c : goal.invariant-loop-c
invariant-loop-c l = Scanned (length l.corners) (names_none l.vertices l.corners) l.c

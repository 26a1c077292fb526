-- `unchecked_pairing::first_unpaired` meets its contract. The invariant: nothing that fits was passed.
use lib.ListN.{length}
use Rattle.laws.specs.LeastLaws.{Scanned}
use Rattle.mesh.specs.Tests.{unpaired}
use Rattle.mesh_tables.proofs.unchecked_pairing.first_unpaired.Given as goal

abbrev pub invariant-loop-c : goal.invariant-loop-c
invariant-loop-c l = Scanned (length l.corners) (unpaired l.corners l.pairing) l.c

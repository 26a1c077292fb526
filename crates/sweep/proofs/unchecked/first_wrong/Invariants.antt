-- `unchecked::first_wrong` meets its contract.
use lib.ListN.{length}
use Rattle.laws.specs.LeastLaws.{Scanned}
use Rattle.section.specs.Section.{under}
use Rattle.sweep.specs.Places.{wrong_for}
use Rattle.sweep.proofs.unchecked.first_wrong.Given as goal

abbrev pub invariant-loop-c : goal.invariant-loop-c
invariant-loop-c l = Scanned (length l.corners) (wrong_for (under l.coords l.h l.k) l.corners l.pairing l.ring) l.c

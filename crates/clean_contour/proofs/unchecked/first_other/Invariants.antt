-- `unchecked::first_other` meets its contract. The loop's invariant: every point before i is one of the two.
use Rattle.clean_contour.proofs.Scanning.{Seeking}
use Rattle.clean_contour.proofs.unchecked.first_other.Given as goal

abbrev pub invariant-loop-i : goal.invariant-loop-i
invariant-loop-i l = Seeking l.points l.from l.end l.a l.b l.i

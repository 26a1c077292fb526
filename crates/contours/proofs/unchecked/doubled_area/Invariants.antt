-- `unchecked::doubled_area` meets its contract.
use Rattle.contours.proofs.Sums.{TrapezoidsSummed}
use Rattle.contours.proofs.unchecked.doubled_area.Given as goal

abbrev pub invariant-loop-k : goal.invariant-loop-k
invariant-loop-k l = TrapezoidsSummed l.points l.x l.y l.sum l.k

-- `unchecked::trimmed_end` meets its contract. The loop's invariant: every point from k on equals the first.
use Rattle.clean_contour.proofs.Scanning.{Ending}
use Rattle.clean_contour.proofs.unchecked.trimmed_end.Given as goal

abbrev pub invariant-loop-k : goal.invariant-loop-k
invariant-loop-k l = Ending l.points l.from l.end l.k

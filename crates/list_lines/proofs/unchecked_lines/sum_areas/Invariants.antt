-- `unchecked_lines::sum_areas` meets its contract.
use Rattle.list_lines.proofs.Sums.{AreasSummed}
use Rattle.list_lines.proofs.unchecked_lines.sum_areas.Given as goal

abbrev pub invariant-loop-i : goal.invariant-loop-i
invariant-loop-i l = AreasSummed l.points l.ends l.j l.sum l.i

-- `unchecked::extent_of` meets its contract.
use Rattle.inside.proofs.Extending.{Extended}
use Rattle.inside.proofs.unchecked.extent_of.Given as goal

abbrev pub invariant-loop-k : goal.invariant-loop-k
invariant-loop-k l = Extended l.contour l.left l.right l.low l.high l.k

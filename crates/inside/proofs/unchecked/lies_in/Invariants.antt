-- `unchecked::lies_in` meets its contract.
use Rattle.polygons.specs.Flat.{point}
use Rattle.inside.proofs.Rounds.{Counted}
use Rattle.inside.proofs.unchecked.lies_in.Given as goal

abbrev pub invariant-loop-k : goal.invariant-loop-k
invariant-loop-k l = Counted l.contour (point l.x l.y) l.ax l.ay l.n l.k

-- `check_watched` meets its contract: the loop keeps what the points before have shown and come to.
use Prim.Native.Nat.{◌-◌}
use Rattle.file_check.proofs.PointSteps.{PointsChecked}
use Rattle.file_check.proofs.unchecked_position.check_watched.Given as goal

abbrev pub invariant-loop : goal.invariant-loop
invariant-loop g l = PointsChecked g.W.Watch.profile l.file l.at l.count (g.W.Watch.seen l.watch) l.sum l.x l.y l.i (l.count - l.counter)

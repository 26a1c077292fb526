-- `fill_points` meets its contract.
use Rattle.read_layer.proofs.PointFills.{PointFilling}
use Rattle.read_layer.proofs.unchecked.fill_points.Given as goal

abbrev pub invariant-loop : goal.invariant-loop
invariant-loop l = PointFilling l.file l.at l.count l.initial.points l.from l.points l.x l.y l.i l.counter l.k

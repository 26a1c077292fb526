-- `unchecked_layers::write_points` meets its contract.
use Rattle.file_write.proofs.Writing.{PointsWritten}
use Rattle.file_write.proofs.unchecked_layers.write_points.Given as goal

abbrev pub invariant-loop-k : goal.invariant-loop-k
invariant-loop-k l = PointsWritten l.initial.output l.at l.points l.output l.x l.y l.p l.k

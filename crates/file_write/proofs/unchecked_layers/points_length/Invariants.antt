-- `unchecked_layers::points_length` meets its contract.
use Rattle.file_write.proofs.Measuring.{PointsMeasured}
use Rattle.file_write.proofs.unchecked_layers.points_length.Given as goal

abbrev pub invariant-loop-k : goal.invariant-loop-k
invariant-loop-k l = PointsMeasured l.points l.x l.y l.total l.k

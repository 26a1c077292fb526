-- `unchecked_layers::contours_length` meets its contract.
use Rattle.file_write.proofs.Measuring.{ContoursMeasured}
use Rattle.file_write.proofs.unchecked_layers.contours_length.Given as goal

abbrev pub invariant-loop-end : goal.invariant-loop-end
invariant-loop-end l = ContoursMeasured l.points l.ends l.j l.total l.from l.end-index

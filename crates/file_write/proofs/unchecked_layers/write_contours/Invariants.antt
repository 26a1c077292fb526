-- `unchecked_layers::write_contours` meets its contract.
use Rattle.file_write.proofs.Writing.{ContoursWritten}
use Rattle.file_write.proofs.unchecked_layers.write_contours.Given as goal

abbrev pub invariant-loop-end : goal.invariant-loop-end
invariant-loop-end l = ContoursWritten l.initial.output l.at l.points l.ends l.j l.output l.p l.from l.end-index

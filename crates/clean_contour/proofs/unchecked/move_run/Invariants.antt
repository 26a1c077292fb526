-- `unchecked::move_run` meets its contract. The invariant is that of `copy_run`, where what is read has not been written yet.
use Rattle.polygons.specs.Flat.{point}
use Rattle.clean_contour.proofs.Copying.{RunCopying}
use Rattle.clean_contour.proofs.unchecked.move_run.Given as goal

abbrev pub invariant-loop-i : goal.invariant-loop-i
invariant-loop-i l =
    RunCopying l.initial.points l.initial.points l.end (point l.initial.x l.initial.y) l.initial.to l.initial.i
    l.points (point l.x l.y) l.to l.i

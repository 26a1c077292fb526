-- `unchecked::copy_run` meets its contract. The loop's invariant: the points before i are in the table, and x and y are those of the last of them.
use Rattle.polygons.specs.Flat.{point}
use Rattle.clean_contour.proofs.Copying.{RunCopying}
use Rattle.clean_contour.proofs.unchecked.copy_run.Given as goal

abbrev pub invariant-loop-i : goal.invariant-loop-i
invariant-loop-i l =
    RunCopying l.points l.initial.table l.end (point l.initial.x l.initial.y) l.initial.to l.initial.i
    l.table (point l.x l.y) l.to l.i

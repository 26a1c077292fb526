-- `put_points` meets its contract.
use Rattle.mesh.specs.Meshes.{mesh}
use Rattle.cut_points.proofs.Writing.{PointsPut}
use Rattle.cut_points.proofs.unchecked_points.put_points.Given as goal

abbrev pub invariant-loop-i : goal.invariant-loop-i
invariant-loop-i l = PointsPut (mesh l.coords l.corners) l.h l.names l.initial.points l.points l.i

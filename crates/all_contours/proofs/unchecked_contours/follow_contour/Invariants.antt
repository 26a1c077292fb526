-- `unchecked_contours::follow_contour` meets its contract.
use Prim.Native.Nat.{◌-◌}
use lib.ListN.{length}
use Rattle.mesh.specs.Meshes.{paired}
use Rattle.all_contours.proofs.ContourWalking.{ContourWalking}
use Rattle.all_contours.proofs.unchecked_contours.follow_contour.Given as goal

abbrev pub invariant-loop-c : goal.invariant-loop-c
invariant-loop-c l =
    ContourWalking (paired l.coords l.corners l.pairing) l.h l.stamp l.initial.names l.initial.marks l.start l.at l.names l.marks l.c l.k

abbrev pub decreases-loop-c : goal.decreases-loop-c
decreases-loop-c l = length l.initial.names - l.k

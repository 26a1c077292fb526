-- `unchecked_contours::outline_crossings` meets its contract.
use Prim.Native.Nat.{◌-◌}
use Rattle.mesh.specs.Meshes.{paired}
use Rattle.all_contours.proofs.Outlining.{Outlining}
use Rattle.all_contours.proofs.unchecked_contours.outline_crossings.Given as goal

abbrev pub invariant-loop-c : goal.invariant-loop-c
invariant-loop-c l =
    Outlining (paired l.coords l.corners l.pairing) l.h l.stamp l.ring l.head l.initial.names l.initial.ends l.initial.marks l.names l.ends l.marks l.c l.k l.j

abbrev pub decreases-loop-c : goal.decreases-loop-c
decreases-loop-c l = l.n - l.c

-- `unchecked_rings::walk` meets its contract.
use Prim.Native.Nat.{◌-◌}
use lib.ListN.{length}
use Rattle.cut_trace.proofs.RingWalking.{RingWalking}
use Rattle.cut_trace.proofs.unchecked_rings.walk.Given as goal

abbrev pub invariant-loop-start : goal.invariant-loop-start
invariant-loop-start l = RingWalking l.initial.links l.initial.names l.start l.at l.links l.names l.c l.k

abbrev pub decreases-loop-start : goal.decreases-loop-start
decreases-loop-start l = length l.initial.names - l.k

-- `unchecked_rings::leap` meets its contract.
use Prim.Native.Nat.{◌-◌}
use Rattle.cut_trace.specs.Walks.{Sought}
use Rattle.cut_trace.proofs.unchecked_rings.leap.Given as goal

abbrev pub invariant-loop-d : goal.invariant-loop-d
invariant-loop-d l = Sought l.n l.links l.c l.d

abbrev pub decreases-loop-d : goal.decreases-loop-d
decreases-loop-d l = l.n - l.d

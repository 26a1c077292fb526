-- `contour_with` meets its contract.
use Prim.Native.Nat.{◌-◌}
use Rattle.preview.proofs.Searching.{CallHalved}
use Rattle.preview.proofs.contour_with.Given as goal

abbrev pub invariant-loop-a : goal.invariant-loop-a
invariant-loop-a l = CallHalved l.ends l.number l.a l.b

abbrev pub decreases-loop-a : goal.decreases-loop-a
decreases-loop-a l = l.b - l.a

-- `unchecked_order::first_misplaced` meets its contract: a search by halves, since an entry that is right has all in front of it right.
use Prim.Native.Nat.{◌-◌}
use Rattle.mesh_tables.proofs.OrderTest.{Search}
use Rattle.mesh_tables.proofs.unchecked_order.first_misplaced.Given as goal

abbrev pub invariant-loop-lo : goal.invariant-loop-lo
invariant-loop-lo l = Search l.coords l.order l.m l.lo l.hi

abbrev pub decreases-loop-lo : goal.decreases-loop-lo
decreases-loop-lo l = l.hi - l.lo

-- `unchecked::fill_calls` meets its contract.
use Prim.Native.Nat.{◌-◌}
use Rattle.polygons.specs.Flat.{flat}
use Rattle.preview.specs.Preview.{call_tables}
use Rattle.preview.proofs.Running.{CallsFilled}
use Rattle.preview.proofs.unchecked.fill_calls.Given as goal

abbrev pub invariant-loop-n : goal.invariant-loop-n
invariant-loop-n l =
    CallsFilled (flat l.points l.ends) l.origin l.number (call_tables l.initial.kinds l.initial.floats) l.room (call_tables l.kinds l.floats) l.n l.j

abbrev pub decreases-loop-n : goal.decreases-loop-n
decreases-loop-n l = l.room - l.n

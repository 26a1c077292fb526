-- `unchecked::fill_lines` meets its contract.
use Rattle.preview.specs.Preview.{call_tables}
use Rattle.preview.proofs.Lining.{Lining}
use Rattle.preview.proofs.unchecked.fill_lines.Given as goal

abbrev pub invariant-loop-k : goal.invariant-loop-k
invariant-loop-k l = Lining l.points l.origin l.i l.n l.last (call_tables l.initial.kinds l.initial.floats) (call_tables l.kinds l.floats) l.k

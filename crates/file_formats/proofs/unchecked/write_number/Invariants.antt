-- `unchecked::write_number` meets its contract. The invariant: what is left of the number goes to i.
use Rattle.file_formats.proofs.NumberWriting.{NumberWriting}
use Rattle.file_formats.proofs.unchecked.write_number.Given as goal

abbrev pub invariant-loop-v : goal.invariant-loop-v
invariant-loop-v l = NumberWriting l.initial.out l.at l.n l.out l.v l.i

abbrev pub decreases-loop-v : goal.decreases-loop-v
decreases-loop-v l = l.v

-- `first_falling` meets its contract. The invariant: nothing that fits was passed.
use lib.ListN.{length}
use Rattle.laws.specs.LeastLaws.{Scanned}
use Rattle.all_heights.specs.Heights.{not_above_last}
use Rattle.all_heights.proofs.first_falling.Given as goal

abbrev pub invariant-loop-i : goal.invariant-loop-i
invariant-loop-i l = Scanned (length l.heights) (not_above_last l.heights) l.i

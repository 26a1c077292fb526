-- `is_known` meets its contract.
use borrow.Author.Rules.{rules}
use Rattle.clean_test.proofs.is_known.Goals as goal
use Rattle.clean_test.proofs.is_known.Goals.{then-s-eq3, else-s-eq3}

pub returns-else-same_point : goal.returns-else-same_point
returns-else-same_point c = elim c.if-s-eq3.branch [ then-s-eq3 w ↦ search rules | else-s-eq3 w ↦ search rules ]

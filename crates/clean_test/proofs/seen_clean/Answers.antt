-- `seen_clean` meets its contract.
use borrow.Author.Rules.{rules}
use Rattle.clean_test.specs.Seeing.{seen_clean}
use Rattle.clean_test.proofs.seen_clean.Goals as goal

pub returns-then-s : goal.returns-then-s
unfolding seen_clean
returns-then-s c = search rules

pub returns-else-s : goal.returns-else-s
unfolding seen_clean
returns-else-s c = search rules

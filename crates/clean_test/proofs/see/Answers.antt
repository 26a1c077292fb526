-- `see` meets its contract.
use borrow.Author.Rules.{rules}
use Rattle.clean_test.specs.Seeing.{seeing}
use Rattle.clean_test.proofs.see.Goals as goal

pub returns-then-s-eq0 : goal.returns-then-s-eq0
unfolding seeing
returns-then-s-eq0 c = search rules

pub returns-then-is_known : goal.returns-then-is_known
unfolding seeing
returns-then-is_known c = search rules

pub returns : goal.returns
unfolding seeing
returns c = search rules

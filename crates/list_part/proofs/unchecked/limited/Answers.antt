-- `unchecked::limited` meets its contract.
use Rattle.list_part.proofs.Reading.{for_nine, for_others}
use Rattle.list_part.proofs.unchecked.limited.Goals as goal

pub returns-then-number_of-eq9 : goal.returns-then-number_of-eq9
returns-then-number_of-eq9 c = record { result = for_nine c.args.r c.number_of.ensures.value c.if-number_of-eq9.true }

pub returns : goal.returns
returns c = record { result = for_others c.args.r c.number_of.ensures.value c.if-number_of-eq9.false }

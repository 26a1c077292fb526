-- `taken_count` meets its contract.
use Rattle.all_heights.proofs.Counting.{none_given, some_given, count_given, count_default}
use Rattle.all_heights.proofs.taken_count.Goals as goal

pub returns-then-is_empty : goal.returns-then-is_empty
returns-then-is_empty c = record {
  value = count_default c.args.coords.now c.args.heights.now (none_given c.is_empty.ensures c.if-is_empty.true) c.default_count.ensures.value;
}

pub returns-else-is_empty : goal.returns-else-is_empty
returns-else-is_empty c = record { value = count_given c.args.coords.now c.args.heights.now (some_given c.is_empty.ensures c.if-is_empty.false) }

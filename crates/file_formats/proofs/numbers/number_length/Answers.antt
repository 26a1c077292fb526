-- `numbers::number_length` meets its contract.
use Rattle.std.proofs.lemmas.Nat.{le_or_r}
use Rattle.file_formats.specs.GroupLaws.{groups_at, odd_half}
use Rattle.file_formats.proofs.numbers.number_length.Goals as goal

pub ilog2-requires : goal.ilog2-requires
ilog2-requires c = le_or_r c.args.n 1

pub returns : goal.returns
returns c =
    let j = c.ilog2.result in
    record { value = groups_at c.args.n _ j (odd_half c.args.n) c.ilog2.ensures.power_le c.ilog2.ensures.next_power_gt }

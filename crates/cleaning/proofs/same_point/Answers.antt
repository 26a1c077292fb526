-- `same_point` meets its contract.
use Rattle.cleaning.proofs.Comparing.{same_bits}
use Rattle.cleaning.proofs.same_point.Goals as goal

pub returns : goal.returns
returns c = record { value = same_bits _ _ _ _ c.ranges.x c.ranges.y c.ranges.u c.ranges.v }

-- `unchecked_text::digit_count` meets its contract.
use Rattle.list_decimals.proofs.Spelling.{digits_counted}
use Rattle.list_decimals.proofs.unchecked_text.digit_count.Goals as goal

pub returns : goal.returns
returns c = record { value = digits_counted _ _ _ c.max.ensures c.ilog10.ensures.power_le c.ilog10.ensures.next_power_gt }

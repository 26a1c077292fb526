-- `unchecked::signed_word` meets its contract.
use Rattle.read_part.proofs.Words.{narrow_ok, narrow}
use Rattle.read_part.proofs.unchecked.signed_word.Goals as goal

pub overflow_cast-result : goal.overflow_cast-result
overflow_cast-result c = narrow_ok _ c.requires _ c.signed_of.type_inv c.signed_of.ensures.value

pub returns : goal.returns
returns c = record { value = narrow _ c.requires _ c.signed_of.type_inv c.signed_of.ensures.value }

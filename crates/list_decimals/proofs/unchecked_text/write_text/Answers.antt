-- `unchecked_text::write_text` meets its contract.
use native.Mathlib.Omega.{arith}
use Rattle.list_decimals.proofs.Spelling.{copied}
use Rattle.list_decimals.proofs.unchecked_text.write_text.Goals as goal

pub returns : goal.returns
returns c = record { outcome = copied c.requires (omega arith) c.copy_from_slice.ensures.after }

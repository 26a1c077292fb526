-- `unchecked_text::write_decimal` meets its contract.
use Rattle.list_decimals.proofs.Spelling.{Spelling}
use Rattle.list_decimals.proofs.unchecked_text.write_decimal.Given as goal

abbrev pub invariant-loop-i : goal.invariant-loop-i
invariant-loop-i l = Spelling l.initial.output l.at l.n l.output l.rest l.i

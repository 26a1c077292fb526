-- `refuse` meets its contract.
use mathlib.Core.Path.{ap}
use lib.ListN.{set}
use borrow.Author.Rules.{rules}
use Rattle.out_words.proofs.refuse.Goals as goal

pub returns : goal.returns
returns c = record { outcome = (c.number_of.ensures.value, ap (set c.args.out.now 0) c.place_of.ensures.value) }

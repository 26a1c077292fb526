-- `wadroles_nesting` meets its contract.
use Rattle.out_words.specs.Words.{no_words}
use Rattle.out_words.specs.WordLaws.{says_told}
use Rattle.wadroles.specs.ExportLaws.{exports_told}
use borrow.Author.Rules.{rules}
use Rattle.wadroles.proofs.wadroles_nesting.Goals as goal

pub returns : goal.returns
returns c = record {
  outcome = exports_told c.nesting-nested.ensures.outcome
      (says_told {words = no_words} (λ _. tt) _ c.tell_answer.ensures.outcome);
}

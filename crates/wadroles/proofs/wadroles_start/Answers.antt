-- `wadroles_start` meets its contract.
use Rattle.out_words.specs.Words.{one_word}
use Rattle.out_words.specs.WordLaws.{says_told}
use Rattle.wadroles.specs.ExportLaws.{exports_told}
use borrow.Author.Rules.{rules}
use Rattle.wadroles.proofs.wadroles_start.Goals as goal

pub returns : goal.returns
returns c = record {
  outcome = exports_told c.start-started.ensures.outcome
      (says_told {words = one_word} (λ s. s.passed) _ c.tell_answer.ensures.outcome);
}

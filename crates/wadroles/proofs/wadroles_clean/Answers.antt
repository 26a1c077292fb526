-- `wadroles_clean` meets its contract.
use Rattle.out_words.specs.Words.{cut_words}
use Rattle.out_words.specs.WordLaws.{says_told}
use Rattle.wadroles.specs.ExportLaws.{exports_told}
use borrow.Author.Rules.{rules}
use Rattle.wadroles.proofs.wadroles_clean.Goals as goal

pub returns : goal.returns
returns c = record {
  outcome = exports_told c.clean-cleaned.ensures.outcome
      (says_told {words = cut_words} (λ c. (c.contours, c.points)) _ c.tell_answer.ensures.outcome);
}

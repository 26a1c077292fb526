-- `wadroles_area` meets its contract.
use Rattle.out_words.specs.Words.{signed_word}
use Rattle.out_words.specs.WordLaws.{says_told}
use Rattle.wadroles.specs.ExportLaws.{exports_told}
use borrow.Author.Rules.{rules}
use Rattle.wadroles.proofs.wadroles_area.Goals as goal

pub returns : goal.returns
returns c = record {
  outcome = exports_told c.area-measured.ensures.outcome
      (says_told {words = signed_word} (λ v. v) _ c.tell_answer.ensures.outcome);
}

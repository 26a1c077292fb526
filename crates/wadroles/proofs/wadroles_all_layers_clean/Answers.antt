-- `wadroles_all_layers_clean` meets its contract.
use Rattle.out_words.specs.Words.{one_word}
use Rattle.out_words.specs.WordLaws.{says_told}
use Rattle.wadroles.specs.ExportLaws.{exports_told}
use borrow.Author.Rules.{rules}
use Rattle.wadroles.proofs.wadroles_all_layers_clean.Goals as goal

pub returns : goal.returns
returns c = record {
  outcome = exports_told c.all_layers-filed_clean.ensures.outcome
      (says_told {words = one_word} (λ v. v) _ c.tell_answer.ensures.outcome);
}

-- `wadroles_read_layer_clean` meets its contract.
use Rattle.out_words.specs.Words.{read_layer_words}
use Rattle.out_words.specs.WordLaws.{says_told}
use Rattle.wadroles.specs.ExportLaws.{exports_told}
use borrow.Author.Rules.{rules}
use Rattle.wadroles.proofs.wadroles_read_layer_clean.Goals as goal

pub returns : goal.returns
returns c = record {
  outcome = exports_told c.read_layer-read_clean.ensures.outcome
      (says_told {words = read_layer_words} (λ l. (l.layers, l.height, l.counts.contours, l.counts.points)) _ c.tell_answer.ensures.outcome);
}

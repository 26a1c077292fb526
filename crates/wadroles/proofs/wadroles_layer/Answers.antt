-- `wadroles_layer` meets its contract.
use Rattle.out_words.specs.Words.{layer_words}
use Rattle.out_words.specs.WordLaws.{says_told}
use Rattle.wadroles.specs.ExportLaws.{exports_told}
use Rattle.wadroles.proofs.Numbers.{rises_at_height}
use borrow.Author.Rules.{rules}
use Rattle.wadroles.proofs.wadroles_layer.Goals as goal

pub returns : goal.returns
returns c = record {
  outcome = exports_told (rises_at_height c.ranges.h c.layer-risen.ensures.outcome)
      (says_told {words = layer_words} (λ r. (r.state.passed, (r.counts.contours, r.counts.points))) _ c.tell_answer.ensures.outcome);
}

-- `wadroles_cut` meets its contract.
use Rattle.cut.proofs.CutLaws.{at_height}
use Rattle.out_words.specs.Words.{cut_words}
use Rattle.out_words.specs.WordLaws.{says_told}
use Rattle.wadroles.specs.ExportLaws.{exports_told}
use borrow.Author.Rules.{rules}
use Rattle.wadroles.proofs.wadroles_cut.Goals as goal

pub returns : goal.returns
returns c = record {
  outcome = exports_told (at_height c.ranges.h c.cut-layer.ensures.outcome)
      (says_told {words = cut_words} (λ c. (c.contours, c.points)) _ c.tell_answer.ensures.outcome);
}

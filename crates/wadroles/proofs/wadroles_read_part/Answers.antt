-- `wadroles_read_part` meets its contract.
use Rattle.out_words.specs.Words.{read_part_words}
use Rattle.out_words.specs.WordLaws.{says_told}
use Rattle.wadroles.specs.ExportLaws.{exports_told}
use borrow.Author.Rules.{rules}
use Rattle.wadroles.proofs.wadroles_read_part.Goals as goal

pub returns : goal.returns
returns c = record {
  outcome = exports_told c.read_part-part.ensures.outcome
      (says_told {words = read_part_words} (λ c. (c.vertices, c.triangles, c.heights)) _ c.tell_answer.ensures.outcome);
}

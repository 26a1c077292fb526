-- `wadroles_preview` meets its contract.
use mathlib.Core.Path.{ap, ◌∙◌}
use Rattle.std.specs.Prelude.{Option}
use Rattle.mesh.specs.Operation.{Answer}
use Rattle.mesh.specs.Refusals.{Told}
use Rattle.preview.specs.declared.PathCall.{PathCall}
use Rattle.out_words.specs.Words.{xy_after}
use Rattle.wadroles.specs.ExportLaws.{exports_told}
use borrow.Author.Rules.{rules}
use Rattle.wadroles.proofs.wadroles_preview.Goals as goal

pub returns : goal.returns
returns c =
    let xy = c.args.xy.now in record {
      outcome = record {
        exports = exports_told c.preview-shown.ensures.outcome c.tell_preview.ensures.outcome;
        writes = c.tell_preview.ensures.left ∙ ap (λ (a : Answer Told (Option PathCall)). xy_after a xy) c.preview-shown.ensures.outcome.answers;
      };
    }

-- `tell_preview` meets its contract.
use mathlib.Core.Path.{refl, sym, ap, ◌∙◌}
use Rattle.std.specs.Prelude.{Ok}
use Rattle.preview.specs.Preview.{tell_preview}
use Rattle.out_words.specs.Words.{xy_after}
use Rattle.out_words.specs.WordLaws.{says_as, says_values, says_refusal}
use Rattle.out_words.proofs.tell_preview.Goals as goal

pub returns-in-Some : goal.returns-in-Some
returns-in-Some c =
    let is = c.in-Ok.is ∙ ap Ok c.in-Some.is in
    let xy = c.args.xy.now in record {
      outcome = says_as (ap tell_preview (sym is)) c.tell_call.ensures.outcome;
      left = c.tell_call.ensures.left ∙ ap (λ k. xy_after (tell_preview k) xy) (sym is);
    }

pub returns-in-None : goal.returns-in-None
returns-in-None c =
    let is = c.in-Ok.is ∙ ap Ok c.in-None.is in
    let xy = c.args.xy.now in record {
      outcome = says_values (ap tell_preview is) refl;
      left = ap (λ k. xy_after (tell_preview k) xy) (sym is);
    }

pub returns-in-Err : goal.returns-in-Err
returns-in-Err c =
    let xy = c.args.xy.now in record {
      outcome = says_refusal (ap tell_preview c.in-Err.is) c.refuse.ensures.outcome;
      left = ap (λ k. xy_after (tell_preview k) xy) (sym c.in-Err.is);
    }

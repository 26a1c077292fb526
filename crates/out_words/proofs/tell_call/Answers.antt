-- `tell_call` meets its contract.
use mathlib.Core.Path.{refl, sym, ap}
use Rattle.std.specs.Prelude.{Some}
use Rattle.mesh.specs.Operation.{gives}
use Rattle.preview.specs.declared.PathCall.{PathCall}
use Rattle.out_words.specs.Words.{xy_after}
use Rattle.out_words.specs.WordLaws.{says_values}
use borrow.Author.Rules.{rules}
use Rattle.out_words.proofs.tell_call.Goals as goal

pub returns-in-Move : goal.returns-in-Move
returns-in-Move c =
    let is = c.in-Move.is in
    let xy = c.args.xy.now in record {
      outcome = says_values (ap (λ (k : PathCall). gives (Some k)) is) refl;
      left = ap (λ (k : PathCall). xy_after (gives (Some k)) xy) (sym is);
    }

pub returns-in-Line : goal.returns-in-Line
returns-in-Line c =
    let is = c.in-Line.is in
    let xy = c.args.xy.now in record {
      outcome = says_values (ap (λ (k : PathCall). gives (Some k)) is) refl;
      left = ap (λ (k : PathCall). xy_after (gives (Some k)) xy) (sym is);
    }

pub returns-in-Close : goal.returns-in-Close
returns-in-Close c =
    let is = c.in-Close.is in
    let xy = c.args.xy.now in record {
      outcome = says_values (ap (λ (k : PathCall). gives (Some k)) is) refl;
      left = ap (λ (k : PathCall). xy_after (gives (Some k)) xy) (sym is);
    }

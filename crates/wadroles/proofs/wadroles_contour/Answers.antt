-- `wadroles_contour` meets its contract.
use mathlib.Core.Path.{refl}
use lib.ListN.{set}
use borrow.Author.Rules.{rules}
use Rattle.wadroles.proofs.wadroles_contour.Goals as goal

pub returns : goal.returns
returns c =
    let out = c.args.out.now in record {
      outcome = record {
        returns = refl;
        writes = λ i. set (set out 0 (c.contour_part-p.ensures.result.0 i)) 1 (c.contour_part-p.ensures.result.1 i);
      };
    }

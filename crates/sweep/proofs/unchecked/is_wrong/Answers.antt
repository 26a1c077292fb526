-- `unchecked::is_wrong` meets its contract.
use mathlib.Core.Path.{◌≡◌, subst, ◌∙◌}
use mathlib.Core.Bool.{not}
use borrow.Author.Tests.{le-leb}
use lib.Dec.{eqb}
use lib.ListN.{get_or}
use lib.IntN.{ℤ}
use Rattle.section.specs.Section.{VertexSet, under}
use Rattle.sweep.specs.Places.{wrong_for}
use Rattle.sweep.proofs.Moves.{back, wrong_missing, wrong_as}
use Rattle.sweep.proofs.unchecked.is_wrong.Goals as goal

pub returns-then-ring-c : goal.returns-then-ring-c
returns-then-ring-c c = record { value = le-leb _ _ c.if-ring-c.true ∙ wrong_missing _ _ _ _ _ c.if-ring-c.true }

pub returns-else-ring-c : goal.returns-else-ring-c
returns-else-ring-c c =
    let ring = c.args.ring.now in
    let passed : ℤ → VertexSet = λ z. under c.args.coords.now z c.args.k in record {
      value = subst (λ (z : ℤ). not (eqb (get_or ring c.args.c 0) c.entry_of.result)
          ≡ wrong_for (passed z) c.args.corners.now c.args.pairing.now ring c.args.c) (back c.ranges.h)
          (wrong_as _ _ _ _ _ c.if-ring-c.false _ c.entry_of.ensures.value);
    }

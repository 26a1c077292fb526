-- `unchecked::touched` meets its contract.
use mathlib.Core.Path.{refl, sym, ◌∙◌}
use borrow.Author.Tests.{eqb-true, eqb-false, eq-eqb}
use Rattle.laws.specs.Booleans.{clash}
use Rattle.sweep.proofs.Moves.{touches_1, touches_2, touches_3}
use Rattle.sweep.proofs.unchecked.touched.Goals as goal
use Rattle.sweep.proofs.unchecked.touched.Goals.{then-corners-i, else-corners-i}

pub returns-then-corners-j : goal.returns-then-corners-j
returns-then-corners-j c = record {
  value = elim c.if-corners-i.branch [
    | then-corners-i w ↦ c.if-corners-j.true ∙ touches_1 _ _ _ w.if-corners-i.true
    | else-corners-i w ↦ c.if-corners-j.true ∙ touches_2 _ _ _ w.if-corners-i.false (eqb-true _ _ (sym w.value-is ∙ c.if-corners-j.true))
  ];
}

pub returns-else-corners-j : goal.returns-else-corners-j
returns-else-corners-j c = record {
  value = elim c.if-corners-i.branch [
    | then-corners-i w ↦ absurd (clash (eq-eqb _ _ w.if-corners-i.true) (sym w.value-is ∙ c.if-corners-j.false))
    | else-corners-i w ↦ touches_3 _ _ _ w.if-corners-i.false (eqb-false _ _ (sym w.value-is ∙ c.if-corners-j.false)) _ refl
  ];
}

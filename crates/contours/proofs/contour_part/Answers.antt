-- `contour_part` meets its contract.
use mathlib.Core.Path.{refl}
use Rattle.contours.proofs.Parts.{part_missing, part_falls, part_past, part_there}
use Rattle.contours.proofs.contour_part.Goals as goal
use Rattle.contours.proofs.contour_part.Goals.{else-start-end-via-then-start-end+else-end-numbers, else-start-end-via-else-start-end}

pub returns-then-end-numbers : goal.returns-then-end-numbers
returns-then-end-numbers c = record {
  result = part_there _ _ _ c.prior_end-start.ensures.value refl c.if-j-ends.true c.if-start-end.true c.if-end-numbers.true;
}

pub returns-else-start-end : goal.returns-else-start-end
returns-else-start-end c = record {
  result = elim c.else-start-end.branch [
    | else-start-end-via-then-start-end+else-end-numbers w ↦ part_past _ _ _ refl w.if-end-numbers.false
    | else-start-end-via-else-start-end w ↦ part_falls _ _ _ c.prior_end-start.ensures.value refl w.if-start-end.false
  ];
}

pub returns-else-j-ends : goal.returns-else-j-ends
returns-else-j-ends c = record { result = part_missing _ _ _ c.if-j-ends.false }

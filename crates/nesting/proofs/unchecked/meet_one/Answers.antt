-- `unchecked::meet_one` meets its contract: where contour j does not hold contour i all stays; else the depth is one more, and the parent is j if it is closer.
use native.Mathlib.Omega.{arith}
use borrow.Author.Tests.{not-true, not-false}
use Rattle.nesting.proofs.Meetings.{deeper_fits, number_fits, met_not, met_kept, met_parent}
use Rattle.nesting.proofs.unchecked.meet_one.Goals as goal

pub returns-then-not-inside : goal.returns-then-not-inside
returns-then-not-inside c = record { left = met_not c.requires (not-true _ c.if-not-inside.true-raw) }

pub overflow_add-depths : goal.overflow_add-depths
overflow_add-depths c = omega (arith, deeper_fits c.requires)

pub overflow_cast-parents : goal.overflow_cast-parents
overflow_cast-parents c = omega (arith, number_fits c.requires)

pub returns-then-is_closer : goal.returns-then-is_closer
returns-then-is_closer c = record { left = met_parent c.requires (not-false _ c.if-not-inside.false-raw) c.is_closer.ensures.value c.if-is_closer.true }

pub returns-else-is_closer : goal.returns-else-is_closer
returns-else-is_closer c = record { left = met_kept c.requires (not-false _ c.if-not-inside.false-raw) c.is_closer.ensures.value c.if-is_closer.false }

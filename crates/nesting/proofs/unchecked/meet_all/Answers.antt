-- `unchecked::meet_all` meets its contract: one contour after another has what contour j adds (`MeetsTo`); its first point is read where the one before ends.
use mathlib.Core.Path.{refl}
use native.Mathlib.Omega.{arith}
use Rattle.nesting.proofs.Holding.{meets_start, start_within, held_asked, meet_asked, meets_again, meets_lengths, meets_end}
use Rattle.nesting.proofs.unchecked.meet_all.Goals as goal

pub loop-i-init : goal.loop-i-init
loop-i-init c = meets_start c.requires.0 c.requires.1

pub overflow_mul-a : goal.overflow_mul-a
overflow_mul-a c = omega (arith, start_within c.loop-i.invariant c.loop-i-test.true)

pub offset_bounds-points-a : goal.offset_bounds-points-a
offset_bounds-points-a c = omega (arith, start_within c.loop-i.invariant c.loop-i-test.true)

pub bounds-points-a : goal.bounds-points-a
bounds-points-a c = omega (arith, start_within c.loop-i.invariant c.loop-i-test.true)

pub overflow_add-y : goal.overflow_add-y
overflow_add-y c = omega (arith, start_within c.loop-i.invariant c.loop-i-test.true)

pub offset_bounds-points-a-in-loop-i : goal.offset_bounds-points-a-in-loop-i
offset_bounds-points-a-in-loop-i c = omega (arith, start_within c.loop-i.invariant c.loop-i-test.true)

pub bounds-points-a-in-loop-i : goal.bounds-points-a-in-loop-i
bounds-points-a-in-loop-i c = omega (arith, start_within c.loop-i.invariant c.loop-i-test.true)

pub is_held-inside-requires : goal.is_held-inside-requires
is_held-inside-requires c = held_asked c.loop-i.invariant c.loop-i-test.true

pub meet_one-requires : goal.meet_one-requires
meet_one-requires c = meet_asked c.loop-i.invariant c.loop-i-test.true c.is_held-inside.ensures.value

pub loop-i-preserved : goal.loop-i-preserved
loop-i-preserved c = meets_again c.loop-i.invariant c.loop-i-test.true c.meet_one.ensures.left refl

pub shape_of-depths : goal.shape_of-depths
shape_of-depths c = (meets_lengths c.loop-i.invariant).0

pub shape_of-parents : goal.shape_of-parents
shape_of-parents c = (meets_lengths c.loop-i.invariant).1

pub returns : goal.returns
returns c = record { left = meets_end c.loop-i.invariant (omega (arith, c.loop-i-test.false)) }

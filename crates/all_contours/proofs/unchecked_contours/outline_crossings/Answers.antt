-- `unchecked_contours::outline_crossings` meets its contract.
use mathlib.Core.Path.{refl}
use native.Mathlib.Omega.{arith}
use mir.Syntax.{w32}
use mir.ValLaws.{to_z-of_z}
use Rattle.all_contours.proofs.Outlining.{outlining_start, outlinable_held, names_length, ends_length, marks_length, c_small, c_inside}
use Rattle.all_contours.proofs.Outlining.{j_inside, j_small, d_after, outlining_skip, roundable, end_few, outlining_ring, outlined_end, marked_end}
use Rattle.all_contours.proofs.unchecked_contours.outline_crossings.Goals as goal

pub loop-c-init : goal.loop-c-init
loop-c-init c =
    outlining_start _ _ (outlinable_held (to_z-of_z w32 c.args.h c.ranges.h) c.requires)

pub offset_bounds-ring-start : goal.offset_bounds-ring-start
offset_bounds-ring-start c = omega (arith, c_small _ _ c.loop-c.invariant c.loop-c-test.true)

pub bounds-ring-start : goal.bounds-ring-start
bounds-ring-start c =
    (c_inside _ _ c.loop-c.invariant c.loop-c-test.true).0

pub offset_bounds-marks-start : goal.offset_bounds-marks-start
offset_bounds-marks-start c =
    omega (arith, c_small _ _ c.loop-c.invariant c.loop-c-test.true)

pub bounds-marks-start : goal.bounds-marks-start
bounds-marks-start c =
    (c_inside _ _ c.loop-c.invariant c.loop-c-test.true).1

pub loop-c-smaller : goal.loop-c-smaller
loop-c-smaller c =
    let inv = c.loop-c.invariant in
    let after = d_after _ _ inv c.loop-c-test.true refl in
    omega (arith, c.loop-c-test.true)

pub loop-c-preserved : goal.loop-c-preserved
loop-c-preserved c =
    let inv = c.loop-c.invariant in
    outlining_skip _ _ inv c.loop-c-test.true refl c.if-marks-start.false

pub follow_contour-k-requires : goal.follow_contour-k-requires
follow_contour-k-requires c =
    roundable _ _ c.loop-c.invariant c.loop-c-test.true refl c.if-marks-start.true

pub overflow_cast-ends : goal.overflow_cast-ends
overflow_cast-ends c =
    let inv = c.loop-c.invariant in
    let few = end_few _ _ inv c.loop-c-test.true refl c.if-marks-start.true c.follow_contour-k.ensures.outcome in
    omega (arith, few, inv.given.right.named.whole.few)

pub offset_bounds-ends-j : goal.offset_bounds-ends-j
offset_bounds-ends-j c =
    let inv = c.loop-c.invariant in
    omega (arith, j_small _ _ inv c.loop-c-test.true)

pub bounds-ends-j : goal.bounds-ends-j
bounds-ends-j c =
    let inv = c.loop-c.invariant in
    j_inside _ _ inv c.loop-c-test.true

pub overflow_add-j : goal.overflow_add-j
overflow_add-j c =
    let inv = c.loop-c.invariant in
    omega (arith, j_small _ _ inv c.loop-c-test.true)

pub loop-c-smaller-then-marks-start : goal.loop-c-smaller-then-marks-start
loop-c-smaller-then-marks-start c =
    let inv = c.loop-c.invariant in
    let after = d_after _ _ inv c.loop-c-test.true refl in
    omega (arith, c.loop-c-test.true)

pub loop-c-preserved-then-marks-start : goal.loop-c-preserved-then-marks-start
loop-c-preserved-then-marks-start c =
    let inv = c.loop-c.invariant in
    outlining_ring _ _ inv c.loop-c-test.true refl c.if-marks-start.true c.follow_contour-k.ensures.outcome

pub shape_of-names : goal.shape_of-names
shape_of-names c = names_length _ _ c.loop-c.invariant

pub shape_of-ends : goal.shape_of-ends
shape_of-ends c = ends_length _ _ c.loop-c.invariant

pub shape_of-marks : goal.shape_of-marks
shape_of-marks c = marks_length _ _ c.loop-c.invariant

pub returns : goal.returns
returns c =
    let e = to_z-of_z w32 c.args.h c.ranges.h in record {
      outcome = outlined_end _ _ c.loop-c.invariant c.loop-c-test.false e;
      marked = marked_end _ _ c.loop-c.invariant e;
    }

-- `unchecked_contours::follow_contour` meets its contract.
use mathlib.Core.Path.{◌∙◌}
use native.Mathlib.Omega.{arith}
use lib.ListN.{length-set}
use mir.Syntax.{w32}
use mir.ValLaws.{to_z-of_z}
use Rattle.all_contours.proofs.ContourWalking.{walking_start, roundable_held, names_length, marks_length, c_crosses, c_small, c_inside}
use Rattle.all_contours.proofs.ContourWalking.{k_inside, walking_next, walking_end}
use Rattle.all_contours.proofs.unchecked_contours.follow_contour.Goals as goal

pub loop-c-init : goal.loop-c-init
loop-c-init c =
    walking_start (roundable_held (to_z-of_z w32 c.args.h c.ranges.h) c.requires)

pub overflow_cast-names : goal.overflow_cast-names
overflow_cast-names c = omega (arith, c_small c.loop-c.invariant)

pub offset_bounds-names-k : goal.offset_bounds-names-k
offset_bounds-names-k c = omega (arith, k_inside c.loop-c.invariant, names_length c.loop-c.invariant)

pub bounds-names-k : goal.bounds-names-k
bounds-names-k c = k_inside c.loop-c.invariant

pub offset_bounds-marks-c : goal.offset_bounds-marks-c
offset_bounds-marks-c c = omega (arith, c_small c.loop-c.invariant)

pub bounds-marks-c : goal.bounds-marks-c
bounds-marks-c c = c_inside c.loop-c.invariant

pub overflow_add-k : goal.overflow_add-k
overflow_add-k c = omega (arith, k_inside c.loop-c.invariant, names_length c.loop-c.invariant)

pub successor-c-requires : goal.successor-c-requires
successor-c-requires c = record {
  fact_1 = c.loop-c.invariant.way.right;
  fact_2 = c_crosses c.loop-c.invariant;
}

pub shape_of-names-then-c-start : goal.shape_of-names-then-c-start
shape_of-names-then-c-start c =
    length-set c.loop-c.names c.loop-c.k c.loop-c.c ∙ names_length c.loop-c.invariant

pub shape_of-marks-then-c-start : goal.shape_of-marks-then-c-start
shape_of-marks-then-c-start c =
    length-set c.loop-c.marks c.loop-c.c c.args.stamp ∙ marks_length c.loop-c.invariant

pub returns-then-c-start : goal.returns-then-c-start
returns-then-c-start c = record { outcome = walking_end c.loop-c.invariant c.successor-c.ensures.value (to_z-of_z w32 c.args.h c.ranges.h) c.if-c-start.true }

pub loop-c-smaller : goal.loop-c-smaller
loop-c-smaller c =
    omega (arith, k_inside c.loop-c.invariant, names_length c.loop-c.invariant)

pub loop-c-preserved : goal.loop-c-preserved
loop-c-preserved c =
    walking_next c.loop-c.invariant c.successor-c.ensures.value c.if-c-start.false

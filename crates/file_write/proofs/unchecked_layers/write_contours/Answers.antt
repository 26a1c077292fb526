-- `unchecked_layers::write_contours` meets its contract.
use Prim.Native.Nat.{◌*◌, ◌≤◌}
use native.Mathlib.Omega.{arith}
use mathlib.Core.Path.{refl, sym}
use lib.ListN.{length, get_or, take}
use lib.Seq.{length-take-le}
use Rattle.file_write.proofs.Rows.{end_rises, end_within}
use Rattle.file_write.proofs.Writing.{write_contours_start, contour_room, contours_next, contours_end}
use Rattle.file_write.proofs.unchecked_layers.write_contours.Goals as goal
use Rattle.file_write.proofs.unchecked_layers.write_contours.Goals.{In-loop-end}

pub loop-end-init : goal.loop-end-init
loop-end-init c = write_contours_start c.requires.fact_1 c.requires.fact_2

pub slice_bounds-end-items-end : goal.slice_bounds-end-items-end
slice_bounds-end-items-end c = sym (length-take-le c.args.j c.args.ends.now c.requires.fact_1.there)

pub overflow_mul-from : goal.overflow_mul-from
overflow_mul-from c = omega (arith, c.loop-end.invariant.place.within)

-- the end lies within the points, and not below the end before
module _ (c : In-loop-end) where
  within : 2 * get_or (take c.args.j c.args.ends.now) c.loop-end.end-index 0 ≤ length c.args.points.now
  within = end_within c.loop-end.invariant.place c.loop-end-test.true refl

  rises : c.loop-end.from ≤ get_or (take c.args.j c.args.ends.now) c.loop-end.end-index 0
  rises = end_rises c.loop-end.invariant.place c.loop-end-test.true refl

pub overflow_mul-end : goal.overflow_mul-end
overflow_mul-end c =
    let at = (goal.at.overflow_mul-end c).In-loop-end in
    omega (arith, within at)

pub offset_bounds-points-from : goal.offset_bounds-points-from
offset_bounds-points-from c =
    let at = (goal.at.offset_bounds-points-from c).In-loop-end in
    omega (arith, rises at, within at)

pub slice_bounds-write_contour-count : goal.slice_bounds-write_contour-count
slice_bounds-write_contour-count c =
    let at = (goal.at.slice_bounds-write_contour-count c).In-loop-end in
    omega (arith, rises at)

pub write_contour-p-requires : goal.write_contour-p-requires
write_contour-p-requires c =
    contour_room c.loop-end.invariant c.loop-end-test.true refl

pub loop-end-preserved : goal.loop-end-preserved
loop-end-preserved c =
    contours_next c.loop-end.invariant c.loop-end-test.true refl c.write_contour-p.ensures.outcome

pub shape_of-output : goal.shape_of-output
shape_of-output c = c.loop-end.invariant.bytes.size

pub returns : goal.returns
returns c = record { outcome = contours_end c.loop-end.invariant c.loop-end-test.false }

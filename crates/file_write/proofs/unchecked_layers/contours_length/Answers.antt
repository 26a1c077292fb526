-- `unchecked_layers::contours_length` meets its contract.
use Prim.Native.Nat.{◌*◌, ◌≤◌}
use native.Mathlib.Omega.{arith}
use mathlib.Core.Path.{refl, sym}
use lib.ListN.{length, get_or, take}
use lib.Seq.{length-take-le}
use Rattle.file_write.proofs.Rows.{end_rises, end_within}
use Rattle.file_write.proofs.Measuring.{measure_contours_start, contour_fits, contours_next, contours_end}
use Rattle.file_write.proofs.unchecked_layers.contours_length.Goals as goal
use Rattle.file_write.proofs.unchecked_layers.contours_length.Goals.{In-loop-end}

pub loop-end-init : goal.loop-end-init
loop-end-init c = measure_contours_start c.requires

pub slice_bounds-end-items-end : goal.slice_bounds-end-items-end
slice_bounds-end-items-end c = sym (length-take-le c.args.j c.args.ends.now c.requires.there)

pub overflow_mul-from : goal.overflow_mul-from
overflow_mul-from c = omega (arith, c.loop-end.invariant.place.within)

-- the end lies within the points, and not below the end before
module _ (c : In-loop-end) where
  within : 2 * get_or (take c.args.j c.args.ends.now) c.loop-end.end-index 0 ≤ length c.args.points.now
  within = end_within c.loop-end.invariant.place c.loop-end-test.true refl

  rises : c.loop-end.from ≤ get_or (take c.args.j c.args.ends.now) c.loop-end.end-index 0
  rises = end_rises c.loop-end.invariant.place c.loop-end-test.true refl

pub overflow_mul-end : goal.overflow_mul-end
overflow_mul-end c =
    let at = (goal.at.overflow_mul-end c).In-loop-end in
    omega (arith, within at)

pub offset_bounds-points-from : goal.offset_bounds-points-from
offset_bounds-points-from c =
    let at = (goal.at.offset_bounds-points-from c).In-loop-end in
    omega (arith, within at)

pub slice_bounds-contour_length-count : goal.slice_bounds-contour_length-count
slice_bounds-contour_length-count c =
    let at = (goal.at.slice_bounds-contour_length-count c).In-loop-end in
    omega (arith, rises at)

pub overflow_add-total : goal.overflow_add-total
overflow_add-total c =
    omega (
      arith,
      contour_fits c.loop-end.invariant c.loop-end-test.true refl c.contour_length-total.ensures.result,
      c.loop-end.invariant.place.there,
    )

pub loop-end-preserved : goal.loop-end-preserved
loop-end-preserved c =
    contours_next c.loop-end.invariant c.loop-end-test.true refl c.contour_length-total.ensures.result

pub returns : goal.returns
returns c = record { result = contours_end c.loop-end.invariant c.loop-end-test.false }

-- `contour` meets its contract.
use Prim.Native.Nat.{◌+◌, ◌≤◌}
use native.Mathlib.Omega.{arith}
use lib.ListN.{length}
use Rattle.contours.proofs.ContourLaws.{span_fits}
use Rattle.contours.proofs.Parts.{part_is}
use Rattle.contours.proofs.contour.Goals as goal
use Rattle.contours.proofs.contour.Goals.{After-contour_part-part}

-- the part ends within the points
fits : (c : After-contour_part-part) → c.contour_part-part.result.first + c.contour_part-part.result.length ≤ length c.args.points.now
fits c =
    let a = c.args in
    omega (arith, c.contour_part-part.ensures.result.0, c.contour_part-part.ensures.result.1, span_fits (length a.points.now) a.ends.now a.j)

pub overflow_add-end : goal.overflow_add-end
overflow_add-end c = omega (arith, fits (goal.at.overflow_add-end c).After-contour_part-part)

pub offset_bounds-points-first : goal.offset_bounds-points-first
offset_bounds-points-first c = omega (arith, fits (goal.at.offset_bounds-points-first c).After-contour_part-part)

pub slice_bounds-result-end : goal.slice_bounds-result-end
slice_bounds-result-end c = omega (arith, fits (goal.at.slice_bounds-result-end c).After-contour_part-part)

pub returns : goal.returns
returns c = let p = c.contour_part-part.ensures.result in record { value = part_is _ _ _ p.0 p.1 }

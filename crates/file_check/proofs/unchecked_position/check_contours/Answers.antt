-- `check_contours` meets its contract: the loop keeps the room that is left, and the areas up to there.
use mathlib.Core.Path.{◌≡◌, sym, ◌∙◌}
use native.Mathlib.Omega.{arith}
use Rattle.std.specs.Prelude.{Ok}
use Rattle.mesh.proofs.Raising.{raised}
use Rattle.file_check.specs.Answers.{contour_told_at}
use Rattle.file_check.proofs.ContourSteps.{contours_checked, contours_done, sum_small, area_small, contour_stops, contour_passes}
use Rattle.file_check.proofs.ContourSteps.{adding_fits, adding_is}
use borrow.Author.Rules.{rules}
use Rattle.file_check.proofs.unchecked_position.check_contours.Goals as goal
use Rattle.file_check.proofs.unchecked_position.check_contours.Goals.{In_ok-c}

pub loop-init : goal.loop-init
loop-init c = contours_checked c.args.profile _ _ _ (omega arith) c.requires

pub check_contour-requires : goal.check_contour-requires
check_contour-requires c = search (rules, c.loop.invariant.run.inside, c.loop.invariant.few)

pub returns-in_err-c : goal.returns-in_err-c
returns-in_err-c c = record {
  value = raised _ c.from_residual.ensures.1 ∙ contour_stops c.loop.invariant (omega arith) (sym c.in_err-c.ensures.value);
}

-- the contour checked
contour : (c : In_ok-c) → contour_told_at c.args.profile c.loop.room c.args.file.now c.loop.i ≡ Ok c.in_ok-c.c
contour c = sym c.in_ok-c.ensures.value

pub overflow_add-sum : goal.overflow_add-sum
overflow_add-sum c =
    let w = c.loop.invariant in
    adding_fits c.loop.sum-bits c.in_ok-c.c.area (sum_small w) (area_small w (contour (goal.at.overflow_add-sum c).In_ok-c))

pub loop-preserved : goal.loop-preserved
loop-preserved c =
    let w = c.loop.invariant in
    let d = contour (goal.at.loop-preserved c).In_ok-c in
    contour_passes w d (omega arith) (adding_is c.loop.sum-bits c.in_ok-c.c.area (sum_small w) (area_small w d))

pub returns : goal.returns
returns c = record { value = contours_done c.loop.invariant (omega arith) }

-- `unchecked::move_run` meets its contract. The invariant is that of `copy_run`, where what is read has not been written yet.
use mathlib.Core.Path.{refl, ◌∙◌}
use native.Mathlib.Omega.{arith}
use Rattle.clean_contour.proofs.Comparing.{held_is}
use Rattle.clean_contour.proofs.Copying.{copy_read, copy_skip, copy_next, copy_end, run_stands, moved_part}
use Rattle.clean_contour.proofs.unchecked.move_run.Goals as goal
use Rattle.clean_contour.proofs.unchecked.move_run.Goals.{then-not-same_point, else-not-same_point}

pub loop-i-preserved : goal.loop-i-preserved
loop-i-preserved c =
    let s = c.loop-i.invariant in
    elim c.if-not-same_point.branch [
      | then-not-same_point w ↦
          rw (w.points-is, w.x-is, w.y-is, w.to-is)
          (copy_next s c.loop-i-test.true (held_is (omega arith) (omega arith) ∙ copy_read s refl) c.same_point.ensures.value
          w.if-not-same_point.true w.write_point-then-not-same_point.ensures.outcome)
      | else-not-same_point w ↦
          rw (w.points-is, w.x-is, w.y-is, w.to-is)
          (copy_skip s c.loop-i-test.true (held_is (omega arith) (omega arith) ∙ copy_read s refl) c.same_point.ensures.value
          w.if-not-same_point.false)
    ]

pub returns : goal.returns
returns c =
    let room = c.requires.fact_1 in
    let with_point = c.write_point.ensures.outcome in record {
      outcome = run_stands _ _ _ _ c.requires.fact_2 room.there (held_is (omega arith) (omega arith)) (moved_part _ _ _ _ _ room.behind with_point)
          with_point
          (copy_end c.loop-i.invariant c.loop-i-test.false);
    }

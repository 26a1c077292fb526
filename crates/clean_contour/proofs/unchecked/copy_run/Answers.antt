-- `unchecked::copy_run` meets its contract. The loop's invariant: the points before i are in the table, and x and y are those of the last of them.
use mathlib.Core.Path.{refl}
use native.Mathlib.Omega.{arith}
use Rattle.clean_contour.proofs.Comparing.{held_is}
use Rattle.clean_contour.proofs.Copying.{copy_skip, copy_next, copy_end, run_stands}
use Rattle.clean_contour.proofs.unchecked.copy_run.Goals as goal
use Rattle.clean_contour.proofs.unchecked.copy_run.Goals.{then-not-same_point, else-not-same_point}

pub loop-i-preserved : goal.loop-i-preserved
loop-i-preserved c =
    elim c.if-not-same_point.branch [
      | then-not-same_point w ↦
          rw (w.table-is, w.x-is, w.y-is, w.to-is)
          (copy_next c.loop-i.invariant c.loop-i-test.true (held_is (omega arith) (omega arith)) c.same_point.ensures.value
          w.if-not-same_point.true w.write_point-then-not-same_point.ensures.outcome)
      | else-not-same_point w ↦
          rw (w.table-is, w.x-is, w.y-is, w.to-is)
          (copy_skip c.loop-i.invariant c.loop-i-test.true (held_is (omega arith) (omega arith)) c.same_point.ensures.value
          w.if-not-same_point.false)
    ]

pub returns : goal.returns
returns c = record {
  outcome = run_stands _ _ _ _ c.requires.fact_2 c.requires.fact_1.there (held_is (omega arith) (omega arith)) refl c.write_point.ensures.outcome
      (copy_end c.loop-i.invariant c.loop-i-test.false);
}

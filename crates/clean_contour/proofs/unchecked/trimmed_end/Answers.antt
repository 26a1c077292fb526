-- `unchecked::trimmed_end` meets its contract. The loop's invariant: every point from k on equals the first.
use mathlib.Core.Path.{◌≡◌, subst}
use native.Mathlib.Omega.{arith}
use Prim.Native.Nat.{◌+◌, ◌-◌}
use Rattle.clean_contour.specs.Parts.{Trimmed}
use Rattle.clean_contour.proofs.Scanning.{ending_none, ending_stop, ending_next}
use Rattle.clean_contour.proofs.unchecked.trimmed_end.Goals as goal

pub returns-then-not-equal_points : goal.returns-then-not-equal_points
returns-then-not-equal_points c =
    let e : c.loop-k.k ≡ c.loop-k.k - 1 + 1 = omega arith in
    record {
      found = subst (Trimmed c.args.points.now c.args.from c.args.end) e
          (ending_stop c.requires.fact_1 c.loop-k.invariant c.loop-k-test.true c.equal_points.ensures.value c.if-not-equal_points.true);
    }

pub loop-k-preserved : goal.loop-k-preserved
loop-k-preserved c =
    ending_next c.requires.fact_1 c.loop-k.invariant c.loop-k-test.true c.equal_points.ensures.value c.if-not-equal_points.false

pub returns : goal.returns
returns c =
    let e : c.loop-k.k ≡ c.args.from + 1 = omega arith in
    record { found = subst (Trimmed c.args.points.now c.args.from c.args.end) e (ending_none c.requires.fact_1 c.loop-k.invariant c.loop-k-test.false) }

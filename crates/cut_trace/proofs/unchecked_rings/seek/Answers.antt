-- `unchecked_rings::seek` meets its contract.
use Prim.Native.Nat.{◌+◌}
use native.Mathlib.Omega.{arith}
use Rattle.cut_trace.proofs.Seeking.{sought_more, one_none}
use Rattle.cut_trace.proofs.unchecked_rings.seek.Goals as goal

pub returns-then-links-d : goal.returns-then-links-d
returns-then-links-d c = record {
  sought = c.loop-d.invariant;
  result = λ l. c.if-links-d.true;
}

pub loop-d-preserved : goal.loop-d-preserved
loop-d-preserved c =
    sought_more c.loop-d.invariant (c.loop-d.d + 1) (omega arith) (omega (arith, c.loop-d-test.true))
    (one_none c.args.links.now c.loop-d.d c.if-links-d.false)

pub returns : goal.returns
returns c =
    let s = c.loop-d.invariant in
    record {
      sought = sought_more s c.args.n s.upto (omega arith) (λ i a b. absurd (omega (arith, a, b, c.loop-d-test.false)));
      result = λ l. absurd (omega (arith, l));
    }

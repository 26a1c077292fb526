-- `unchecked::first_other` meets its contract. The loop's invariant: every point before i is one of the two.
use mathlib.Core.Path.{◌≡◌, subst}
use native.Mathlib.Omega.{arith}
use Rattle.clean_contour.specs.Parts.{Found}
use Rattle.clean_contour.proofs.Scanning.{seek_end, seek_hit, seek_miss}
use Rattle.clean_contour.proofs.unchecked.first_other.Goals as goal

pub returns-then-not-is_either : goal.returns-then-not-is_either
returns-then-not-is_either c = record {
  found = seek_hit c.requires.fact_1 c.loop-i.invariant c.loop-i-test.true
      c.is_either.ensures.value c.if-not-is_either.true;
}

pub loop-i-preserved : goal.loop-i-preserved
loop-i-preserved c =
    seek_miss c.requires.fact_1 c.loop-i.invariant c.loop-i-test.true
    c.is_either.ensures.value c.if-not-is_either.false

pub returns : goal.returns
returns c =
    let e : c.loop-i.i ≡ c.args.end = omega arith in
    record {
      found = subst (Found c.args.points.now c.args.from c.args.end c.args.a c.args.b) e
          (seek_end c.requires.fact_1 c.loop-i.invariant c.loop-i-test.false);
    }

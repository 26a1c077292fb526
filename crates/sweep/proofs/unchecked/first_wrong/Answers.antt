-- `unchecked::first_wrong` meets its contract.
use Prim.Native.Nat.{ℕ}
use mathlib.Core.Path.{◌≡◌, sym, ap, ◌∙◌}
use native.Mathlib.Omega.{arith}
use lib.ListN.{length}
use lib.IntN.{ℤ}
use Rattle.laws.specs.Least.{least}
use Rattle.laws.specs.LeastLaws.{scan_hit, scan_miss}
use Rattle.section.specs.Section.{under}
use Rattle.sweep.specs.Places.{wrong_for}
use Rattle.sweep.proofs.Moves.{back, wrong_over}
use Rattle.sweep.proofs.unchecked.first_wrong.Goals as goal
use Rattle.sweep.proofs.unchecked.first_wrong.Goals.{Start}

-- the least corner with a wrong entry, at height z
abbrev first : Start → ℤ → ℕ
first start z =
    least (length start.args.corners.now)
    (wrong_for (under start.args.coords.now z start.args.k) start.args.corners.now start.args.pairing.now start.args.ring.now)

pub returns-then-is_wrong : goal.returns-then-is_wrong
returns-then-is_wrong c = record {
  value = scan_hit c.loop-c.invariant (omega arith) (sym c.is_wrong.ensures.value ∙ c.if-is_wrong.true)
      ∙ ap (first (goal.at.returns-then-is_wrong c).Start) (back c.ranges.h);
}

pub loop-c-preserved : goal.loop-c-preserved
loop-c-preserved c = scan_miss c.loop-c.invariant (omega arith) (sym c.is_wrong.ensures.value ∙ c.if-is_wrong.false)

pub returns : goal.returns
returns c =
    let done : c.min-end.result ≡ c.loop-c.c = omega arith in record {
      value = done ∙ wrong_over _ _ _ _ _ c.loop-c.invariant (omega arith) ∙ ap (first (goal.at.returns c).Start) (back c.ranges.h);
    }

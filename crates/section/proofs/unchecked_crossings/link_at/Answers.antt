-- `unchecked_crossings::link_at` meets its contract.
use Prim.Native.Nat.{ℕ, ◌+◌, ◌*◌}
use mathlib.Core.Path.{◌≡◌, sym, ap, ◌∙◌}
use native.Mathlib.Omega.{arith}
use lib.ListN.{length}
use lib.IntN.{ℤ}
use Rattle.laws.specs.Tables.{refill}
use Rattle.laws.specs.TableLaws.{refill_none}
use Rattle.section.specs.Section.{under, ring_entry}
use Rattle.section.proofs.Turns.{held, back, link_three}
use Rattle.section.proofs.unchecked_crossings.link_at.Goals as goal
use Rattle.section.proofs.unchecked_crossings.link_at.Goals.{Start}

-- the ring entries of height z
abbrev entry : Start → ℤ → ℕ → ℕ
entry s z = ring_entry (under s.args.coords.now z 0) s.args.corners.now s.args.pairing.now

pub loop-t-init : goal.loop-t-init
loop-t-init c = sym (refill_none _ _)

pub loop-t-preserved : goal.loop-t-preserved
loop-t-preserved c =
    let more : 3 * c.loop-t.t + 3 ≡ 3 * (c.loop-t.t + 1) = omega arith in
    c.link_triangle.ensures.left
    ∙ link_three _ (3 * c.loop-t.t) c.args.ring.now c.loop-t.invariant (omega (arith, c.requires.fact_3))
    ∙ ap (λ (j : ℕ). refill j (entry (goal.at.loop-t-preserved c).Start (held c.args.h)) c.args.ring.now) more

pub returns : goal.returns
returns c =
    let end : 3 * c.loop-t.t ≡ length c.args.corners.now = omega (arith, c.requires.fact_1.whole.threes) in
    record {
      left = c.loop-t.invariant ∙ (λ i. refill (end i) (entry (goal.at.returns c).Start (back c.ranges.h i)) c.args.ring.now);
    }

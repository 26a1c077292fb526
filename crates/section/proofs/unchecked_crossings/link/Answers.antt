-- `unchecked_crossings::link` meets its contract.
use Prim.Native.Nat.{ℕ}
use mathlib.Core.Path.{◌≡◌, sym, ◌∙◌}
use native.Mathlib.Omega.{arith}
use lib.ListN.{length}
use lib.IntN.{ℤ}
use Rattle.laws.specs.Tables.{refill}
use Rattle.laws.specs.TableLaws.{refill_none}
use Rattle.section.specs.Section.{under, ring_entry}
use Rattle.section.proofs.Turns.{back, link_more}
use Rattle.section.proofs.unchecked_crossings.link.Goals as goal
use Rattle.section.proofs.unchecked_crossings.link.Goals.{Start}

-- the ring entries of height z
abbrev entry : Start → ℤ → ℕ → ℕ
entry s z = ring_entry (under s.args.coords.now z s.args.k) s.args.corners.now s.args.pairing.now

pub loop-c-init : goal.loop-c-init
loop-c-init c = sym (refill_none _ _)

pub loop-c-preserved : goal.loop-c-preserved
loop-c-preserved c = link_more _ c.loop-c.c c.args.ring.now c.loop-c.invariant (omega (arith, c.requires.fact_3)) c.entry_of.ensures.value

pub returns : goal.returns
returns c =
    let end : c.loop-c.c ≡ length c.args.corners.now = omega arith in
    record {
      left = c.loop-c.invariant ∙ (λ i. refill (end i) (entry (goal.at.returns c).Start (back c.ranges.h i)) c.args.ring.now);
    }

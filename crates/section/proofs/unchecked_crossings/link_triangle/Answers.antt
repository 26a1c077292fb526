-- `unchecked_crossings::link_triangle` meets its contract.
use Prim.Native.Nat.{ℕ}
use mathlib.Core.Path.{◌∙◌}
use native.Mathlib.Omega.{arith}
use lib.IntN.{ℤ}
use Rattle.section.specs.Section.{under, ring_entry}
use Rattle.section.specs.Triangles.{set_three}
use Rattle.section.proofs.Turns.{held, back, TrianglePassed, three_level}
use Rattle.section.proofs.unchecked_crossings.link_triangle.Goals as goal
use Rattle.section.proofs.unchecked_crossings.link_triangle.Goals.{After-starts_passed-r, Start}

-- the ring entries of height z
abbrev entry : Start → ℤ → ℕ → ℕ
entry s z = ring_entry (under s.args.coords.now z 0) s.args.corners.now s.args.pairing.now

-- the three vertices, as they were read
seen : (c : After-starts_passed-r)
    → let a = c.args in
    TrianglePassed (under a.coords.now (held a.h) 0) a.corners.now a.c
    c.starts_passed-p.result c.starts_passed-q.result c.starts_passed-r.result
seen c =
    record {
      first = c.requires.fact_4.1;
      inside = omega (arith, c.requires.fact_4, c.requires.fact_1.whole.threes);
      p_is = c.starts_passed-p.ensures.value;
      q_is = c.starts_passed-q.ensures.value;
      r_is = c.starts_passed-r.ensures.value;
    }

pub returns-then-is_level : goal.returns-then-is_level
returns-then-is_level c =
    let level = c.is_level.ensures.sound c.if-is_level.true in record {
      left = c.put_three.ensures.left
          ∙ three_level c.args.pairing.now c.args.ring.now (seen (goal.at.returns-then-is_level c).After-starts_passed-r) level.0 level.1
          ∙ (λ i. set_three (entry (goal.at.returns-then-is_level c).Start (back c.ranges.h i)) c.args.c c.args.ring.now);
    }

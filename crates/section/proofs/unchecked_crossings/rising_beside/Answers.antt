-- `unchecked_crossings::rising_beside` meets its contract.
use mathlib.Core.Path.{◌∙◌}
use Rattle.mesh.specs.Corners.{start_of}
use Rattle.section.specs.Section.{under}
use Rattle.section.proofs.Turns.{passed_held, ThirdSeen, second_rises, first_rises}
use Rattle.section.proofs.unchecked_crossings.rising_beside.Goals as goal
use Rattle.section.proofs.unchecked_crossings.rising_beside.Goals.{After-is_passed}

-- what both returns know
seen : (c : After-is_passed)
    →
    let a = c.args in
    ThirdSeen (under a.coords.now a.h a.k) a.corners.now a.d
    c.next_corner-e.result c.previous_corner-f.result c.is_passed.result
seen c =
    record {
      falls = c.requires.fact_3;
      is_e = c.next_corner-e.ensures.value;
      is_f = c.previous_corner-f.ensures.value;
      is_r = c.is_passed.ensures.value
          ∙ (λ i. passed_held c.args.coords.now c.args.k c.ranges.h i (start_of c.args.corners.now c.previous_corner-f.result));
    }

pub returns-then-is_passed : goal.returns-then-is_passed
returns-then-is_passed c = record { value = second_rises (seen (goal.at.returns-then-is_passed c).After-is_passed) c.if-is_passed.true }

pub returns-else-is_passed : goal.returns-else-is_passed
returns-else-is_passed c = record { value = first_rises (seen (goal.at.returns-else-is_passed c).After-is_passed) c.if-is_passed.false }

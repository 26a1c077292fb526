-- `unchecked_crossings::link_of` meets its contract.
use mathlib.Core.Path.{ap, refl, ◌∙◌}
use native.Mathlib.Omega.{arith}
use Rattle.mesh.specs.Corners.{triangle_of}
use Rattle.mesh.specs.Tests.{pair_of}
use Rattle.section.specs.Section.{VertexSet, under, rising_in, Crossing}
use Rattle.section.proofs.Turns.{held, passed_held, crosses_held, pair_inside, pair_falling, entry_fits, entry_rises}
use Rattle.section.proofs.unchecked_crossings.link_of.Goals as goal
use Rattle.section.proofs.unchecked_crossings.link_of.Goals.{Start}

-- the corner is a crossing of the height that the code holds
crosses : (s : Start) → Crossing (under s.args.coords.now (held s.args.h) s.args.k) s.args.corners.now s.args.c
crosses s = crosses_held s.args.coords.now s.args.corners.now s.args.k s.ranges.h s.requires.fact_3

pub bounds-pairing-c : goal.bounds-pairing-c
bounds-pairing-c c = (c.requires.fact_2.each c.args.c c.requires.fact_3.below).there

pub rising_beside-requires : goal.rising_beside-requires
rising_beside-requires c =
    let x = crosses (goal.at.rising_beside-requires c).Start in record {
      fact_1 = c.requires.fact_1;
      fact_2 = pair_inside _ c.requires.fact_2 x refl;
      fact_3 = pair_falling _ c.requires.fact_2 x refl;
    }

pub overflow_cast-result : goal.overflow_cast-result
overflow_cast-result c =
    omega (arith, entry_fits _ c.requires.fact_2 (crosses (goal.at.overflow_cast-result c).Start) refl c.rising_beside.ensures.value)

pub returns : goal.returns
returns c =
    let a = c.args in record {
      value = entry_rises (under a.coords.now a.h a.k) _ _ a.c c.requires.fact_3.upward refl
          (c.rising_beside.ensures.value
          ∙ ap (λ (p : VertexSet). rising_in p a.corners.now (triangle_of (pair_of a.pairing.now a.c)))
          (passed_held a.coords.now a.k c.ranges.h));
    }

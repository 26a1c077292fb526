-- `unchecked_crossings::is_rising` meets its contract.
use mathlib.Core.Path.{ap, refl, ◌∙◌}
use Rattle.section.specs.Section.{VertexSet, under, rising}
use Rattle.section.proofs.Turns.{held, passed_held, rises_is}
use Rattle.section.proofs.unchecked_crossings.is_rising.Goals as goal

pub returns : goal.returns
returns c =
    let a = c.args in record {
      value = rises_is (under a.coords.now (held a.h) a.k) _ _
          c.next_corner-n.ensures.value refl refl c.leads_up.ensures.value
          ∙ ap (λ (p : VertexSet). rising p a.corners.now a.c) (passed_held a.coords.now a.k c.ranges.h);
    }

-- `unchecked_crossings::entry_of` meets its contract.
use mathlib.Core.Path.{ap, sym, ◌∙◌}
use Rattle.section.specs.Section.{VertexSet, ring_entry}
use Rattle.section.proofs.Turns.{passed_held, entry_none}
use Rattle.section.proofs.unchecked_crossings.entry_of.Goals as goal

pub returns-else-is_rising : goal.returns-else-is_rising
returns-else-is_rising c =
    let a = c.args in record {
      value = entry_none _ _ a.pairing.now a.c (sym c.is_rising.ensures.value ∙ c.if-is_rising.false)
          ∙ ap (λ (p : VertexSet). ring_entry p a.corners.now a.pairing.now a.c) (passed_held a.coords.now a.k c.ranges.h);
    }

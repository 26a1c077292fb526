-- `unchecked_crossings::entry_between` meets its contract.
use mathlib.Core.Path.{sym, ◌∙◌}
use Rattle.section.specs.Section.{under, Crossing}
use Rattle.section.proofs.SectionLaws.{and_not_of}
use Rattle.section.proofs.Turns.{crosses_held, entry_none, between_rises, between_level}
use Rattle.section.proofs.unchecked_crossings.entry_between.Goals as goal
use Rattle.section.proofs.unchecked_crossings.entry_between.Goals.{else-start-via-then-start+else-not-end, else-start-via-else-start}

pub link_of-requires : goal.link_of-requires
link_of-requires c =
    let a = c.args in
    let up = between_rises _ _ a.pairing.now c.requires.fact_3 (and_not_of _ _ c.if-start.true c.if-not-end.true) in
    let crossing : Crossing (under a.coords.now a.h a.k) a.corners.now a.c =
    record { below = c.requires.fact_3.corner; upward = up } in record {
      fact_1 = c.requires.fact_1;
      fact_2 = c.requires.fact_2;
      fact_3 = crosses_held a.coords.now a.corners.now a.k c.ranges.h crossing;
    }

pub returns-else-start : goal.returns-else-start
returns-else-start c = record {
  value = elim c.else-start.branch [
    | else-start-via-then-start+else-not-end w ↦ between_level _ _ _ c.requires.fact_3 (w.if-start.true ∙ sym w.if-not-end.false)
    | else-start-via-else-start w ↦ entry_none _ _ _ c.args.c (between_rises _ _ c.args.pairing.now c.requires.fact_3 (simp w.if-start.false))
  ];
}

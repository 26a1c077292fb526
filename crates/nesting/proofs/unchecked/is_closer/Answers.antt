-- `unchecked::is_closer` meets its contract: any contour is closer than none; else the area of q is found and compared.
use Rattle.nesting.proofs.Meetings.{fetched_run, fetched_size, parent_there, closer_none, closer_than}
use Rattle.nesting.proofs.unchecked.is_closer.Goals as goal

pub absolute_area-requires : goal.absolute_area-requires
absolute_area-requires c =
    let asked = c.requires in
    (fetched_run asked.0 (parent_there asked.1 c.if-q-eq-NO_PARENT.false) c.contour.ensures.value).0

pub returns-then-q-eq-NO_PARENT : goal.returns-then-q-eq-NO_PARENT
returns-then-q-eq-NO_PARENT c = record { value = closer_none _ _ _ c.if-q-eq-NO_PARENT.true }

pub returns-else-q-eq-NO_PARENT : goal.returns-else-q-eq-NO_PARENT
returns-else-q-eq-NO_PARENT c =
    let asked = c.requires in
    record {
      value = closer_than _ _ _ c.if-q-eq-NO_PARENT.false
          (fetched_size asked.0 (parent_there asked.1 c.if-q-eq-NO_PARENT.false) c.contour.ensures.value c.absolute_area.ensures.value);
    }

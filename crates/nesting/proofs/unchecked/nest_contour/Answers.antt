-- `unchecked::nest_contour` meets its contract: it fetches contour j, its extent and its size, which `meet_all` asks for.
use Rattle.nesting.proofs.Meetings.{fetched_run}
use Rattle.nesting.proofs.Holding.{holder_of}
use Rattle.nesting.proofs.unchecked.nest_contour.Goals as goal

pub extent_of-e-requires : goal.extent_of-e-requires
extent_of-e-requires c = fetched_run c.requires.0 c.requires.1 c.contour-c.ensures.value

pub absolute_area-size-requires : goal.absolute_area-size-requires
absolute_area-size-requires c = (fetched_run c.requires.0 c.requires.1 c.contour-c.ensures.value).0

pub meet_all-requires : goal.meet_all-requires
meet_all-requires c =
    let extent = c.extent_of-e.ensures.value in
    (holder_of c.requires.0 c.requires.1 c.contour-c.ensures.value extent c.absolute_area-size.ensures.value, c.requires.2)

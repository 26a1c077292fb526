-- `unchecked::move_contour` meets its contract.
use Rattle.clean_contour.proofs.Contours.{contour_dropped}
use Rattle.clean_contour.proofs.unchecked.move_contour.Goals as goal

pub returns-then-last-from : goal.returns-then-last-from
returns-then-last-from c = record { outcome = contour_dropped c.clean_end-last.ensures.found c.if-last-from.true }

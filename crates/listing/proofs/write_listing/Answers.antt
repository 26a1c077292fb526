-- `write_listing` meets its contract.
use mathlib.Core.Path.{ap}
use Rattle.list_part.specs.Listing.{tell_list}
use Rattle.list_part.specs.ListingLaws.{written}
use Rattle.listing.proofs.Reading.{front_length}
use Rattle.listing.proofs.write_listing.Goals as goal

pub slice_bounds-output-end : goal.slice_bounds-output-end
slice_bounds-output-end g c = (written c.list.ensures.outcome (ap tell_list c.in-Some.is)).within

pub slice_bounds-write_all-end : goal.slice_bounds-write_all-end
slice_bounds-write_all-end g c = front_length _ _ (written c.list.ensures.outcome (ap tell_list c.in-Some.is)).within

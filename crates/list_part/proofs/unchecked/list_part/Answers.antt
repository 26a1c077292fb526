-- `unchecked::list_part` meets its contract.
use Prim.Native.Nat.{◌≤◌}
use mathlib.Core.Path.{ap}
use lib.ListN.{length}
use Rattle.mesh.specs.Refusals.{tell_verdict}
use Rattle.list_part.proofs.Parts.{front_length, listable_part, pairing_room, workable, put_listing, put_refusal}
use Rattle.list_part.proofs.unchecked.list_part.Goals as goal
use Rattle.list_part.proofs.unchecked.list_part.Goals.{In_default}

pub returns-in-Err : goal.returns-in-Err
returns-in-Err c =
    record { outcome = put_refusal _ c.part_test.ensures.outcome (ap tell_verdict c.in-Err.is) c.write_refusal.ensures.outcome }

-- the pairing has room for the corners, where the tests refuse nothing
room : (c : In_default) → length c.args.corners.now ≤ length c.part_test.new.pairing
room c = pairing_room _ c.part_test.ensures.outcome (ap tell_verdict c.in_default.is) c.part_test.auto.pairing c.requires.fact_1.pairing_size

pub slice_bounds-list_layers-end : goal.slice_bounds-list_layers-end
slice_bounds-list_layers-end c = room c

pub slice_bounds-list_layers-end-2 : goal.slice_bounds-list_layers-end-2
slice_bounds-list_layers-end-2 c = front_length _ _ (room c)

pub list_layers-requires : goal.list_layers-requires
list_layers-requires c =
    let tested = c.part_test.ensures.outcome in
    let nothing = ap tell_verdict c.in_default.is in
    record {
      fact_1 = (listable_part _ tested nothing).listable;
      fact_2 = workable _ tested nothing c.requires.fact_1;
      fact_3 = c.requires.fact_2;
    }

pub returns : goal.returns
returns c =
    record { outcome = put_listing _ c.part_test.ensures.outcome (ap tell_verdict c.in_default.is) c.list_layers.ensures.outcome }

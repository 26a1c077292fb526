-- `work_room_for` meets its contract.
use Rattle.all_layers.proofs.Filing.{room_short, room_long}
use Rattle.all_layers.proofs.work_room_for.Goals as goal

pub returns-then-cut_room_for : goal.returns-then-cut_room_for
returns-then-cut_room_for c = record { value = room_long _ _ _ c.cut_room_for.ensures.value c.if-cut_room_for.true }

pub returns-else-cut_room_for : goal.returns-else-cut_room_for
returns-else-cut_room_for c = record { value = room_short _ _ _ c.cut_room_for.ensures.value c.if-cut_room_for.false }

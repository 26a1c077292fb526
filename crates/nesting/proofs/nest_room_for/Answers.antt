-- `nest_room_for` meets its contract.
use Rattle.nesting.proofs.Answers.{depths_short, depths_enough}
use Rattle.nesting.proofs.nest_room_for.Goals as goal

pub returns-then-contours-depths : goal.returns-then-contours-depths
returns-then-contours-depths c = record { value = depths_enough _ _ _ c.if-contours-depths.true }

pub returns-else-contours-depths : goal.returns-else-contours-depths
returns-else-contours-depths c = record { value = depths_short _ _ _ c.if-contours-depths.false }

-- `check_contours` meets its contract: the loop keeps the room that is left, and the areas up to there.
use Prim.Native.Nat.{◌-◌}
use Rattle.file_check.proofs.ContourSteps.{ContoursChecked}
use Rattle.file_check.proofs.unchecked_position.check_contours.Given as goal

abbrev pub invariant-loop : goal.invariant-loop
invariant-loop l = ContoursChecked l.profile l.file l.at l.count l.room l.sum l.i (l.count - l.counter)

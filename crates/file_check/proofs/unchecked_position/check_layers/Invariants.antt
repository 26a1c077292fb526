-- `check_layers` meets its contract.
use Prim.Native.Nat.{◌-◌}
use Rattle.file_check.specs.Answers.{levels_at}
use Rattle.file_check.proofs.LayerSteps.{LayerRun}
use Rattle.file_check.proofs.unchecked_position.check_layers.Given as goal

abbrev pub invariant-loop : goal.invariant-loop
invariant-loop l = LayerRun l.profile l.file (levels_at l.profile l.count l.low l.file l.at) l.last l.i (l.count - l.counter)

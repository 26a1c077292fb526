-- `unchecked::move_layer` meets its contract.
use lib.ListN.{take}
use Rattle.clean_layers.proofs.Filling.{Filling}
use Rattle.clean_layers.proofs.unchecked.move_layer.Given as goal

abbrev pub invariant-loop-j : goal.invariant-loop-j
invariant-loop-j l = Filling l.initial.points (take l.contours l.initial.ends) l.initial.points l.initial.ends l.points l.ends l.from l.at l.kept l.j

-- `unchecked::copy_layer` meets its contract.
use Rattle.clean_layers.proofs.Filling.{Filling}
use Rattle.clean_layers.proofs.unchecked.copy_layer.Given as goal

abbrev pub invariant-loop-end : goal.invariant-loop-end
invariant-loop-end l =
    Filling l.points l.ends l.initial.cleanpoints l.initial.cleanends l.cleanpoints l.cleanends l.from l.at l.kept l.end-index

-- `fill_layer` meets its contract.
use Rattle.polygons.specs.Flat.{flat}
use Rattle.read_layer.proofs.LayerFills.{LayerFilling}
use Rattle.read_layer.proofs.unchecked.fill_layer.Given as goal

abbrev pub invariant-loop-c : goal.invariant-loop-c
invariant-loop-c l = LayerFilling l.file l.at (flat l.initial.points l.initial.ends) l.count (flat l.points l.ends) l.i l.done l.c

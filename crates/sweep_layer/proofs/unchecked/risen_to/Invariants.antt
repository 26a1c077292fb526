-- `unchecked::risen_to` meets its contract.
use Rattle.sweep_layer.proofs.Rising.{RiseGoesOn}
use Rattle.sweep_layer.proofs.unchecked.risen_to.Given as goal

abbrev pub invariant-loop-p : goal.invariant-loop-p
invariant-loop-p l = RiseGoesOn l.coords l.order l.h l.n l.p

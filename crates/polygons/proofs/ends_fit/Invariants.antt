-- `ends_fit` meets its contract.
use Rattle.polygons.proofs.Testing.{EndsPassed}
use Rattle.polygons.proofs.ends_fit.Given as goal

abbrev pub invariant-loop-end : goal.invariant-loop-end
invariant-loop-end l = EndsPassed l.ends l.n l.a l.end-index

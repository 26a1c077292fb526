-- `unchecked_rings::seek` meets its contract.
use Rattle.cut_trace.specs.Walks.{Sought}
use Rattle.cut_trace.proofs.unchecked_rings.seek.Given as goal

abbrev pub invariant-loop-d : goal.invariant-loop-d
invariant-loop-d l = Sought l.n l.links l.c l.d

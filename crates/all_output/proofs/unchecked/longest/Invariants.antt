-- `unchecked::longest` meets its contract.
use Rattle.all_sweep.specs.Works.{taken}
use Rattle.all_output.proofs.Bounding.{Bounding}
use Rattle.all_output.proofs.unchecked.longest.Given as goal

abbrev pub invariant-loop-k : goal.invariant-loop-k
invariant-loop-k l = Bounding (taken l.levels) l.crossings l.k l.total

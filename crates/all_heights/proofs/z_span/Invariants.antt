-- The invariant: low and high are those of the vertices passed.
use Rattle.all_heights.proofs.Scans.{Spanned}
use Rattle.all_heights.proofs.z_span.Given as goal

abbrev pub invariant-loop-v : goal.invariant-loop-v
invariant-loop-v l = Spanned l.coords l.low l.high l.v

-- `unchecked::fill` meets its contract. The invariant: the entries passed are x.
use Rattle.std.proofs.Common.{◌≡◌, take}
use Rattle.laws.specs.Tables.{refill}
use Rattle.mesh.proofs.unchecked.fill.Given as goal

abbrev pub invariant-loop-e : goal.invariant-loop-e
invariant-loop-e g l = l.e-items ≡ refill l.e-index (λ k. l.x) (take l.n l.fn.t)

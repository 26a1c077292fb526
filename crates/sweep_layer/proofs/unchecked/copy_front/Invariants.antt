-- `unchecked::copy_front` meets its contract. The invariant: the entries passed are copied.
use mathlib.Core.Path.{◌≡◌}
use lib.ListN.{get_or}
use Rattle.laws.specs.Tables.{refill}
use Rattle.sweep_layer.proofs.unchecked.copy_front.Given as goal

abbrev pub invariant-loop-i : goal.invariant-loop-i
invariant-loop-i l = l.to ≡ refill l.i (λ c. get_or l.from c 0) l.initial.to

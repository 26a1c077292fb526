-- `unchecked_order::rank_of` meets its contract: r counts the vertices below u that stand before v.
use Prim.Native.Nat.{◌≤◌}
use mathlib.Core.Path.{◌≡◌}
use Rattle.laws.specs.Count.{count}
use Rattle.mesh.specs.Order.{before}
use Rattle.mesh_tables.proofs.unchecked_order.rank_of.Given as goal

abbrev pub invariant-loop-u : goal.invariant-loop-u
invariant-loop-u l = (l.u ≤ l.n) × (l.r ≤ l.u) × (l.r ≡ count l.u (λ w. before l.coords w l.v))

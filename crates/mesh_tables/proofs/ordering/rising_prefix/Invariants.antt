-- `ordering::rising_prefix` meets its contract: every entry below m rises.
use Prim.Native.Nat.{ℕ, ◌<◌, ◌≤◌}
use mathlib.Core.Path.{◌≡◌}
use mathlib.Core.Bool.{true}
use Rattle.mesh_tables.specs.Rising.{rises_at}
use Rattle.mesh_tables.proofs.ordering.rising_prefix.Given as goal

abbrev pub invariant-loop-m : goal.invariant-loop-m
invariant-loop-m l = (l.m ≤ l.n) × ((k : ℕ) → k < l.m → rises_at l.coords l.order k ≡ true)

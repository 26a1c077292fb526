-- `unchecked_rings::trace` meets its contract.
use Prim.Native.Nat.{◌-◌, ◌<◌}
use mathlib.Core.Path.{◌≡◌}
use lib.ListN.{get_or}
use Rattle.section.specs.Section.{no_corner}
use Rattle.cut_trace.proofs.RingsTraced.{RingsTraced}
use Rattle.cut_trace.proofs.unchecked_rings.trace.Given as goal

abbrev pub invariant-loop-c : goal.invariant-loop-c
invariant-loop-c l =
    RingsTraced l.n l.initial.links l.initial.names l.initial.ends l.links l.names l.ends l.c l.k l.j
    × (l.c < l.n → get_or l.links l.c 0 ≡ no_corner → ⊥)

abbrev pub decreases-loop-c : goal.decreases-loop-c
decreases-loop-c l = l.n - l.c

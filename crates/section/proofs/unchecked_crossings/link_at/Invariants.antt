-- `unchecked_crossings::link_at` meets its contract.
use Prim.Native.Nat.{◌*◌}
use mathlib.Core.Path.{◌≡◌}
use Rattle.laws.specs.Tables.{refill}
use Rattle.section.specs.Section.{under, ring_entry}
use Rattle.section.proofs.unchecked_crossings.link_at.Given as goal

abbrev pub invariant-loop-t : goal.invariant-loop-t
invariant-loop-t l = l.ring ≡ refill (3 * l.t) (ring_entry (under l.coords l.h 0) l.corners l.pairing) l.initial.ring

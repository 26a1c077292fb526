-- `unchecked_crossings::link` meets its contract.
use mathlib.Core.Path.{◌≡◌}
use Rattle.laws.specs.Tables.{refill}
use Rattle.section.specs.Section.{under, ring_entry}
use Rattle.section.proofs.unchecked_crossings.link.Given as goal

abbrev pub invariant-loop-c : goal.invariant-loop-c
invariant-loop-c l = l.ring ≡ refill l.c (ring_entry (under l.coords l.h l.k) l.corners l.pairing) l.initial.ring

-- `unchecked::relink` meets its contract.
use mathlib.Core.Path.{◌≡◌}
use Rattle.laws.specs.Tables.{refill}
use Rattle.section.specs.Section.{under}
use Rattle.sweep.specs.Sweep.{relinked}
use Rattle.sweep.proofs.unchecked.relink.Given as goal

abbrev pub invariant-loop-c : goal.invariant-loop-c
invariant-loop-c l = l.ring ≡ refill l.c (relinked (under l.coords l.h l.k) l.corners l.pairing l.w l.initial.ring) l.initial.ring

-- `unchecked_crossings::is_passed` meets its contract.
use Rattle.section.proofs.Turns.{passed_low, passed_high_lem, passed_level}
use Rattle.section.proofs.unchecked_crossings.is_passed.Goals as goal

pub returns-then-z-h : goal.returns-then-z-h
returns-then-z-h c =
    let a = c.args in record { value = passed_low a.coords.now a.h a.k a.v c.z-1.given c.ranges.h c.if-z-h.true }

pub returns-then-h-z : goal.returns-then-h-z
returns-then-h-z c =
    let a = c.args in record { value = passed_high_lem a.coords.now a.h a.k a.v c.z-1.given c.ranges.h c.if-z-h.false c.if-h-z.true }

pub returns-else-h-z : goal.returns-else-h-z
returns-else-h-z c =
    let a = c.args in record { value = passed_level a.coords.now a.h a.k a.v c.z-1.given c.ranges.h c.if-z-h.false c.if-h-z.false }

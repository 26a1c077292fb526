-- `unchecked_rings::walk` meets its contract.
use mathlib.Core.Path.{refl, ap}
use native.Mathlib.Omega.{arith}
use Rattle.std.specs.Prelude.{Ok}
use Rattle.cut_trace.proofs.RingWalking.{walking_start, names_length, c_inside, c_small, k_inside, d_inside}
use Rattle.cut_trace.proofs.RingWalking.{walking_next, walking_end, never_met}
use Rattle.cut_trace.proofs.unchecked_rings.walk.Goals as goal

pub loop-start-init : goal.loop-start-init
loop-start-init c = walking_start c.requires

pub offset_bounds-links-c : goal.offset_bounds-links-c
offset_bounds-links-c c = omega (arith, c_small c.loop-start.invariant)

pub bounds-links-c : goal.bounds-links-c
bounds-links-c c = c_inside c.loop-start.invariant

pub overflow_cast-names : goal.overflow_cast-names
overflow_cast-names c = omega (arith, c_small c.loop-start.invariant)

pub offset_bounds-names-k : goal.offset_bounds-names-k
offset_bounds-names-k c = let l = k_inside c.loop-start.invariant in omega arith

pub bounds-names-k : goal.bounds-names-k
bounds-names-k c = k_inside c.loop-start.invariant

pub offset_bounds-links-c-in-loop-start : goal.offset_bounds-links-c-in-loop-start
offset_bounds-links-c-in-loop-start c = omega (arith, c_small c.loop-start.invariant)

pub bounds-links-c-in-loop-start : goal.bounds-links-c-in-loop-start
bounds-links-c-in-loop-start c = c_inside c.loop-start.invariant

pub overflow_add-k : goal.overflow_add-k
overflow_add-k c = let l = k_inside c.loop-start.invariant in omega arith

pub returns-then-d-start : goal.returns-then-d-start
returns-then-d-start c =
    let e = walking_end c.loop-start.invariant refl c.if-d-start.true in
    record { value = ap Ok e.0; names_left = e.1.0; links_left = e.1.1 }

pub bounds-links-d : goal.bounds-links-d
bounds-links-d c = d_inside c.loop-start.invariant refl

pub returns-then-links-d : goal.returns-then-links-d
returns-then-links-d c =
    absurd (never_met (walking_next c.loop-start.invariant refl c.if-d-start.false) c.if-links-d.true)

pub loop-start-smaller : goal.loop-start-smaller
loop-start-smaller c =
    omega (arith, k_inside c.loop-start.invariant, names_length c.loop-start.invariant)

pub loop-start-preserved : goal.loop-start-preserved
loop-start-preserved c =
    walking_next c.loop-start.invariant refl c.if-d-start.false

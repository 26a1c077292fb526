-- `unchecked_rings::trace` meets its contract.
use Prim.Native.Nat.{ℕ, ◌+◌}
use mathlib.Core.Path.{◌≡◌}
use native.Mathlib.Omega.{arith}
use lib.ListN.{set}
use Rattle.std.specs.Prelude.{Result, Ok}
use Rattle.cut_trace.specs.declared.UsedCrossing.{UsedCrossing}
use Rattle.cut_trace.proofs.RingsTraced.{RingsTraced, tracing_start, tracing_pass, links_length, walkable, end_few, tracing_ring, traced}
use Rattle.cut_trace.proofs.unchecked_rings.trace.Goals as goal
use Rattle.cut_trace.proofs.unchecked_rings.trace.Goals.{In-Ok}

end_same : {r : Result ℕ UsedCrossing} {a b : ℕ} → r ≡ Ok a → r ≡ Ok b → a ≡ b
end_same p q = cc

-- after the walk of corner c
walked : (c : In-Ok)
    → RingsTraced c.args.n c.args.links.now c.args.names.now c.args.ends.now
    c.walk.new.links c.walk.new.names (set c.loop-c.ends c.loop-c.j c.in-Ok.end) (c.loop-c.c + 1) c.in-Ok.end (c.loop-c.j + 1)
walked c =
    let inv = c.loop-c.invariant in
    let w = c.walk.ensures in
    tracing_ring inv.0 c.loop-c-test.true (inv.1 c.loop-c-test.true) w.names_left w.links_left (end_same c.in-Ok.is w.value)

pub loop-c-init : goal.loop-c-init
loop-c-init c =
    (tracing_pass (tracing_start c.requires) c.seek-c.ensures.sought, c.seek-c.ensures.result)

pub walk-requires : goal.walk-requires
walk-requires c =
    let inv = c.loop-c.invariant in
    walkable inv.0 c.loop-c-test.true (inv.1 c.loop-c-test.true)

pub overflow_cast-ends : goal.overflow_cast-ends
overflow_cast-ends c =
    let inv = c.loop-c.invariant in
    let is = end_same c.in-Ok.is c.walk.ensures.value in
    omega (arith, is, end_few inv.0 c.loop-c-test.true (inv.1 c.loop-c-test.true), inv.0.given.few)

pub seek-c-requires-in-loop-c : goal.seek-c-requires-in-loop-c
seek-c-requires-in-loop-c c =
    let w = walked (goal.at.seek-c-requires-in-loop-c c).In-Ok in
    record { begins = w.upto; few = w.given.few; there = omega (arith, w.given.links_room, links_length w) }

pub loop-c-preserved : goal.loop-c-preserved
loop-c-preserved c =
    (tracing_pass (walked (goal.at.loop-c-preserved c).In-Ok) c.seek-c-in-loop-c.ensures.sought, c.seek-c-in-loop-c.ensures.result)

pub returns : goal.returns
returns c =
    let done = traced c.loop-c.invariant.0 c.loop-c-test.false c.fill.ensures.left in
    record { value = done.0; names_left = done.1.0; ends_left = done.1.1.0; links_left = done.1.1.1 }

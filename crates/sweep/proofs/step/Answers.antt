-- `step` meets its contract.
use mathlib.Core.Path.{◌≡◌, refl, ap}
use native.Mathlib.Omega.{arith}
use lib.ListN.{length}
use mir.Syntax.{w32}
use Rattle.laws.specs.Machine.{same}
use Rattle.mesh.specs.Corners.{vertex_count}
use Rattle.mesh.specs.Meshes.{ordered}
use Rattle.mesh.specs.Order.{Ranked}
use Rattle.mesh.specs.Refusals.{tell_verdict}
use Rattle.mesh.proofs.Raising.{raised}
use Rattle.sweep.specs.Sweep.{Sweep, sweep}
use Rattle.sweep.specs.Places.{StepTested}
use Rattle.sweep.proofs.Operating.{steps_refused, step_passed, steps_top, next_ranked, steps_taken}
use Rattle.sweep.proofs.step.Goals as goal
use Rattle.sweep.proofs.step.Goals.{In_ok-step_test}

-- where the tests refuse nothing, the parts that they establish
tested : (c : In_ok-step_test)
    → StepTested (ordered c.args.coords.now c.args.corners.now c.args.pairing.now c.args.order.now) (length c.args.ring.now) c.args.state.passed
tested c =
    let s : Sweep = sweep (ordered c.args.coords.now c.args.corners.now c.args.pairing.now c.args.order.now) c.args.ring.now c.args.state.passed in
    step_passed s c.step_test.ensures.told (ap tell_verdict c.in_ok-step_test.was)

-- the next vertex, where there is one
ranked : (c : In_ok-step_test)
    → (c.args.state.passed ≡ vertex_count c.args.coords.now → ⊥) → Ranked c.args.coords.now c.args.order.now c.args.state.passed
ranked c =
    let s : Sweep = sweep (ordered c.args.coords.now c.args.corners.now c.args.pairing.now c.args.order.now) c.args.ring.now c.args.state.passed in
    next_ranked s c.step_test.ensures.told (ap tell_verdict c.in_ok-step_test.was)

pub returns-in_err-step_test : goal.returns-in_err-step_test
returns-in_err-step_test c = record {
  outcome = steps_refused _ c.step_test.ensures.told (ap tell_verdict c.in_err-step_test.was) (raised _ c.from_residual.ensures.1);
}

pub returns-then-n-coords : goal.returns-then-n-coords
returns-then-n-coords c = record { outcome = steps_top _ c.step_test.ensures.told (ap tell_verdict c.in_ok-step_test.was) c.if-n-coords.true }

pub offset_bounds-order-n : goal.offset_bounds-order-n
offset_bounds-order-n c = let r = ranked (goal.at.offset_bounds-order-n c).In_ok-step_test c.if-n-coords.false in omega (arith, r.there)

pub bounds-order-n : goal.bounds-order-n
bounds-order-n c = (ranked (goal.at.bounds-order-n c).In_ok-step_test c.if-n-coords.false).there

pub bounds-coords-w : goal.bounds-coords-w
bounds-coords-w c = omega (arith, (ranked (goal.at.bounds-coords-w c).In_ok-step_test c.if-n-coords.false).vertex)

pub relink-requires : goal.relink-requires
relink-requires c =
    let t = tested (goal.at.relink-requires c).In_ok-step_test in
    record { fact_1 = t.placed.right.named; fact_2 = t.placed.right.linked; fact_3 = t.long }

pub overflow_add-result : goal.overflow_add-result
overflow_add-result c =
    let r = ranked (goal.at.overflow_add-result c).In_ok-step_test c.if-n-coords.false in
    omega (arith, r.there)

pub returns : goal.returns
returns c =
    let s : Sweep = sweep (ordered c.args.coords.now c.args.corners.now c.args.pairing.now c.args.order.now) c.args.ring.now c.args.state.passed in
    record {
      outcome = steps_taken s c.step_test.ensures.told (ap tell_verdict c.in_ok-step_test.was)
          c.if-n-coords.false refl (same w32 _ c.z-1.given) refl c.relink.ensures.left;
    }

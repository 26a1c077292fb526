-- `unchecked::sweep_test` meets its contract: 8, 10, 11 and 12 in turn.
use mathlib.Core.Path.{ap, ◌∙◌}
use mathlib.Core.List.{List, [], ◌∷◌}
use lib.IntN.{ℤ}
use mir.Syntax.{w32}
use mir.ValLaws.{to_z-of_z}
use Rattle.mesh.specs.Meshes.{ordered}
use Rattle.mesh.specs.Operation.{Condition, test}
use Rattle.mesh.specs.OperationLaws.{join_stop, join_next, verdict_stop, verdict_next, verdict_one}
use Rattle.mesh.specs.Refusals.{Told, tell_verdict}
use Rattle.mesh.proofs.Raising.{handed_on}
use Rattle.sweep.specs.declared.SweepTest.TheVariants.{Height}
use Rattle.sweep.specs.Sweep.{Sweep, sweep}
use Rattle.sweep.specs.Operations.{wrong_ring, not_above, state_tests}
use Rattle.sweep.specs.SweepTests.{sweep_condition}
use Rattle.sweep.specs.Places.{Placed}
use Rattle.sweep_layer.proofs.Lifting.{placed_of}
use Rattle.sweep_layer.proofs.unchecked.sweep_test.Goals as goal
use Rattle.sweep_layer.proofs.unchecked.sweep_test.Goals.{In_ok-state_test, Start}

abbrev sweep_of : Start → Sweep
sweep_of start =
    sweep (ordered start.args.coords.now start.args.corners.now start.args.pairing.now start.args.order.now)
    start.args.ring.now start.args.n

abbrev first : Start → List (Condition Told)
first start = state_tests start.args.coords.now start.args.order.now start.args.n

abbrev second : Start → List (Condition Told)
second start = wrong_ring (sweep_of start) ∷ not_above start.args.coords.now start.args.order.now start.args.n start.args.h ∷ []

-- what 8 and 10 establish
placed : (c : In_ok-state_test)
    → Placed (ordered c.args.coords.now c.args.corners.now c.args.pairing.now c.args.order.now) c.args.n
placed c =
    placed_of (ordered c.args.coords.now c.args.corners.now c.args.pairing.now c.args.order.now) c.args.n c.requires
    c.state_test.ensures.told (ap tell_verdict c.in_ok-state_test.was)

pub returns-in_err-state_test : goal.returns-in_err-state_test
returns-in_err-state_test c =
    let start = (goal.at.returns-in_err-state_test c).Start in
    record {
      told = ap tell_verdict (handed_on c.in_err-state_test.was c.from_residual.ensures.1)
          ∙ join_stop (first start) (second start) c.state_test.ensures.told (ap tell_verdict c.in_err-state_test.was);
    }

pub one_sweep_test-requires : goal.one_sweep_test-requires
one_sweep_test-requires c = placed c

pub returns-in_err-one_sweep_test : goal.returns-in_err-one_sweep_test
returns-in_err-one_sweep_test c =
    let start = (goal.at.returns-in_err-one_sweep_test c).Start in
    record {
      told = ap tell_verdict (handed_on c.in_err-one_sweep_test.was c.from_residual-in_err-one_sweep_test.ensures.1)
          ∙ join_next (first start) (second start) c.state_test.ensures.told (ap tell_verdict c.in_ok-state_test.was)
          (verdict_stop _ _ c.one_sweep_test.ensures.told (ap tell_verdict c.in_err-one_sweep_test.was));
    }

pub one_sweep_test-requires-2 : goal.one_sweep_test-requires-2
one_sweep_test-requires-2 c =
    let p = placed (goal.at.one_sweep_test-requires-2 c).In_ok-state_test in
    (p.few, p.ranked)

pub returns : goal.returns
returns c =
    let start = (goal.at.returns c).Start in
    record {
      told = join_next (first start) (second start) c.state_test.ensures.told (ap tell_verdict c.in_ok-state_test.was)
          (verdict_next _ _ c.one_sweep_test.ensures.told (ap tell_verdict c.in_ok-one_sweep_test.was)
          (c.one_sweep_test-2.ensures.told ∙ ap (λ (z : ℤ). test (sweep_condition Height (sweep_of start) z)) (to_z-of_z w32 c.args.h c.ranges.h)
          ∙ verdict_one _));
    }

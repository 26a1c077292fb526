-- `layer` meets its contract.
use mathlib.Core.Path.{◌≡◌, ap}
use Rattle.mesh.specs.Meshes.{ordered}
use Rattle.mesh.specs.Operation.{verdict}
use Rattle.mesh.specs.Refusals.{tell_verdict}
use Rattle.mesh.proofs.Raising.{raised}
use Rattle.cut.specs.Cut.{CutTables, lent, lengths_of}
use Rattle.sweep.specs.Sweep.{Sweep, sweep}
use Rattle.sweep.specs.Operations.{rise_tests}
use Rattle.sweep_layer.proofs.Lifting.{held_tests, held_tested, at_height, liftable, rises_refused, rises_lifted}
use Rattle.sweep_layer.proofs.layer.Goals as goal
use Rattle.sweep_layer.proofs.layer.Goals.{After-rise_test, Start}

abbrev sweep_of : Start → Sweep
sweep_of start =
    sweep (ordered start.args.coords.now start.args.corners.now start.args.pairing.now start.args.order.now)
    start.args.ring.now start.args.state.passed

abbrev lent_of : Start → CutTables
lent_of start = lent start.args.names.now start.args.points.now start.args.ends.now start.args.marks.now

-- what the tests find, at the height that was handed in
found : (c : After-rise_test)
    → tell_verdict c.rise_test.result
    ≡ verdict (rise_tests
    (sweep (ordered c.args.coords.now c.args.corners.now c.args.pairing.now c.args.order.now) c.args.ring.now c.args.state.passed)
    c.args.h (lengths_of (lent c.args.names.now c.args.points.now c.args.ends.now c.args.marks.now)))
found c =
    let t : CutTables = lent c.args.names.now c.args.points.now c.args.ends.now c.args.marks.now in
    held_tests (sweep (ordered c.args.coords.now c.args.corners.now c.args.pairing.now c.args.order.now) c.args.ring.now c.args.state.passed)
    c.ranges.h (lengths_of t) c.rise_test.ensures.told

pub returns-in_err-rise_test : goal.returns-in_err-rise_test
returns-in_err-rise_test c =
    let at = goal.at.returns-in_err-rise_test c in
    record {
      outcome = rises_refused (sweep_of at.Start) c.args.h (lent_of at.Start) (found at.After-rise_test) (ap tell_verdict c.in_err-rise_test.was)
          (raised _ c.from_residual.ensures.1);
    }

pub raise-requires : goal.raise-requires
raise-requires c =
    let at = goal.at.raise-requires c in
    let p = liftable (sweep_of at.Start) c.args.h (lent_of at.Start) (found at.After-rise_test) (ap tell_verdict c.in_ok-rise_test.was) in
    record { fact_1 = held_tested (sweep_of at.Start) c.ranges.h p.0; fact_2 = p.1 }

pub returns : goal.returns
returns c =
    let at = goal.at.returns c in
    record {
      outcome = rises_lifted (sweep_of at.Start) c.args.h (lent_of at.Start) (found at.After-rise_test) (ap tell_verdict c.in_ok-rise_test.was)
          (at_height (sweep_of at.Start) c.ranges.h c.raise.ensures.outcome);
    }

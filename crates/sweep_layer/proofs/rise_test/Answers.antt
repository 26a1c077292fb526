-- `rise_test` meets its contract.
use mathlib.Core.Path.{ap, ◌∙◌}
use lib.IntN.{ℤ}
use mir.Syntax.{w32}
use mir.ValLaws.{to_z-of_z}
use Rattle.mesh.specs.Meshes.{ordered}
use Rattle.mesh.specs.Operation.{verdict}
use Rattle.mesh.specs.OperationLaws.{join_stop, join_next}
use Rattle.mesh.specs.Refusals.{tell_verdict}
use Rattle.mesh.proofs.Raising.{handed_on}
use Rattle.cut.specs.Cut.{Lengths, lengths, cut_tests}
use Rattle.sweep.specs.Sweep.{Sweep, sweep}
use Rattle.sweep.specs.Operations.{sweep_tests}
use Rattle.sweep_layer.proofs.Lifting.{right_tested}
use Rattle.sweep_layer.proofs.rise_test.Goals as goal
use Rattle.sweep_layer.proofs.rise_test.Goals.{Start}

abbrev sweep_of : Start → Sweep
sweep_of start =
    sweep (ordered start.args.coords.now start.args.corners.now start.args.pairing.now start.args.order.now)
    start.args.ring.now start.args.n

abbrev room_of : Start → Lengths
room_of start = lengths start.args.names start.args.points start.args.ends start.args.marks

pub returns-in_err-tables_test : goal.returns-in_err-tables_test
returns-in_err-tables_test c =
    let start = (goal.at.returns-in_err-tables_test c).Start in
    let s = sweep_of start in
    record {
      told = ap tell_verdict (handed_on c.in_err-tables_test.was c.from_residual.ensures.1)
          ∙ join_stop (cut_tests s.ordered.paired (room_of start)) (sweep_tests s c.args.h) c.tables_test.ensures.told
          (ap tell_verdict c.in_err-tables_test.was);
    }

pub sweep_test-requires : goal.sweep_test-requires
sweep_test-requires c =
    let start = (goal.at.sweep_test-requires c).Start in
    right_tested (sweep_of start).ordered.paired (room_of start) c.tables_test.ensures.told (ap tell_verdict c.in_ok-tables_test.was)

pub returns : goal.returns
returns c =
    let start = (goal.at.returns c).Start in
    let s = sweep_of start in
    record {
      told = join_next (cut_tests s.ordered.paired (room_of start)) (sweep_tests s c.args.h) c.tables_test.ensures.told
          (ap tell_verdict c.in_ok-tables_test.was)
          (c.sweep_test.ensures.told ∙ ap (λ (z : ℤ). verdict (sweep_tests s z)) (to_z-of_z w32 c.args.h c.ranges.h));
    }

-- `layers_test` meets its contract: the tests that operations begin with, then 8 and 12.
use mathlib.Core.Path.{ap, ◌∙◌}
use Rattle.mesh.specs.Meshes.{OrderedMesh, ordered}
use Rattle.mesh.specs.Refusals.{tell_verdict}
use Rattle.mesh.proofs.Raising.{handed_on}
use Rattle.all_layers.proofs.Filing.{opening_refused, order_refused, heights_tested}
use Rattle.all_layers.proofs.layers_test.Goals as goal
use Rattle.all_layers.proofs.layers_test.Goals.{Start}

abbrev mesh_of : Start → OrderedMesh
mesh_of start = ordered start.args.coords.now start.args.corners.now start.args.pairing.now start.args.order.now

pub returns-in_err-opening_test : goal.returns-in_err-opening_test
returns-in_err-opening_test c =
    let m = mesh_of (goal.at.returns-in_err-opening_test c).Start in record {
      told = ap tell_verdict (handed_on c.in_err-opening_test.was c.from_residual.ensures.1)
          ∙ opening_refused m c.args.heights.now _ _ c.few_heights-few.ensures.value c.work_room_for-room.ensures.value c.opening_test.ensures.told
          (ap tell_verdict c.in_err-opening_test.was);
    }

pub returns-in_err-one_mesh_test : goal.returns-in_err-one_mesh_test
returns-in_err-one_mesh_test c =
    let m = mesh_of (goal.at.returns-in_err-one_mesh_test c).Start in record {
      told = ap tell_verdict (handed_on c.in_err-one_mesh_test.was c.from_residual-in_err-one_mesh_test.ensures.1)
          ∙ order_refused m c.args.heights.now _ _ c.few_heights-few.ensures.value c.work_room_for-room.ensures.value c.opening_test.ensures.told
          (ap tell_verdict c.in_ok-opening_test.was) c.one_mesh_test.ensures.told (ap tell_verdict c.in_err-one_mesh_test.was);
    }

pub returns : goal.returns
returns c =
    let m = mesh_of (goal.at.returns c).Start in record {
      told = heights_tested m c.args.heights.now _ _ c.few_heights-few.ensures.value c.work_room_for-room.ensures.value c.opening_test.ensures.told
          (ap tell_verdict c.in_ok-opening_test.was) c.one_mesh_test.ensures.told (ap tell_verdict c.in_ok-one_mesh_test.was) c.heights_test.ensures.told;
    }

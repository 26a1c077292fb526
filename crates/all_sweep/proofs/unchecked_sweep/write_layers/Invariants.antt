-- i layers are written, and the sweep stands before height i.
use lib.ListN.{length}
use Rattle.mesh.specs.Meshes.{mesh, paired}
use Rattle.all_sweep.specs.AllLayers.{work}
use Rattle.all_sweep.specs.Works.{Works, taken}
use Rattle.all_sweep.specs.Sweeps.{corner_lists, Sweeping}
use Rattle.all_sweep.specs.PassLaws.{LayersPut}
use Rattle.all_sweep.proofs.unchecked_sweep.write_layers.Given as goal

abbrev pub invariant-loop-i : goal.invariant-loop-i
invariant-loop-i l =
    let heights = taken l.levels in
    let at_first = l.initial in record {
      put : LayersPut l.profile (paired l.coords l.corners l.pairing) heights at_first.output at_first.p l.output l.p l.i;
      works : Works (length l.corners) (work at_first.names at_first.points at_first.ends at_first.marks at_first.ring)
          (work l.names l.points l.ends l.marks l.ring);
      sweeps : Sweeping (mesh l.coords l.corners) heights l.i (corner_lists l.ring l.heads l.marks l.active);
    }

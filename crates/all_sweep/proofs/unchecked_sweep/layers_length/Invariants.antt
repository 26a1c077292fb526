-- k layers are measured, and the sweep stands before height k.
use lib.ListN.{length}
use Rattle.mesh.specs.Meshes.{mesh, paired}
use Rattle.all_sweep.specs.AllLayers.{work}
use Rattle.all_sweep.specs.Works.{Works, taken}
use Rattle.all_sweep.specs.Sweeps.{corner_lists, Sweeping}
use Rattle.all_sweep.specs.PassLaws.{LayersMeasured}
use Rattle.all_sweep.proofs.unchecked_sweep.layers_length.Given as goal

abbrev pub invariant-loop-k : goal.invariant-loop-k
invariant-loop-k l =
    let heights = taken l.levels in
    let at_first = l.initial in record {
      measured : LayersMeasured l.profile (paired l.coords l.corners l.pairing) heights l.k l.total;
      works : Works (length l.corners) (work at_first.names at_first.points at_first.ends at_first.marks at_first.ring)
          (work l.names l.points l.ends l.marks l.ring);
      sweeps : Sweeping (mesh l.coords l.corners) heights l.k (corner_lists l.ring l.heads l.marks l.active);
    }

-- `unchecked_lines::list_lines` meets its contract.
use Rattle.mesh.specs.Meshes.{paired}
use Rattle.list_lines.proofs.Layers.{LinesPut}
use Rattle.list_lines.proofs.unchecked_lines.list_lines.Given as goal

abbrev pub invariant-loop-k : goal.invariant-loop-k
invariant-loop-k l = LinesPut (paired l.coords l.corners l.pairing) l.heights l.initial.output l.at l.output l.p l.k

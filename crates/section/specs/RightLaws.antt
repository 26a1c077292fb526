-- What a mesh and a pairing are that no test refuses.
use Rattle.std.specs.Prelude.{◌≡◌, true, length}
use Rattle.std.proofs.lemmas.Bool.{not-false}
use Rattle.mesh.specs.Corners.{vertex_count}
use Rattle.mesh.specs.Meshes.{PairedMesh}
use Rattle.mesh.specs.OperationLaws.{Nowhere}
use Rattle.mesh.specs.Tests.{sizes_fit, range, vertex, triangle, pairs}
use Rattle.mesh.specs.TestLaws.{sizes_whole, in_range_lem, names_vertex, proper_edge, paired_of}
use Rattle.section.specs.Section.{Right}

pub right_of : (m : PairedMesh) → sizes_fit (length m.mesh.coords) (length m.mesh.corners) ≡ true → Nowhere (range m.mesh.coords)
    → Nowhere (vertex (vertex_count m.mesh.coords) m.mesh.corners) → Nowhere (triangle m.mesh.corners)
    → Nowhere (pairs m.mesh.corners m.pairing) → Right m
right_of m s r v t p =
    let corners = m.mesh.corners in
    let w = sizes_whole (length m.mesh.coords) (length corners) s in
    record {
      named = record { whole = w; vertices = λ c l. names_vertex (vertex_count m.mesh.coords) corners c (v c l) };
      linked = record { whole = w; proper = proper_edge corners w.threes t; each = λ c l. paired_of corners m.pairing c (not-false _ (p c l)) };
      inside = λ i l. in_range_lem m.mesh.coords i (r i l);
    }

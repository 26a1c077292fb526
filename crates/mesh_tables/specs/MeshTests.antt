-- The tests of a mesh by name (1, 2, 3, 4, 7 and 8), and those that
-- every operation on a mesh with a pairing begins with (ANSWER-3).
use Rattle.std.specs.Prelude.{ℕ, Bool, not, List, [], ◌∷◌, ◌++◌}
use Rattle.mesh.specs.Corners.{vertex_count}
use Rattle.mesh.specs.Meshes.{PairedMesh, OrderedMesh}
use Rattle.mesh.specs.Operation.{Condition, whole}
use Rattle.mesh.specs.Refusals.{Told, refusal}
use Rattle.mesh.specs.Tests.{WholeTriangles, size, range, vertex, triangle, mesh_tests, pairs, orders}
use Rattle.mesh_tables.specs.declared.MeshTest.{MeshTest}
use Rattle.mesh_tables.specs.declared.MeshTest.TheVariants.{Size, Range, Vertex, Triangle, Pairing, Order}

-- the condition that each one tests
abbrev pub mesh_condition : MeshTest → OrderedMesh → Condition Told
mesh_condition Size m = size m.paired.mesh
mesh_condition Range m = range m.paired.mesh.coords
mesh_condition Vertex m = vertex (vertex_count m.paired.mesh.coords) m.paired.mesh.corners
mesh_condition Triangle m = triangle m.paired.mesh.corners
mesh_condition Pairing m = pairs m.paired.mesh.corners m.paired.pairing
mesh_condition Order m = orders m.paired.mesh.coords m.order

-- what it asks of a table of n corners: 7 is tested after 1
abbrev pub MeshAskable : MeshTest → ℕ → Type 0
MeshAskable Size n = Unit {0}
MeshAskable Range n = Unit {0}
MeshAskable Vertex n = Unit {0}
MeshAskable Triangle n = Unit {0}
MeshAskable Pairing n = WholeTriangles n
MeshAskable Order n = Unit {0}

-- 2, 3, 4 and 7
abbrev pub content_tests : PairedMesh → List (Condition Told)
content_tests m = mesh_tests m.mesh ++ (pairs m.mesh.corners m.pairing ∷ [])

-- 1, 9, 2, 3, 4 and 7: 1 also where a count besides those of the mesh is above its limit, 9 where a lent table is too short
abbrev pub opening_tests : PairedMesh → Bool → Bool → List (Condition Told)
opening_tests m few room = size m.mesh ∷ whole (refusal 1) (not few) ∷ whole (refusal 9) (not room) ∷ content_tests m

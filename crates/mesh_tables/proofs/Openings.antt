-- A test by name is the test of its condition.
use mathlib.Core.Path.{◌≡◌, sym, ap, ◌∙◌}
use Rattle.mesh.specs.Meshes.{OrderedMesh}
use Rattle.mesh.specs.Operation.{Finding, test}
use Rattle.mesh.specs.Refusals.{Told}
use Rattle.mesh_tables.specs.declared.MeshTest.{MeshTest}
use Rattle.mesh_tables.specs.MeshTests.{mesh_condition}

pub mesh_test_as : (m : OrderedMesh) {which named : MeshTest} {f : Finding Told} → which ≡ named → f ≡ test (mesh_condition named m)
    → f ≡ test (mesh_condition which m)
mesh_test_as m e t = t ∙ ap (λ (w : MeshTest). test (mesh_condition w m)) (sym e)

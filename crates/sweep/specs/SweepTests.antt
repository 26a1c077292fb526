-- The tests of a sweep by name: those of its mesh, 10 (STEP-8),
-- 11 of Step (STEP-9), 11 (LAYER-5) and 12 (LAYER-6) of Layer.
use Rattle.std.specs.Prelude.{◌≤◌, length, ℤ}
use Rattle.mesh.specs.Corners.{vertex_count}
use Rattle.mesh.specs.Operation.{Condition}
use Rattle.mesh.specs.Refusals.{Told}
use Rattle.mesh_tables.specs.MeshTests as mesh_tests
use Rattle.sweep.specs.declared.SweepTest.{SweepTest}
use Rattle.sweep.specs.declared.SweepTest.TheVariants.{Mesh, Passed, Length, Ring, Height}
use Rattle.sweep.specs.Sweep.{Sweep, mesh_of}
use Rattle.sweep.specs.Operations.{too_many, short_ring, wrong_ring, not_above}
use Rattle.sweep.specs.Places.{InOrder, Placed}

-- the condition that each one tests, of a rise to h
abbrev pub sweep_condition : SweepTest → Sweep → ℤ → Condition Told
sweep_condition (Mesh which) s h = mesh_tests.mesh_condition which s.ordered
sweep_condition Passed s h = too_many (mesh_of s).coords s.passed
sweep_condition Length s h = short_ring (mesh_of s).corners (length s.ring)
sweep_condition Ring s h = wrong_ring s
sweep_condition Height s h = not_above (mesh_of s).coords s.ordered.order s.passed h

-- what it asks: 7 is tested after 1, 11 of Layer after all of the mesh and 10, 12 after 8 and 10
abbrev pub SweepAskable : SweepTest → Sweep → Type 0
SweepAskable (Mesh which) s = mesh_tests.MeshAskable which (length (mesh_of s).corners)
SweepAskable Passed s = Unit {0}
SweepAskable Length s = Unit {0}
SweepAskable Ring s = Placed s.ordered s.passed
SweepAskable Height s = (s.passed ≤ vertex_count (mesh_of s).coords) × InOrder (mesh_of s).coords s.ordered.order

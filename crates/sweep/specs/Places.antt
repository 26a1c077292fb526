-- What the parts of the sweep ask: what the tests before them establish; and the place behind the first n vertices of the order, as a height and a number.
use Rattle.std.specs.Prelude.{ℕ, zero, suc, ◌+◌, ◌≤◌, ◌<◌, Bool, true, not, ◌&&◌, ◌≡◌, List, [], ltb, eqb, length, get_or, ℤ, negsuc, Result}
use Rattle.mesh.specs.Corners.{vertex_count, z_of}
use Rattle.mesh.specs.Meshes.{OrderedMesh}
use Rattle.mesh.specs.Operation.{Does}
use Rattle.mesh.specs.Order.{Ranked}
use Rattle.mesh.specs.declared.Refusal.{Refusal}
use Rattle.section.specs.Section.{VertexSet, below, ring_entry, Right}
use Rattle.cut.specs.Cut.{CutTables}
use Rattle.sweep.specs.declared.Risen.{Risen}
use Rattle.sweep.specs.Sweep.{Sweep, mesh_of, RingAt}
use Rattle.sweep.specs.Operations.{lifting, tell_layer}

-- below every coordinate where none is passed, else the z of the last passed vertex
unfoldable pub height_behind : List ℤ → List ℕ → ℕ → ℤ
height_behind coords order zero = negsuc 1048575
height_behind coords order (suc n) = z_of coords (get_or order n 0)

unfoldable pub number_behind : List ℕ → ℕ → ℕ
number_behind order zero = 0
number_behind order (suc n) = get_or order n 0 + 1

-- the entry of corner c is missing or not as defined for a set
unfoldable pub wrong_for : VertexSet → List ℕ → List ℕ → List ℕ → ℕ → Bool
wrong_for passed corners pairing ring c = not (ltb c (length ring) && eqb (get_or ring c 0) (ring_entry passed corners pairing c))

-- ---- what the tests establish

-- 8: the order is right
abbrev pub InOrder : List ℤ → List ℕ → Type 0
InOrder coords order = (i : ℕ) → i < vertex_count coords → Ranked coords order i

-- 1, 2, 3, 4, 7, 8 and 10: so are the mesh and the pairing, and no more are passed than there are
pub record Placed (m : OrderedMesh) (n : ℕ) : Type 0 where
  pub right : Right m.paired
  pub ranked : InOrder m.paired.mesh.coords m.order
  pub few : n ≤ vertex_count m.paired.mesh.coords

-- of Step: also 11, for a ring table of this length
pub record StepTested (m : OrderedMesh) (ring n : ℕ) : Type 0 where
  pub placed : Placed m n
  pub long : length m.paired.mesh.corners ≤ ring

-- of Layer: also 11 and 12
pub record RiseTested (s : Sweep) (h : ℤ) : Type 0 where
  pub placed : Placed s.ordered s.passed
  pub table : RingAt s
  pub low : (i : ℕ) → i < s.passed → below (mesh_of s).coords h (get_or s.ordered.order i 0) ≡ true

-- Layer where only 16 is left to test
abbrev pub Lifts : Sweep → ℤ → CutTables → Result Risen Refusal → List ℕ → CutTables → Type 0
Lifts s h t result ring' t' = Does (lifting []) tell_layer (s, h, t) result (ring', t')

-- The sweep (SWEEP-1 to SWEEP-3): the state, the ring table for a count of passed vertices, a
-- vertex step (STEP-2, STEP-3), a rise to a height (LAYER-1), and how many it passes (PLAIN-4).
use Rattle.std.specs.Prelude.{ℕ, zero, suc, ◌+◌, ◌*◌, ◌≤◌, ◌<◌, ◌≡◌, Bool, cond, ◌&&◌, ◌||◌, List, ltb, eqb, length, get_or, take, ℤ}
use Rattle.laws.specs.Count.{count}
use Rattle.laws.specs.Tables.{refill}
use Rattle.mesh.specs.Corners.{vertex_count, triangle_of, start_of}
use Rattle.mesh.specs.Meshes.{Mesh, OrderedMesh}
use Rattle.mesh.specs.Tests.{pair_of}
use Rattle.section.specs.Section.{VertexSet, below, no_corner, ring_entry}
use Rattle.section.specs.Contours.{member}

-- a mesh with its pairing and order, the ring table, and the state, the count of passed vertices (SWEEP-1)
pub record Sweep : Type 0 where
  pub ordered : OrderedMesh
  pub ring : List ℕ
  pub passed : ℕ

abbrev pub sweep : OrderedMesh → List ℕ → ℕ → Sweep
sweep m ring n = record { ordered = m; ring = ring; passed = n }

abbrev pub mesh_of : Sweep → Mesh
mesh_of s = s.ordered.paired.mesh

abbrev pub sweep_pairing : Sweep → List ℕ
sweep_pairing s = s.ordered.paired.pairing

-- the passed vertices: the first n of the order (SWEEP-1, SWEEP-2)
unfoldable pub passed_at : List ℕ → ℕ → VertexSet
passed_at order n v = member v (take n order)

-- the ring table of a fresh sweep: 4,294,967,295 in one entry for each corner (START-4); the rest stays (START-5)
unfoldable pub fresh_ring : List ℕ → List ℕ → List ℕ
fresh_ring corners ring = refill (length corners) (λ c. no_corner) ring

-- the ring table is as defined for the passed vertices (SWEEP-3)
pub record RingAt (s : Sweep) : Type 0 where
  pub long : length (mesh_of s).corners ≤ length s.ring
  pub entries : (c : ℕ) → c < length (mesh_of s).corners
      → get_or s.ring c 0 ≡ ring_entry (passed_at s.ordered.order s.passed) (mesh_of s).corners (sweep_pairing s) c

-- ---- a vertex step

-- triangle t touches vertex v (STEP-2)
unfoldable pub touches : List ℕ → ℕ → ℕ → Bool
touches corners t v = eqb (start_of corners (3 * t)) v || (eqb (start_of corners (3 * t + 1)) v || eqb (start_of corners (3 * t + 2)) v)

-- the entry of corner c once v is passed too: as defined where the paired corner belongs to a triangle touching
-- v (STEP-2), else as it was (STEP-3). 7 and 11 of Step come before it, so that both tables have the entry
unfoldable pub relinked : VertexSet → List ℕ → List ℕ → ℕ → List ℕ → ℕ → ℕ
relinked passed corners pairing v ring c =
    cond (touches corners (triangle_of (pair_of pairing c)) v) (ring_entry passed corners pairing c) (get_or ring c 0)

-- the ring table after the step that passes the next vertex of the order
-- (STEP-1 to STEP-3). 8 and "top" come before it, so that there is one
unfoldable pub step_ring : Sweep → List ℕ
step_ring s =
    let next = get_or s.ordered.order s.passed 0 in
    let passed = passed_at s.ordered.order (suc s.passed) in
    refill (length (mesh_of s).corners) (relinked passed (mesh_of s).corners (sweep_pairing s) next s.ring) s.ring

abbrev pub stepped : Sweep → Sweep
stepped s = sweep s.ordered (step_ring s) (suc s.passed)

-- ---- a rise

-- there is a next vertex, and it has z < h (LAYER-1); 8 comes before, so that the order has it
unfoldable pub may_rise : List ℤ → List ℕ → ℤ → ℕ → Bool
may_rise coords order h n = ltb n (vertex_count coords) && below coords h (get_or order n 0)

-- steps until no unpassed vertex has z < h (LAYER-1): the count and the ring table after them; m bounds the steps
unfoldable pub risen_to : List ℤ → List ℕ → ℤ → ℕ → ℕ → ℕ
risen_to coords order h zero n = n
risen_to coords order h (suc m) n = cond (may_rise coords order h n) (risen_to coords order h m (suc n)) n

unfoldable pub risen_ring : ℤ → ℕ → Sweep → List ℕ
risen_ring h zero s = s.ring
risen_ring h (suc m) s = cond (may_rise (mesh_of s).coords s.ordered.order h s.passed) (risen_ring h m (stepped s)) s.ring

-- the number of vertices with z < h (PLAIN-4)
unfoldable pub count_below : List ℤ → ℤ → ℕ
count_below coords h = count (vertex_count coords) (below coords h)

-- The section (SECTION-1 to SECTION-5, SECTION-8): given a set of vertices called passed,
-- which corners rise and fall, what succeeds a crossing; and the ring table (SWEEP-3).
use Rattle.std.specs.Prelude.{ℕ, ◌+◌, ◌*◌, ◌<◌, ◌≤◌, ◌≡◌, Bool, true, not, cond, ◌&&◌, ◌||◌, List, ltb, length, get_or, ℤ, pos, nat_abs}
use Rattle.std.specs.Int.Signed.{lt_z}
use Rattle.mesh.specs.Corners.{largest, vertex_count, triangle_of, start_of, end_of, z_of}
use Rattle.mesh.specs.Meshes.{PairedMesh}
use Rattle.mesh.specs.Tests.{WholeTriangles, pair_of, Paired}

-- ---- the passed vertices

-- a set of vertices, by number
abbrev pub VertexSet : Type 0
VertexSet = ℕ → Bool

-- for height h: those with z < h (SECTION-8); one on the plane is not passed (WRONG-10)
unfoldable pub below : List ℤ → ℤ → VertexSet
below coords h v = lt_z (z_of coords v) h

-- those that stand, by z and then by number, before the place of a vertex with z = h and number k
unfoldable pub under : List ℤ → ℤ → ℕ → VertexSet
under coords h k v = lt_z (z_of coords v) h || (not (lt_z h (z_of coords v)) && ltb v k)

-- ---- corners

-- its start is passed and its end is not (SECTION-1)
unfoldable pub rising : VertexSet → List ℕ → ℕ → Bool
rising passed corners c = passed (start_of corners c) && not (passed (end_of corners c))

-- its end is passed and its start is not (SECTION-2)
unfoldable pub falling : VertexSet → List ℕ → ℕ → Bool
falling passed corners c = passed (end_of corners c) && not (passed (start_of corners c))

-- c is below n and rises
pub record Among (n : ℕ) (rises : ℕ → Bool) (c : ℕ) : Type 0 where
  pub below : c < n
  pub upward : rises c ≡ true

-- a crossing is a rising corner (SECTION-4)
abbrev pub Crossing : VertexSet → List ℕ → ℕ → Type 0
Crossing passed corners c = Among (length corners) (rising passed corners) c

-- the rising corner of triangle t, which has one at most (SECTION-3); where it has none, its last corner
unfoldable pub rising_in : VertexSet → List ℕ → ℕ → ℕ
rising_in passed corners t =
    cond (rising passed corners (3 * t)) (3 * t)
    (cond (rising passed corners (3 * t + 1)) (3 * t + 1)
    (3 * t + 2))

-- the successor of a crossing: the rising corner of the triangle
-- of its paired corner (SECTION-5), whatever the points (WRONG-11)
unfoldable pub successor : VertexSet → List ℕ → List ℕ → ℕ → ℕ
successor passed corners pairing c = rising_in passed corners (triangle_of (pair_of pairing c))

-- ---- the ring table (SWEEP-3)

-- the entry of a corner that is no crossing: 4,294,967,295
abbrev pub no_corner : ℕ
no_corner = 4294967295

-- the entry of corner c: the successor of a crossing, else none
unfoldable pub ring_entry : VertexSet → List ℕ → List ℕ → ℕ → ℕ
ring_entry passed corners pairing c = cond (rising passed corners c) (successor passed corners pairing c) no_corner

-- ---- what the tests of a mesh establish: 1 and 3 of corners, 1, 4 and 7 of corners and pairing

-- every corner names a vertex
pub record Named (coords : List ℤ) (corners : List ℕ) : Type 0 where
  pub whole : WholeTriangles (length corners)
  pub vertices : (c : ℕ) → c < length corners → start_of corners c < vertex_count coords

-- no corner's edge leads from a vertex to itself, and every corner is paired with one in the opposite direction
pub record Linked (corners pairing : List ℕ) : Type 0 where
  pub whole : WholeTriangles (length corners)
  pub proper : (c : ℕ) → c < length corners → start_of corners c ≡ end_of corners c → ⊥
  pub each : (c : ℕ) → c < length corners → Paired corners pairing c

-- 1, 2, 3, 4 and 7 together
pub record Right (m : PairedMesh) : Type 0 where
  pub named : Named m.mesh.coords m.mesh.corners
  pub linked : Linked m.mesh.corners m.pairing
  pub inside : (i : ℕ) → i < length m.mesh.coords → nat_abs (get_or m.mesh.coords i (pos 0)) ≤ largest

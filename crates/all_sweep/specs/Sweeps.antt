-- The sweep from height to height: what the tests of All layers establish, and the lists of corners before each height.
use Rattle.std.specs.Prelude.{ℕ, ◌≤◌, ◌<◌, ◌≡◌, true, List, length, get_or, pos, nat_abs}
use Rattle.mesh.specs.Corners.{largest}
use Rattle.mesh.specs.Meshes.{Mesh, PairedMesh}
use Rattle.section.specs.Section.{Named, Right}
use Rattle.cut.specs.Cut.{lengths_of}
use Rattle.cut.specs.Outlines.{Long}
use Rattle.all_active.specs.Lists.{Stands, active_at}
use Rattle.all_active.specs.Levels.{since_at, bucket_at}
use Rattle.all_sweep.specs.AllLayers.{WorkTables}
use Rattle.all_sweep.specs.Works.{TakenHeights, taken_at, ListedHeights}

-- 1, 2 and 3 of the mesh
pub record Ranged (m : Mesh) : Type 0 where
  pub named : Named m.coords m.corners
  pub inside : (i : ℕ) → i < length m.coords → nat_abs (get_or m.coords i (pos 0)) ≤ largest

-- what the tests establish: a right mesh, room in the work tables, and the heights taken
pub record LayersTested (m : PairedMesh) (t : TakenHeights) (w : WorkTables) : Type 0 where
  pub right : Right m
  pub long : Long (length m.mesh.corners) (lengths_of w.cut)
  pub ring_long : length m.mesh.corners ≤ length w.ring
  pub listed : ListedHeights m.mesh.coords t

-- lists of corners: the table of their links, the head of each height's list, the marks, and the head of the list of the crossings
pub record CornerLists : Type 0 where
  pub ring : List ℕ
  pub heads : List ℕ
  pub marks : List ℕ
  pub active : ℕ

abbrev pub corner_lists : List ℕ → List ℕ → List ℕ → ℕ → CornerLists
corner_lists ring heads marks active = record { ring = ring; heads = heads; marks = marks; active = active }

-- before height k: the list of the corners that rise at the height before it, with no mark above k, and those of the heights from k on, with none
pub record Sweeping (m : Mesh) (t : TakenHeights) (k : ℕ) (l : CornerLists) : Type 0 where
  pub active_stands : Stands (active_at m.coords m.corners (since_at (taken_at t) k)) (length m.corners) l.ring l.active
  pub buckets : (j : ℕ) → k ≤ j → j < t.count
      → Stands (bucket_at m.coords m.corners (taken_at t) j) (length m.corners) l.ring (get_or l.heads j 0)
  pub marks_upto : (c : ℕ) → c < length m.corners → active_at m.coords m.corners (since_at (taken_at t) k) c ≡ true → get_or l.marks c 0 ≤ k
  pub unmarked : (j : ℕ) → k ≤ j → j < t.count → (c : ℕ) → c < length m.corners → bucket_at m.coords m.corners (taken_at t) j c ≡ true
      → get_or l.marks c 0 ≡ 0
  pub ring_room_lem : length m.corners ≤ length l.ring
  pub heads_room : t.count ≤ length l.heads

-- The contours of a height, each followed from its least crossing on and stamped: what that asks of the tables and leaves in them.
use Rattle.std.specs.Prelude.{ℕ, ◌+◌, ◌≤◌, ◌<◌, ◌≡◌, true, false, List, [], ◌∷◌, length, get_or, set, ℤ}
use Rattle.std.proofs.lemmas.List.Edits.{sets}
use Rattle.laws.specs.Tables.{overwrite}
use Rattle.mesh.specs.Meshes.{PairedMesh}
use Rattle.section.specs.Section.{below, successor, Crossing, Right}
use Rattle.section.specs.Contours.{places_of, walk, contours, names_of, trace, ends_of}
use Rattle.all_active.specs.Lists.{CornerSet, Stands, active_at}
use Rattle.all_active.specs.Levels.{KeptFrom}

-- the successor of a crossing of height h
abbrev pub successor_at : PairedMesh → ℤ → ℕ → ℕ
successor_at m h = successor (below m.mesh.coords h) m.mesh.corners m.pairing

-- the ring of height h from `start`: a walk by itself
unfoldable pub contour_from : PairedMesh → ℤ → ℕ → List ℕ
contour_from m h start = places_of (walk (successor_at m h) start (length m.mesh.corners) start [])

-- the table with the entries of these corners set to s
abbrev pub stamped : ℕ → List ℕ → List ℕ → List ℕ
stamped s marks [] = marks
stamped s marks (c ∷ cs) = stamped s (set marks c s) cs

-- what one contour asks
pub record Followable (m : PairedMesh) (h : ℤ) (names marks : List ℕ) (start at : ℕ) : Type 0 where
  pub right : Right m
  pub crosses : Crossing (below m.mesh.coords h) m.mesh.corners start
  pub marks_room : length m.mesh.corners ≤ length marks
  pub room : at + length (contour_from m h start) ≤ length names

-- the contour of `start` stands in names from place `at` on, up to r, and is stamped
pub record ContourFollowed (m : PairedMesh) (h : ℤ) (stamp start at : ℕ) (names marks names' marks' : List ℕ) (r : ℕ) : Type 0 where
  pub end_is : r ≡ at + length (contour_from m h start)
  pub names_are : names' ≡ sets names at (contour_from m h start)
  pub marks_are : marks' ≡ stamped stamp marks (contour_from m h start)

-- what all contours ask: the list of the crossings, and that no crossing has the stamp or one above it
pub record Outlinable (m : PairedMesh) (h : ℤ) (stamp : ℕ) (ring : List ℕ) (head : ℕ) (names ends marks : List ℕ) : Type 0 where
  pub right : Right m
  pub stands : Stands (active_at m.mesh.coords m.mesh.corners h) (length m.mesh.corners) ring head
  pub ring_room_lem : length m.mesh.corners ≤ length ring
  pub names_room : length m.mesh.corners ≤ length names
  pub ends_room : length m.mesh.corners ≤ length ends
  pub marks_room : length m.mesh.corners ≤ length marks
  pub unstamped : (c : ℕ) → c < length m.mesh.corners → active_at m.mesh.coords m.mesh.corners h c ≡ true → get_or marks c 0 < stamp

-- the contours of the height stand in names and ends: j of them, of k names
pub record Followed (m : PairedMesh) (h : ℤ) (names ends names' ends' : List ℕ) (j k : ℕ) : Type 0 where
  pub rings : List (List ℕ)
  pub is : trace (below m.mesh.coords h) m.mesh.corners m.pairing ≡ contours rings
  pub j_is : j ≡ length rings
  pub k_is : k ≡ length (names_of rings)
  pub names_are : names' ≡ overwrite (names_of rings) names
  pub ends_are : ends' ≡ overwrite (ends_of rings) ends

-- no mark of a set's corners is above the stamp, and all other entries are as before
pub record Marked (p : CornerSet) (n stamp : ℕ) (marks marks' : List ℕ) : Type 0 where
  pub kept : KeptFrom n marks marks'
  pub upto : (c : ℕ) → c < n → p c ≡ true → get_or marks' c 0 ≤ stamp
  pub other : (c : ℕ) → p c ≡ false → get_or marks' c 0 ≡ get_or marks c 0

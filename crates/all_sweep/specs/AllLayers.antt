-- All layers (ALL-1 to ALL-15, ALLCLEAN-1): a start, Layer up the heights taken, and the layer file of what that gives, as it is
-- or cleaned; its refusals in order, what it answers, and what it leaves in the lent tables.
use Rattle.std.specs.Prelude.{ℕ, ◌*◌, Bool, not, ◌&&◌, List, [], ◌∷◌, ◌++◌, map, ltb, leb, length, replicate, ℤ, pos, Result}
use Rattle.laws.specs.Tables.{overwrite}
use Rattle.mesh.specs.Meshes.{Mesh, PairedMesh, OrderedMesh}
use Rattle.mesh.specs.Operation.{Answer, Finding, Condition, whole, after, Operation, Does}
use Rattle.mesh.specs.Refusals.{Told, refusal, numbered, tell}
use Rattle.mesh.specs.declared.Refusal.{Refusal}
use Rattle.mesh.specs.Tests.{size, orders}
use Rattle.mesh_tables.specs.MeshTests.{content_tests}
use Rattle.cleaning.specs.declared.Profile.{Profile}
use Rattle.cut_points.specs.Points.{point_of}
use Rattle.file_formats.specs.LayerFile.{Layer, layer_in, layer_file}
use Rattle.cut.specs.Cut.{CutTables, lent, Lengths, lengths_of, cut_room_for, used, section, contours_of}
use Rattle.sweep.specs.Sweep.{Sweep, sweep, mesh_of, fresh_ring}
use Rattle.sweep.specs.Operations.{unless_refused, risen_passed, risen_table, risen_section}
use Rattle.all_heights.specs.Heights.{heights_taken, too_many_heights, falling_height}

-- ---- the layers

-- the layer of height h with these contours, by their points
abbrev pub drawn : Mesh → ℤ → List (List ℕ) → Layer
drawn m h rs = record { height = h; contours = map (map (point_of m h)) rs }

-- what Layer gives at h, and the sweep after it
unfoldable pub swept_layer : Sweep × ℤ → Layer
swept_layer = λ (s, h). drawn (mesh_of s) h (contours_of (risen_section s h))

abbrev pub risen : Sweep → ℤ → Sweep
risen s h = sweep s.ordered (risen_table s h) (risen_passed s h)

-- up these heights by Layer (ALL-2): the sweep that each call is handed, and its height
unfoldable pub climb : Sweep → List ℤ → List (Sweep × ℤ)
climb s [] = []
climb s (h ∷ hs) = (s, h) ∷ climb (risen s h) hs

-- from the sweep that Start leaves (ALL-2)
abbrev pub climbed : OrderedMesh → List ℕ → List ℤ → List (Sweep × ℤ)
climbed m ring hs = climb (sweep m (fresh_ring m.paired.mesh.corners ring) 0) hs

-- the layer file of what that gives (ALL-2), each layer in the profile (ALLCLEAN-1)
abbrev pub swept_file : Profile → OrderedMesh → List ℕ → List ℤ → List ℕ
swept_file p m ring hs = layer_file.encode (map (λ s. layer_in p (swept_layer s)) (climbed m ring hs))

-- what Cut gives at h, and the layer file of Cut at these heights, each layer in the profile:
-- `swept_is_cut` (ClimbLaws) says that it is the same file (RUN-8, ALLCLEAN-3)
unfoldable pub cut_layer : PairedMesh → ℤ → Layer
cut_layer m h = drawn m.mesh h (contours_of (section m h))

abbrev pub cut_file : Profile → PairedMesh → List ℤ → List ℕ
cut_file p m hs = layer_file.encode (map (λ h. layer_in p (cut_layer m h)) hs)

-- ---- the lent work tables: those of Cut and the ring table (ALL-6)

pub record WorkTables : Type 0 where
  pub cut : CutTables
  pub ring : List ℕ

abbrev pub work : List ℕ → List ℤ → List ℕ → List ℕ → List ℕ → WorkTables
work names points ends marks ring = record { cut = lent names points ends marks; ring = ring }

-- 9, unless there is room as in Cut, and a ring table of one entry for each of n corners, place 0 (ALL-9)
unfoldable pub work_room_for : ℕ → Lengths → ℕ → Bool
work_room_for n l ring = cut_room_for n l && leb n ring

abbrev pub work_room : ℕ → Lengths → ℕ → Condition Told
work_room n l ring = whole (refusal 9) (not (work_room_for n l ring))

-- after success, 16 and 14 zero in the entries asked for (ALL-12); after other refusals as before (ALL-13)
abbrev pub work_after : ℕ → WorkTables → Finding Told → WorkTables
work_after n w f =
    work
    (after (numbered (16 ∷ 14 ∷ [])) f (replicate n 0) n 0 w.cut.names)
    (after (numbered (16 ∷ 14 ∷ [])) f (replicate (2 * n) (pos 0)) (2 * n) (pos 0) w.cut.points)
    (after (numbered (16 ∷ 14 ∷ [])) f (replicate n 0) n 0 w.cut.ends)
    (after (numbered (16 ∷ 14 ∷ [])) f (replicate n 0) n 0 w.cut.marks)
    (after (numbered (16 ∷ 14 ∷ [])) f (replicate n 0) n 0 w.ring)

-- ---- the refusals in order (ALL-7)

-- those that tests of the tables find: 1, also for too many heights; 9; 2, 3, 4, 7, 8; 12 of the heights taken
abbrev pub layers_tests : OrderedMesh → List ℤ → Lengths → ℕ → List (Condition Told)
layers_tests m heights l ring =
    let coords = m.paired.mesh.coords in
    let corners = m.paired.mesh.corners in
    size m.paired.mesh
    ∷ too_many_heights coords heights
    ∷ work_room (length corners) l ring
    ∷ content_tests m.paired
    ++ (orders coords m.order ∷ falling_height (heights_taken coords heights) ∷ [])

-- 16 as in Layer, at the heights in turn (ALL-7)
abbrev pub used_at : Sweep × ℤ → Condition Told
used_at = λ (s, h). used (length (mesh_of s).corners) (risen_section s h)

-- 14: the output is shorter than the file, place 0 (ALL-11)
abbrev pub short_output : ℕ → List ℕ → Condition Told
short_output output file = whole (refusal 14) (ltb output (length file))

-- ---- All layers as a whole

-- it gives the length of the file (ALL-3); output past the file stays (ALL-14), and on refusal all of it (ALL-15)
abbrev pub filing : Profile × OrderedMesh × List ℤ × WorkTables × List ℕ → Operation Told ℕ (WorkTables × List ℕ)
filing = λ (p, m, heights, w, output).
    let hs = heights_taken m.paired.mesh.coords heights in
    let file = swept_file p m w.ring hs in
    record {
      refusals = layers_tests m heights (lengths_of w.cut) (length w.ring)
          ++ (map used_at (climbed m w.ring hs) ++ (short_output (length output) file ∷ []));
      values = length file;
      leaves = λ f. (work_after (length m.paired.mesh.corners) w f, unless_refused (overwrite file output) output f);
    }

-- what its answer says: the length of the file (ALL-3)
abbrev pub tell_all_layers : Result ℕ Refusal → Answer Told ℕ
tell_all_layers = tell (λ n. n)

abbrev pub Files : Profile → OrderedMesh → List ℤ → WorkTables → List ℕ → Result ℕ Refusal → WorkTables → List ℕ → Type 0
Files p m heights w output result w' output' = Does filing tell_all_layers (p, m, heights, w, output) result (w', output')

-- None of All layers' refusals is left out of the list: with all of them the listing program would refuse the same inputs, by the same numbers at the same
-- places.
use Rattle.std.specs.Prelude.{ℕ, ◌*◌, ◌≤◌, ◌≡◌, true, not, ◌||◌, replicate, ℤ, Ok}
use Rattle.std.proofs.Math.Path.{refl, sym, ap}
use Rattle.std.proofs.Common.{◌∙◌, arith}
use mathlib.Core.List.{List, [], ◌∷◌, ◌++◌, map}
use borrow.Author.Tests.{ltb-false, le-ltb, le-leb, leb-true, not-false}
use Rattle.std.proofs.Math.Dec.{ltb}
use Rattle.std.proofs.Math.ListN.{length}
use Rattle.std.proofs.lemmas.List.{length-replicate}
use Rattle.laws.specs.Booleans.{and_parts, and_of, or_parts}
use Rattle.mesh.specs.Corners.{vertex_count, triangle_count}
use Rattle.mesh.specs.Meshes.{OrderedMesh, ordered}
use Rattle.mesh.specs.Operation.{gives, refuses, Finding, fine, Condition, test, ◌then◌, verdict, left_by}
use Rattle.mesh.specs.OperationLaws.{None, more, done, Nowhere, none_fine, fine_none, fine_nowhere, then_fine, verdict_join, join_next}
use Rattle.mesh.specs.OrderTableLaws.{ordered_rank}
use Rattle.mesh.specs.Refusals.{Told}
use Rattle.mesh.specs.Tests.{size, range, vertex, triangle, pairs, orders}
use Rattle.check_mesh.specs.Check.{CheckTables, check_tables, check_room_for, check_tests, edge_tests, checking, Checks}
use Rattle.check_mesh.specs.CheckLaws.{CheckPromise, check_promise}
use Rattle.section.specs.Section.{Right}
use Rattle.section.specs.RightLaws.{right_of}
use Rattle.cut.specs.Cut.{lengths, cut_room_for as cutRoom}
use Rattle.all_heights.specs.Heights.{heights_taken, too_many_heights, falling_height}
use Rattle.all_heights.specs.HeightLaws.{falling_taken, nowhere_rising}
use Rattle.all_sweep.specs.AllLayers.{climbed, work_room_for, work_room, layers_tests, used_at}
use Rattle.all_sweep.specs.ClimbLaws.{used_never}
use Rattle.file_formats.specs.LayerFile.{most_layers}
use Rattle.file_formats.specs.PartFile.{Part, part_of}
use Rattle.file_formats.specs.WholeFiles.{form}
use Rattle.read_part.specs.Parts.{part_in}
use Rattle.list_lines.specs.Limits.{held_vertices, held_triangles, held_heights, held_entries}
use Rattle.list_part.specs.Listing.{part_mesh, long_input, beyond, limits, part_check_tests, refusals_of}

-- ---- every refusal

-- the tables that the check leaves, of so many zeros
abbrev pub zeros : List ℕ
zeros = replicate held_entries 0

abbrev pub checked_tables : Part → CheckTables
checked_tables p = left_by (checking (part_mesh p, check_tables zeros zeros))

abbrev pub checked_part : Part → OrderedMesh
checked_part p = ordered p.coords p.corners (checked_tables p).pairing (checked_tables p).order

-- the refusals of All layers but 14, with these tables and work tables of so many entries
abbrev pub layers_but14 : Part → List (Condition Told)
layers_but14 p =
    layers_tests (checked_part p) p.heights (lengths held_entries (2 * held_entries) held_entries held_entries) held_entries
    ++ map used_at (climbed (checked_part p) zeros (heights_taken p.coords p.heights))

-- the size of the input, 13, the limits, the refusals of Check, and those of All layers but 14 (LIST-5)
abbrev pub every_refusal : List ℕ → List (Condition Told)
every_refusal input =
    long_input input ∷ form input (part_of input) ∷ limits (part_in input) ∷ (part_check_tests (part_in input) ++ layers_but14 (part_in input))

-- ---- two lists that begin alike answer the same if they do so where the beginning refuses nothing

then_same : (f g h : Finding Told) → (f ≡ fine → g ≡ h) → (f then g) ≡ (f then h)
unfolding ◌then◌
then_same (gives tt) g h e = e refl
then_same (refuses r) g h e = refl

-- ---- a part within the limits that Check accepts

module _ (p : Part) (l : Nowhere (limits p)) (c : None (part_check_tests p)) where
  abbrev hs : List ℤ
  hs = heights_taken p.coords p.heights

  sized : length zeros ≡ held_entries
  sized = length-replicate {A = ℕ} held_entries 0

  passes : verdict (checking (part_mesh p, check_tables zeros zeros)).refusals ≡ fine
  passes = (λ i. verdict (check_tests (part_mesh p) (sized i) (sized i) ++ edge_tests p.corners)) ∙ none_fine (part_check_tests p) c

  checked : Checks (part_mesh p) (check_tables zeros zeros) (Ok tt) (checked_tables p)
  checked = record { answers = then_fine passes; leaves = refl }

  promised : CheckPromise checked
  promised = check_promise checked refl

  sizes : (length p.corners ≤ held_entries) × (vertex_count p.coords ≤ held_entries)
  unfolding check_room_for
  sizes = go c
    where
      go : None (part_check_tests p) → (length p.corners ≤ held_entries) × (vertex_count p.coords ≤ held_entries)
      go (more s (more m rest)) =
          let r = and_parts _ _ (not-false _ (m 0 (omega arith))) in
          (leb-true _ _ r.0, leb-true _ _ r.1)

  few : length hs ≤ held_heights
  unfolding beyond
  few =
      let triangles = ltb held_triangles (triangle_count p.corners) in
      let a = or_parts (ltb held_vertices (vertex_count p.coords)) (triangles || ltb held_heights (length hs)) (l 0 (omega arith)) in
      ltb-false held_heights (length hs) (or_parts triangles (ltb held_heights (length hs)) a.1).1

  paired_right : Nowhere (pairs p.corners (checked_tables p).pairing)
  paired_right = fine_nowhere (pairs p.corners (checked_tables p).pairing) (sym promised.pairing_fine)

  ordered_right : Nowhere (orders p.coords (checked_tables p).order)
  ordered_right = fine_nowhere (orders p.coords (checked_tables p).order) (sym promised.order_fine)

  right : Right (checked_part p).paired
  right = go c
    where
      go : None (part_check_tests p) → Right (checked_part p).paired
      go (more s (more m (more x (more y (more z rest))))) = right_of (checked_part p).paired (not-false _ (s 0 (omega arith))) x y z paired_right

  -- 16 of heights that rise
  unused : test (falling_height hs) ≡ fine → verdict (map used_at (climbed (checked_part p) zeros hs)) ≡ fine
  unused e =
      used_never (checked_part p) zeros right (λ i h. ordered_rank p.coords (checked_tables p).order i (not-false _ (ordered_right i h)) h)
      (omega (arith, sizes.0, sized)) hs (nowhere_rising hs (fine_nowhere (falling_height hs) e))

  room_there : work_room_for (length p.corners) (lengths held_entries (2 * held_entries) held_entries held_entries) held_entries ≡ true
  unfolding work_room_for cutRoom
  room_there =
      let z = sizes.0 in
      let one = le-leb (length p.corners) held_entries z in
      and_of (and_of (and_of (and_of one (le-leb (2 * length p.corners) (2 * held_entries) (omega arith))) one) one) one

  -- the refusals of All layers before 12
  abbrev sooner : List (Condition Told)
  sooner =
      size (part_mesh p)
      ∷ too_many_heights p.coords p.heights
      ∷ work_room (length p.corners) (lengths held_entries (2 * held_entries) held_entries held_entries) held_entries
      ∷ range p.coords
      ∷ vertex (vertex_count p.coords) p.corners
      ∷ triangle p.corners
      ∷ pairs p.corners (checked_tables p).pairing
      ∷ orders p.coords (checked_tables p).order
      ∷ []

  none_sooner : None sooner
  none_sooner = go c
    where
      go : None (part_check_tests p) → None sooner
      go (more s (more m (more x (more y (more z rest))))) =
          more s (more (λ i h. le-ltb most_layers (length hs) (omega (arith, few)))
          (more (λ i h. ap not room_there) (more x (more y (more z (more paired_right (more ordered_right done)))))))

  only_12 : verdict (falling_height p.heights ∷ []) ≡ verdict (layers_but14 p)
  unfolding verdict
  only_12 =
      ap (λ (f : Finding Told). f then fine) (sym (falling_taken p.coords p.heights))
      ∙ then_same (test (falling_height hs)) fine _ (λ e. sym (unused e))
      ∙ join_next sooner (falling_height hs ∷ map used_at (climbed (checked_part p) zeros hs)) (sym (none_fine sooner none_sooner)) refl refl

module _ (input : List ℕ) where
  abbrev its : Part
  its = part_in input

  -- the refusals before those of All layers
  abbrev before : List (Condition Told)
  before = long_input input ∷ form input (part_of input) ∷ limits its ∷ part_check_tests its

  rest_same : None before → verdict (falling_height its.heights ∷ []) ≡ verdict (layers_but14 its)
  rest_same (more a (more b (more l c))) = only_12 its l c

  pub none_left_out : verdict (refusals_of input) ≡ verdict (every_refusal input)
  none_left_out =
      verdict_join before (falling_height its.heights ∷ [])
      ∙ then_same (verdict before) (verdict (falling_height its.heights ∷ [])) (verdict (layers_but14 its)) (λ e. rest_same (fine_none before e))
      ∙ sym (verdict_join before (layers_but14 its))

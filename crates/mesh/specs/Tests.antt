-- The refusals that several operations share: 1, 2, 3 and 4
-- (ANSWER-3, CHECK-5, CHECK-7 to CHECK-9), 7 (CUT-10) and 8 (STEP-7).
use Rattle.std.specs.Prelude.{ℕ, ◌+◌, ◌*◌, ◌/◌, ◌%◌, ◌≤◌, ◌<◌, ◌≡◌, Bool, true, not, ◌&&◌, ◌||◌, List, [], ◌∷◌, ltb, leb, eqb, length, get_or, ℤ, pos, nat_abs}
use Rattle.mesh.specs.Corners.{most_vertices, most_triangles, largest, vertex_count, triangle_count, start_of, end_of, most_corners}
use Rattle.mesh.specs.Order.{order_of}
use Rattle.mesh.specs.Meshes.{Mesh}
use Rattle.mesh.specs.Operation.{Condition, whole}
use Rattle.mesh.specs.Refusals.{Told, refusal}

-- ---- 1: a table length not a multiple of three or a count above its limit, place 0 (CHECK-5, MESH-4); none is too small (MESH-5)

unfoldable pub sizes_fit : ℕ → ℕ → Bool
sizes_fit coords corners = eqb (coords % 3) 0 && eqb (corners % 3) 0 && leb (coords / 3) most_vertices && leb (corners / 3) most_triangles

abbrev pub size : Mesh → Condition Told
size m = whole (refusal 1) (not (sizes_fit (length m.coords) (length m.corners)))

-- what 1 establishes of a table of n corners
pub record WholeTriangles (n : ℕ) : Type 0 where
  pub threes : n % 3 ≡ 0
  pub few : n ≤ most_corners

-- ---- 2: a coordinate out of range, its position (CHECK-7, AREA-4, MESH-6); no place lies past the table

unfoldable pub out_of_range : List ℤ → ℕ → Bool
out_of_range coords i = ltb largest (nat_abs (get_or coords i (pos 0)))

abbrev pub range : List ℤ → Condition Told
range coords = record { tells = refusal 2; places = length coords; fits = out_of_range coords }

-- ---- 3: a corner naming no vertex (CHECK-8); no place lies past the table

unfoldable pub names_none : ℕ → List ℕ → ℕ → Bool
names_none vertices corners c = leb vertices (get_or corners c 0)

abbrev pub vertex : ℕ → List ℕ → Condition Told
vertex vertices corners = record { tells = refusal 3; places = length corners; fits = names_none vertices corners }

-- ---- 4: a triangle naming a vertex twice, its first corner (CHECK-9); only triangles that the table has whole are asked

unfoldable pub names_twice : List ℕ → ℕ → Bool
names_twice corners t =
    eqb (get_or corners (3 * t) 0) (get_or corners (3 * t + 1) 0)
    || (eqb (get_or corners (3 * t + 1) 0) (get_or corners (3 * t + 2) 0)
    || eqb (get_or corners (3 * t + 2) 0) (get_or corners (3 * t) 0))

abbrev pub triangle : List ℕ → Condition Told
triangle corners = record { tells = λ t. refusal 4 (3 * t); places = triangle_count corners; fits = names_twice corners }

-- ---- 7: the least corner whose entry is missing, is no corner, lacks the reverse edge or is not paired back (CUT-10, CHECK-15)

-- the entry of corner c, its pair: the twin or opposite half-edge (MESH-8); that it is there is tested first
abbrev pub pair_of : List ℕ → ℕ → ℕ
pair_of pairing c = get_or pairing c 0

-- corners c and d stand for reverse edges (MESH-8)
unfoldable pub reverse : List ℕ → ℕ → ℕ → Bool
reverse corners c d = eqb (start_of corners d) (end_of corners c) && eqb (end_of corners d) (start_of corners c)

-- the entry of corner c is right (MESH-8); that it is another corner follows with 4 (composed/PairLaws)
unfoldable pub paired_at : List ℕ → List ℕ → ℕ → Bool
paired_at corners pairing c =
    ltb c (length pairing)
    && ltb (pair_of pairing c) (length corners)
    && reverse corners c (pair_of pairing c)
    && ltb (pair_of pairing c) (length pairing)
    && eqb (pair_of pairing (pair_of pairing c)) c

abbrev pub unpaired : List ℕ → List ℕ → ℕ → Bool
unpaired corners pairing c = not (paired_at corners pairing c)

-- its places are the corners: later entries are ignored (MESH-10)
abbrev pub pairs : List ℕ → List ℕ → Condition Told
pairs corners pairing = record { tells = refusal 7; places = length corners; fits = unpaired corners pairing }

-- what 7 establishes of corner c
pub record Paired (corners pairing : List ℕ) (c : ℕ) : Type 0 where
  pub there : c < length pairing
  pub corner : pair_of pairing c < length corners
  pub turned : reverse corners c (pair_of pairing c) ≡ true
  pub back_there : pair_of pairing c < length pairing
  pub back : pair_of pairing (pair_of pairing c) ≡ c

-- ---- 8: the least position where the order table is missing an entry or wrong (STEP-7); the order has an entry at each place

unfoldable pub ordered_at : List ℤ → List ℕ → ℕ → Bool
ordered_at coords order i = ltb i (length order) && eqb (get_or order i 0) (get_or (order_of coords) i 0)

abbrev pub disordered : List ℤ → List ℕ → ℕ → Bool
disordered coords order i = not (ordered_at coords order i)

-- its places are the vertices: later entries are ignored (MESH-10)
abbrev pub orders : List ℤ → List ℕ → Condition Told
orders coords order = record { tells = refusal 8; places = vertex_count coords; fits = disordered coords order }

-- ---- 2, 3 and 4 together (ANSWER-3)

abbrev pub mesh_tests : Mesh → List (Condition Told)
mesh_tests m = range m.coords ∷ vertex (vertex_count m.coords) m.corners ∷ triangle m.corners ∷ []

-- Check (CHECK-1 to CHECK-13): its refusals in order, what it answers, and what it leaves in the two lent tables.
use Rattle.std.specs.Prelude.{ℕ, Bool, not, ◌&&◌, List, [], ◌∷◌, ◌++◌, leb, length, Result}
use Rattle.mesh.specs.Corners.{vertex_count}
use Rattle.mesh.specs.Meshes.{Mesh}
use Rattle.mesh.specs.Operation.{Answer, Condition, whole, after, Operation, Does}
use Rattle.mesh.specs.Order.{order_of}
use Rattle.mesh.specs.Refusals.{Told, refusal, numbered, tell}
use Rattle.mesh.specs.Tests.{size, mesh_tests}
use Rattle.mesh.specs.declared.Refusal.{Refusal}
use Rattle.check_pairing.specs.Partners.{open_edge, pairing_of}

-- the two lent tables
pub record CheckTables : Type 0 where
  pub pairing : List ℕ
  pub order : List ℕ

abbrev pub check_tables : List ℕ → List ℕ → CheckTables
check_tables pairing order = record { pairing = pairing; order = order }

-- ---- 9: a table to be written has fewer entries than corners (pairing) or vertices (order), place 0 (CHECK-6)

unfoldable pub check_room_for : ℕ → ℕ → ℕ → ℕ → Bool
check_room_for corners vertices pairing order = leb corners pairing && leb vertices order

abbrev pub check_room : ℕ → ℕ → ℕ → ℕ → Condition Told
check_room corners vertices pairing order = whole (refusal 9) (not (check_room_for corners vertices pairing order))

-- ---- Check as a whole

-- 1, 9, 2, 3 and 4, for lent tables of these lengths (CHECK-4)
abbrev pub check_tests : Mesh → ℕ → ℕ → List (Condition Told)
check_tests m pairing order = size m ∷ check_room (length m.corners) (vertex_count m.coords) pairing order ∷ mesh_tests m

-- 6 (CHECK-4)
abbrev pub edge_tests : List ℕ → List (Condition Told)
edge_tests corners = open_edge corners ∷ []

-- it gives no value; the tables hold pairing (CHECK-1) and order (CHECK-2), or zeros after
-- 6 (CHECK-12); later entries stay (CHECK-3), and after other refusals all (CHECK-13)
abbrev pub checking : Mesh × CheckTables → Operation Told Unit CheckTables
checking = λ (m, t). record {
  refusals = check_tests m (length t.pairing) (length t.order) ++ edge_tests m.corners;
  values = tt;
  leaves = λ f. check_tables
      (after (numbered (6 ∷ [])) f (pairing_of m.corners) (length m.corners) 0 t.pairing)
      (after (numbered (6 ∷ [])) f (order_of m.coords) (vertex_count m.coords) 0 t.order);
}

-- what its answer says
abbrev pub tell_check : Result Unit Refusal → Answer Told Unit
tell_check = tell (λ _. tt)

abbrev pub Checks : Mesh → CheckTables → Result Unit Refusal → CheckTables → Type 0
Checks m t result t' = Does checking tell_check (m, t) result t'

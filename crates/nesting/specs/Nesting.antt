-- Nesting (NEST-8 to NEST-11): its refusals in order, what it answers, and what it leaves in the two lent tables.
use Rattle.std.specs.Prelude.{ℕ, Bool, not, ◌&&◌, List, [], ◌∷◌, ◌++◌, leb, length, Result}
use Rattle.laws.specs.Tables.{refill}
use Rattle.mesh.specs.Operation.{Answer, Condition, whole, unless_refused, Operation, Does}
use Rattle.mesh.specs.Refusals.{Told, refusal, tell}
use Rattle.mesh.specs.declared.Refusal.{Refusal}
use Rattle.polygons.specs.Flat.{Point, FlatLayer, polygons_of, layer_tests}
use Rattle.nesting.specs.Nests.{depth_of, parent_of}

-- the two lent tables
pub record NestTables : Type 0 where
  pub depths : List ℕ
  pub parents : List ℕ

abbrev pub nest_tables : List ℕ → List ℕ → NestTables
nest_tables depths parents = record { depths = depths; parents = parents }

-- ---- 9: a table has fewer entries than there are contours, place 0 (NEST-10)

unfoldable pub nest_room_for : ℕ → ℕ → ℕ → Bool
nest_room_for contours depths parents = leb contours depths && leb contours parents

abbrev pub no_nest_room : ℕ → ℕ → ℕ → Condition Told
no_nest_room contours depths parents = whole (refusal 9) (not (nest_room_for contours depths parents))

-- ---- Nesting as a whole

-- its refusals in order: 1 and 2 of a layer, then 9 (NEST-9)
abbrev pub nesting_tests : FlatLayer → NestTables → List (Condition Told)
nesting_tests t u = layer_tests t ++ (no_nest_room (length t.ends) (length u.depths) (length u.parents) ∷ [])

-- depth and parent of each contour in the first entries; later entries stay
abbrev pub nested : List (List Point) → NestTables → NestTables
nested cs u = nest_tables (refill (length cs) (depth_of cs) u.depths) (refill (length cs) (parent_of cs) u.parents)

-- Nesting of a layer t and two tables u: it gives no value; the tables hold
-- depths and parents (NEST-8), and after a refusal all is as before (NEST-11)
abbrev pub contour_nesting : FlatLayer × NestTables → Operation Told Unit NestTables
contour_nesting = λ (t, u). record {
  refusals = nesting_tests t u;
  values = tt;
  leaves = unless_refused (nested (polygons_of t) u) u;
}

-- what its answer says
abbrev pub tell_nesting : Result Unit Refusal → Answer Told Unit
tell_nesting = tell (λ _. tt)

-- the contract of Nesting
abbrev pub FindsNesting : FlatLayer → NestTables → Result Unit Refusal → NestTables → Type 0
FindsNesting t u result u' = Does contour_nesting tell_nesting (t, u) result u'

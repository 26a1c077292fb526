-- Clean (CLEAN-6 to CLEAN-10): its refusals in order, what it answers, and what it leaves in the two lent tables.
use Rattle.std.specs.Prelude.{ℕ, Bool, not, ◌&&◌, List, [], ◌∷◌, ◌++◌, leb, length, Result}
use Rattle.mesh.specs.Operation.{Answer, Condition, whole, unless_refused, Operation, Does}
use Rattle.mesh.specs.Refusals.{Told, refusal, tell}
use Rattle.mesh.specs.declared.Refusal.{Refusal}
use Rattle.polygons.specs.Flat.{Point, point_total, FlatLayer, polygons_of, layer_tests}
use Rattle.polygons.specs.declared.LayerCounts.{LayerCounts}
use Rattle.cleaning.specs.Cleaning.{cleaned}
use Rattle.clean_layers.specs.Layers.{holding}

-- ---- 9: a table is shorter than that of the layer handed in, place 0

unfoldable pub clean_room_for : FlatLayer → FlatLayer → Bool
clean_room_for t u = leb (length t.points) (length u.points) && leb (length t.ends) (length u.ends)

abbrev pub no_clean_room : FlatLayer → FlatLayer → Condition Told
no_clean_room t u = whole (refusal 9) (not (clean_room_for t u))

-- ---- Clean as a whole

-- its refusals in order: 1 and 2 of a layer, then 9
abbrev pub cleaning_tests : FlatLayer → FlatLayer → List (Condition Told)
cleaning_tests t u = layer_tests t ++ (no_clean_room t u ∷ [])

-- what is left of the layer that the tables hold
abbrev pub cleaned_of : FlatLayer → List (List Point)
cleaned_of t = cleaned (polygons_of t)

-- Clean of a layer t and two tables u: its counts of contours and points; the cleaned layer in the
-- first entries of the tables, unused entries as before, and after a refusal all as before
abbrev pub cleaning : FlatLayer × FlatLayer → Operation Told (ℕ × ℕ) FlatLayer
cleaning = λ (t, u). record {
  refusals = cleaning_tests t u;
  values = (length (cleaned_of t), point_total (cleaned_of t));
  leaves = unless_refused (holding (cleaned_of t) u) u;
}

-- what its answer says
abbrev pub tell_clean : Result LayerCounts Refusal → Answer Told (ℕ × ℕ)
tell_clean = tell (λ counts. (counts.contours, counts.points))

-- the contract of Clean
abbrev pub Cleans : FlatLayer → FlatLayer → Result LayerCounts Refusal → FlatLayer → Type 0
Cleans t u result u' = Does cleaning tell_clean (t, u) result u'

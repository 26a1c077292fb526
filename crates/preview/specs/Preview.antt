-- Preview (PREVIEW-5 to PREVIEW-7) and Preview of a run of calls (PREVIEW-8 to PREVIEW-11): their refusals in order, what they answer, and
-- what they leave in the lent tables.
use Rattle.std.specs.Prelude.{ℕ, ◌-◌, ◌/◌, min, ◌≡◌, not, List, [], ◌∷◌, map, length, take, drop, slice_get, Float, Option, Result}
use Rattle.laws.specs.Tables.{overwrite}
use Rattle.mesh.specs.Operation.{Answer, Condition, whole, fine, verdict, unless_refused, Operation, Does}
use Rattle.mesh.specs.Refusals.{Told, refusal, tell}
use Rattle.mesh.specs.declared.Refusal.{Refusal}
use Rattle.polygons.specs.Flat.{FlatLayer, layer_tests}
use Rattle.preview_floats.specs.declared.Origin.{Origin}
use Rattle.preview_floats.specs.DrawnPoints.{whole_origin}
use Rattle.preview.specs.declared.PathCall.{PathCall}
use Rattle.preview.specs.declared.PathCall.TheVariants.{Move, Line, Close}
use Rattle.preview.specs.Calls.{calls_of}

-- ---- refusals in order (PREVIEW-6)

-- 17: the origin's x or y is not a whole number or is out of range, place 0 (PREVIEW-7)
abbrev pub bad_origin : Origin → Condition Told
bad_origin o = whole (refusal 17) (not (whole_origin o))

-- 17 first, then 1 and 2 of a layer
abbrev pub preview_tests : FlatLayer → Origin → List (Condition Told)
preview_tests t o = bad_origin o ∷ layer_tests t

-- none of them
abbrev pub Drawable : FlatLayer → Origin → Type 0
Drawable t o = verdict (preview_tests t o) ≡ fine

-- ---- Preview

-- it gives the call of a number, or none past the last (PREVIEW-5), and is lent no table
abbrev pub previewing : FlatLayer × Origin × ℕ → Operation Told (Option PathCall) Unit
previewing = λ (t, o, number). record { refusals = preview_tests t o; values = slice_get (calls_of o t) number; leaves = λ f. tt }

-- what its answer says
abbrev pub tell_preview : Result (Option PathCall) Refusal → Answer Told (Option PathCall)
tell_preview = tell (λ call. call)

abbrev pub Previews : FlatLayer → Origin → ℕ → Result (Option PathCall) Refusal → Type 0
Previews t o number result = Does previewing tell_preview (t, o, number) result tt

-- ---- Preview of a run

-- the lent tables: a kind for each call, two floats for each (PREVIEW-8)
pub record CallTables : Type 0 where
  pub kinds : List ℕ
  pub floats : List Float

abbrev pub call_tables : List ℕ → List Float → CallTables
call_tables kinds floats = record { kinds = kinds; floats = floats }

-- 0 is a move, 1 a line, 2 a close
abbrev pub kind_of : PathCall → ℕ
kind_of (Move x y) = 0
kind_of (Line x y) = 1
kind_of Close = 2

-- a call's two floats in place of a and b, which a close leaves (PREVIEW-10)
abbrev pub first_float : PathCall → Float → Float
first_float (Move x y) a = x
first_float (Line x y) a = x
first_float Close a = a

abbrev pub second_float : PathCall → Float → Float
second_float (Move x y) b = y
second_float (Line x y) b = y
second_float Close b = b

-- a table of floats after these calls, two entries for each; later ones stay (PREVIEW-10)
unfoldable pub floats_after : List PathCall → List Float → List Float
floats_after [] table = table
floats_after (c ∷ calls) [] = []
floats_after (c ∷ calls) (a ∷ []) = a ∷ []
floats_after (c ∷ calls) (a ∷ b ∷ table) = first_float c a ∷ second_float c b ∷ floats_after calls table

-- how many are filled: as many as there are from `number` on, and as the tables hold (PREVIEW-9)
unfoldable pub filled_count : List PathCall → ℕ → CallTables → ℕ
filled_count calls number u = min (length calls - number) (min (length u.kinds) (length u.floats / 2))

-- the tables with these calls in front
abbrev pub filled_with : List PathCall → CallTables → CallTables
filled_with calls u = call_tables (overwrite (map kind_of calls) u.kinds) (floats_after calls u.floats)

-- it gives how many it filled; a refusal leaves the tables (PREVIEW-11)
abbrev pub preview_running : FlatLayer × Origin × ℕ × CallTables → Operation Told ℕ CallTables
preview_running = λ (t, o, number, u).
    let n = filled_count (calls_of o t) number u in
    record {
      refusals = preview_tests t o;
      values = n;
      leaves = unless_refused (filled_with (take n (drop number (calls_of o t))) u) u;
    }

-- what its answer says
abbrev pub tell_preview_run : Result ℕ Refusal → Answer Told ℕ
tell_preview_run = tell (λ n. n)

abbrev pub PreviewsRun : FlatLayer → Origin → ℕ → CallTables → Result ℕ Refusal → CallTables → Type 0
PreviewsRun t o number u result u' = Does preview_running tell_preview_run (t, o, number, u) result u'

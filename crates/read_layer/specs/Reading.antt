-- Read layer i, in the full profile (READ-1 to READ-11) and the clean one (READCLEAN-1 to READCLEAN-3): its refusals in order, what it answers, and what it
-- leaves in the two lent tables.
use Rattle.std.specs.Prelude.{ℕ, ◌*◌, Bool, not, ◌&&◌, List, [], ◌∷◌, ◌++◌, leb, length, get_or, ℤ, pos, Result}
use Rattle.mesh.specs.Operation.{Answer, Finding, Condition, whole, after, Operation, Does}
use Rattle.mesh.specs.Refusals.{Told, refusal, numbered, tell}
use Rattle.mesh.specs.declared.Refusal.{Refusal}
use Rattle.polygons.specs.Flat.{FlatLayer, flat, flat_of}
use Rattle.cleaning.specs.declared.Profile.{Profile}
use Rattle.cleaning.specs.declared.Profile.TheVariants.{Full, Clean}
use Rattle.file_formats.specs.LayerFile.{Layer, layers_of, layers_of_in}
use Rattle.file_formats.specs.LayerRules.{point_total}
use Rattle.file_formats.specs.WholeFiles.{form, unclean_form}
pub use Rattle.file_formats.specs.WholeFiles.{layers_in}
use Rattle.read_layer.specs.declared.LayerRead.{LayerRead}

-- ---- the layers of a file

-- layer i, from 0; where there is none a layer without contours, which decides nothing, as 15 comes first
abbrev pub layer_at : List Layer → ℕ → Layer
layer_at ls i = get_or ls i (record { height = pos 0; contours = [] })

-- ---- 15 and 9

-- 15: there is no layer i, place 0 (READ-9)
abbrev pub no_layer : List Layer → ℕ → Condition Told
no_layer ls i = whole (refusal 15) (leb (length ls) i)

-- how many entries the two tables have
pub record Entries : Type 0 where
  pub points : ℕ
  pub ends : ℕ

-- the two lengths as a record
abbrev pub entries : ℕ → ℕ → Entries
entries points ends = record { points = points; ends = ends }

-- those of two lent tables
abbrev pub entries_of : FlatLayer → Entries
entries_of t = entries (length t.points) (length t.ends)

-- so many contours and points have room
unfoldable pub read_layer_room_for : ℕ → ℕ → Entries → Bool
read_layer_room_for contours points n = leb (2 * points) n.points && leb contours n.ends

-- a layer has room
abbrev pub layer_has_room : Layer → Entries → Bool
layer_has_room l n = read_layer_room_for (length l.contours) (point_total l.contours) n

-- 9: a table has too few entries for the layer, which needs two
-- for each point and one for each contour, place 0 (READ-10)
abbrev pub no_layer_room : Layer → Entries → Condition Told
no_layer_room l n = whole (refusal 9) (not (layer_has_room l n))

-- ---- Read layer as a whole

-- 18, in the clean profile alone: a contour that is not clean, in any layer (READCLEAN-3)
abbrev pub profile_tests : Profile → List ℕ → List (Condition Told)
profile_tests Full file = []
profile_tests Clean file = unclean_form file (layers_of_in Clean file) ∷ []

-- its refusals in order, for tables of so many entries (READ-5, READCLEAN-2); 13 is of the whole file (READ-1)
abbrev pub reading_tests : Profile → List ℕ → ℕ → Entries → List (Condition Told)
reading_tests p file i n =
    form file (layers_of file) ∷ (profile_tests p file ++ (no_layer (layers_in file) i ∷ no_layer_room (layer_at (layers_in file) i) n ∷ []))

-- the layer count, and the layer's height and its counts of contours and points (READ-3)
abbrev pub layer_counts : List Layer → ℕ → ℕ × ℤ × ℕ × ℕ
layer_counts ls i = let l = layer_at ls i in (length ls, l.height, length l.contours, point_total l.contours)

-- the layer's points and ends in the first entries (READ-2), unused
-- entries as before (READ-4); after a refusal all as before (READ-11)
abbrev pub fills_layer : Layer → FlatLayer → Finding Told → FlatLayer
fills_layer l t f =
    let filled = flat_of l.contours in
    flat
    (after (numbered []) f filled.points 0 (pos 0) t.points)
    (after (numbered []) f filled.ends 0 0 t.ends)

-- Read layer in a profile, of a file, a number and two tables
abbrev pub layer_reading : Profile × List ℕ × ℕ × FlatLayer → Operation Told (ℕ × ℤ × ℕ × ℕ) FlatLayer
layer_reading = λ (p, file, i, t). record {
  refusals = reading_tests p file i (entries_of t);
  values = layer_counts (layers_in file) i;
  leaves = fills_layer (layer_at (layers_in file) i) t;
}

-- what its answer says
abbrev pub tell_read_layer : Result LayerRead Refusal → Answer Told (ℕ × ℤ × ℕ × ℕ)
tell_read_layer = tell (λ l. (l.layers, l.height, l.counts.contours, l.counts.points))

-- the contract of Read layer
abbrev pub ReadsLayer : Profile → List ℕ → ℕ → FlatLayer → Result LayerRead Refusal → FlatLayer → Type 0
ReadsLayer p file i t result t' = Does layer_reading tell_read_layer (p, file, i, t) result t'

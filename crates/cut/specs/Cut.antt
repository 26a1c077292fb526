-- Cut (CUT-1 to CUT-13): its refusals in order, what it answers, and what it leaves in the four lent tables.
use Rattle.std.specs.Prelude.{ℕ, ◌*◌, Bool, false, not, ◌&&◌, List, [], ◌∷◌, ◌++◌, leb, eqb, length, replicate, ℤ, pos, Result}
use Rattle.mesh.specs.Meshes.{Mesh, PairedMesh}
use Rattle.mesh.specs.Operation.{Answer, Finding, Condition, whole, after, Operation, Does}
use Rattle.mesh.specs.Refusals.{Told, refusal, numbered, tell}
use Rattle.mesh.specs.declared.Refusal.{Refusal}
use Rattle.mesh.specs.Tests.{size}
use Rattle.mesh_tables.specs.MeshTests.{content_tests}
use Rattle.section.specs.Section.{below}
use Rattle.section.specs.Contours.{Traced, contours, stuck, names_of, trace, ends_of}
use Rattle.cut_points.specs.Points.{points_of}
use Rattle.polygons.specs.declared.LayerCounts.{LayerCounts}

-- ---- the four lent tables, and their lengths

pub record CutTables : Type 0 where
  pub names : List ℕ
  pub points : List ℤ
  pub ends : List ℕ
  pub marks : List ℕ

abbrev pub lent : List ℕ → List ℤ → List ℕ → List ℕ → CutTables
lent names points ends marks = record { names = names; points = points; ends = ends; marks = marks }

pub record Lengths : Type 0 where
  pub names : ℕ
  pub points : ℕ
  pub ends : ℕ
  pub marks : ℕ

abbrev pub lengths : ℕ → ℕ → ℕ → ℕ → Lengths
lengths names points ends marks = record { names = names; points = points; ends = ends; marks = marks }

abbrev pub lengths_of : CutTables → Lengths
lengths_of t = lengths (length t.names) (length t.points) (length t.ends) (length t.marks)

-- ---- 9, unless names, ends and marks have one entry for each of n corners and points two, place 0 (CUT-9, WRONG-7)

unfoldable pub cut_room_for : ℕ → Lengths → Bool
cut_room_for n l = leb n l.names && leb (2 * n) l.points && leb n l.ends && leb n l.marks

abbrev pub room : ℕ → Lengths → Condition Told
room n l = whole (refusal 9) (not (cut_room_for n l))

-- ---- 16: a walk meets a crossing already used that is not its start, place that crossing (CUT-11)

unfoldable pub met_at : Traced → ℕ → Bool
met_at (contours rs) c = false
met_at (stuck p) c = eqb c p

abbrev pub used : ℕ → Traced → Condition Told
used n traced = record { tells = refusal 16; places = n; fits = met_at traced }

-- ---- the layer of height h

-- its contours (CUT-1)
abbrev pub section : PairedMesh → ℤ → Traced
section m h = trace (below m.mesh.coords h) m.mesh.corners m.pairing

abbrev pub contours_of : Traced → List (List ℕ)
contours_of (contours rs) = rs
contours_of (stuck p) = []

-- the counts of contours and points (CUT-6)
abbrev pub counts_of : List (List ℕ) → ℕ × ℕ
counts_of rs = (length rs, length (names_of rs))

-- names (CUT-2), points (CUT-3) and ends (CUT-4) of the contours rs, and marks zero in
-- one entry for each corner (CUT-5), unused entries as before (CUT-7); after 16 zeros in
-- all entries asked for under 9 (CUT-12), after other refusals all as before (CUT-13)
abbrev pub tables_after_cut : Mesh → ℤ → List (List ℕ) → CutTables → Finding Told → CutTables
tables_after_cut m h rs t f =
    let n = length m.corners in
    lent
    (after (numbered (16 ∷ [])) f (names_of rs) n 0 t.names)
    (after (numbered (16 ∷ [])) f (points_of m h (names_of rs)) (2 * n) (pos 0) t.points)
    (after (numbered (16 ∷ [])) f (ends_of rs) n 0 t.ends)
    (after (numbered (16 ∷ [])) f (replicate n 0) n 0 t.marks)

-- ---- Cut as a whole

-- the refusals that tests of the tables find: 1, 9, 2, 3, 4 and 7 (CUT-8)
abbrev pub cut_tests : PairedMesh → Lengths → List (Condition Told)
cut_tests m l = size m.mesh ∷ room (length m.mesh.corners) l ∷ content_tests m

-- its refusals in order, 16 last (CUT-8)
abbrev pub cutting : PairedMesh × ℤ × CutTables → Operation Told (ℕ × ℕ) CutTables
cutting = λ (m, h, t). record {
  refusals = cut_tests m (lengths_of t) ++ (used (length m.mesh.corners) (section m h) ∷ []);
  values = counts_of (contours_of (section m h));
  leaves = tables_after_cut m.mesh h (contours_of (section m h)) t;
}

-- what its answer says: the counts of contours and points (CUT-6)
abbrev pub tell_cut : Result LayerCounts Refusal → Answer Told (ℕ × ℕ)
tell_cut = tell (λ v. (v.contours, v.points))

abbrev pub Cuts : PairedMesh → ℤ → CutTables → Result LayerCounts Refusal → CutTables → Type 0
Cuts m h t result t' = Does cutting tell_cut (m, h, t) result t'

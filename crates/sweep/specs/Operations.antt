-- Start (START-1 to START-6), Step (STEP-1 to STEP-10) and Layer (LAYER-1 to LAYER-8):
-- their refusals in order, what they answer, and what they leave in the lent tables.
use Rattle.std.specs.Prelude.{ℕ, suc, Bool, not, cond, ◌&&◌, List, [], ◌∷◌, ◌++◌, ltb, eqb, length, get_or, ℤ, Option, Some, None, Result}
use Rattle.laws.specs.Least.{some}
use Rattle.mesh.specs.Corners.{vertex_count}
use Rattle.mesh.specs.Meshes.{Mesh, PairedMesh, OrderedMesh}
use Rattle.mesh.specs.Operation.{Answer, Condition, whole, Operation, Does}
-- a refusal changes nothing (START-3, STEP-10, LAYER-7, ALL-15)
unfoldable pub use Rattle.mesh.specs.Operation.{unless_refused}
use Rattle.mesh.specs.Refusals.{Told, refusal, tell}
use Rattle.mesh.specs.Tests.{size, orders}
use Rattle.mesh.specs.declared.Refusal.{Refusal}
use Rattle.mesh_tables.specs.MeshTests.{content_tests}
use Rattle.section.specs.Section.{below, ring_entry}
use Rattle.section.specs.Contours.{Traced}
use Rattle.section.specs.Links.{trace_links}
use Rattle.cut.specs.Cut.{CutTables, Lengths, lengths_of, cut_tests, used, contours_of, counts_of, tables_after_cut}
use Rattle.sweep.specs.declared.State.{State}
use Rattle.sweep.specs.declared.Risen.{Risen}
use Rattle.sweep.specs.Sweep.{Sweep, mesh_of, sweep_pairing, passed_at, fresh_ring, step_ring, risen_to, risen_ring}

-- the state with so many passed
abbrev pub at : ℕ → State
at n = record { passed = n }

-- ---- the refusals that only the sweep has

-- 9 of Start: the ring table has fewer entries than corners (START-2)
abbrev pub ring_room : List ℕ → ℕ → Condition Told
ring_room corners ring = whole (refusal 9) (ltb ring (length corners))

-- 10: more passed than vertices, place 0 (STEP-8)
abbrev pub too_many : List ℤ → ℕ → Condition Told
too_many coords n = whole (refusal 10) (ltb (vertex_count coords) n)

-- 11 of Step: a ring table shorter than the corners, place its length (STEP-9)
abbrev pub short_ring : List ℕ → ℕ → Condition Told
short_ring corners ring = whole (λ i. refusal 11 ring) (ltb ring (length corners))

-- 11 of Layer: the least corner whose ring entry is missing or not as defined for the passed count (LAYER-5)
unfoldable pub linked_at : Sweep → ℕ → Bool
linked_at s c =
    ltb c (length s.ring)
    && eqb (get_or s.ring c 0) (ring_entry (passed_at s.ordered.order s.passed) (mesh_of s).corners (sweep_pairing s) c)

abbrev pub wrong_ring : Sweep → Condition Told
wrong_ring s = record { tells = refusal 11; places = length (mesh_of s).corners; fits = λ c. not (linked_at s c) }

-- 12: a passed vertex has z ≥ h, place 0 (LAYER-6), and so the same height may
-- be asked twice (LAYER-3); 8 and 10 come before, so that the order has them
unfoldable pub passed_high : List ℤ → List ℕ → ℕ → ℤ → Bool
passed_high coords order n h = some n (λ i. not (below coords h (get_or order i 0)))

abbrev pub not_above : List ℤ → List ℕ → ℕ → ℤ → Condition Told
not_above coords order n h = whole (refusal 12) (passed_high coords order n h)

-- ---- Start

-- its refusals in order, for a ring table of this length (START-1)
abbrev pub start_tests : Mesh → ℕ → List (Condition Told)
start_tests m ring = size m ∷ ring_room m.corners ring ∷ []

-- it gives the fresh state, none passed (SWEEP-4, START-6)
abbrev pub starting : Mesh × List ℕ → Operation Told ℕ (List ℕ)
starting = λ (m, ring). record {
  refusals = start_tests m (length ring);
  values = 0;
  leaves = unless_refused (fresh_ring m.corners ring) ring;
}

-- what its answer says: the count of passed vertices (START-6)
abbrev pub tell_start : Result State Refusal → Answer Told ℕ
tell_start = tell (λ s. s.passed)

abbrev pub Starts : Mesh → List ℕ → Result State Refusal → List ℕ → Type 0
Starts m ring result ring' = Does starting tell_start (m, ring) result ring'

-- ---- Step

-- 1, 2, 3, 4 and 7
abbrev pub linked_tests : PairedMesh → List (Condition Told)
linked_tests m = size m.mesh ∷ content_tests m

-- 8 and 10, with n passed
abbrev pub state_tests : List ℤ → List ℕ → ℕ → List (Condition Told)
state_tests coords order n = orders coords order ∷ too_many coords n ∷ []

-- its refusals in order, for a ring table of this length, with n passed (STEP-6)
abbrev pub step_tests : OrderedMesh → ℕ → ℕ → List (Condition Told)
step_tests m ring n =
    linked_tests m.paired ++ (state_tests m.paired.mesh.coords m.order n ++ (short_ring m.paired.mesh.corners ring ∷ []))

-- what it gives: the count of passed vertices (STEP-1), or "top" (STEP-4)
pub data StepGives : Type 0 where
  passes : ℕ → StepGives
  top : StepGives

-- "top" exactly if all vertices were passed already (STEP-4, WRONG-6),
-- and then it changes nothing (STEP-5); else one more is passed (STEP-1)
abbrev pub stepping : Sweep → Operation Told StepGives (List ℕ)
stepping s =
    let next = ltb s.passed (vertex_count (mesh_of s).coords) in
    record {
      refusals = step_tests s.ordered (length s.ring) s.passed;
      values = cond next (passes (suc s.passed)) top;
      leaves = unless_refused (cond next (step_ring s) s.ring) s.ring;
    }

-- what its answer says: no state is "top"
abbrev pub next_or_top : Option State → StepGives
next_or_top (Some s) = passes s.passed
next_or_top None = top

abbrev pub tell_step : Result (Option State) Refusal → Answer Told StepGives
tell_step = tell next_or_top

abbrev pub Steps : Sweep → Result (Option State) Refusal → List ℕ → Type 0
Steps s result ring' = Does stepping tell_step s result ring'

-- ---- Layer at h

-- the count of passed vertices and the ring table after the rise (LAYER-1), and the contours of that table (LAYER-2)
abbrev pub risen_passed : Sweep → ℤ → ℕ
risen_passed s h = risen_to (mesh_of s).coords s.ordered.order h (vertex_count (mesh_of s).coords) s.passed

abbrev pub risen_table : Sweep → ℤ → List ℕ
risen_table s h = risen_ring h (vertex_count (mesh_of s).coords) s

abbrev pub risen_section : Sweep → ℤ → Traced
risen_section s h = trace_links (length (mesh_of s).corners) (risen_table s h)

-- 8, 10, 11 and 12
abbrev pub sweep_tests : Sweep → ℤ → List (Condition Told)
sweep_tests s h =
    state_tests (mesh_of s).coords s.ordered.order s.passed
    ++ (wrong_ring s ∷ not_above (mesh_of s).coords s.ordered.order s.passed h ∷ [])

-- those that tests of the tables find: those of Cut, then these (LAYER-4)
abbrev pub rise_tests : Sweep → ℤ → Lengths → List (Condition Told)
rise_tests s h l = cut_tests s.ordered.paired l ++ sweep_tests s h

-- the rise and its layer, with these tests before 16: the state after it (LAYER-1)
-- and the counts of contours and points (LAYER-2); a refusal leaves the ring table
-- (LAYER-7), and in the tables of Cut what it leaves there in Cut (LAYER-8)
abbrev pub lifting : List (Condition Told) → Sweep × ℤ × CutTables → Operation Told (ℕ × (ℕ × ℕ)) (List ℕ × CutTables)
lifting earlier = λ (s, h, t). record {
  refusals = earlier ++ (used (length (mesh_of s).corners) (risen_section s h) ∷ []);
  values = (risen_passed s h, counts_of (contours_of (risen_section s h)));
  leaves = λ f. (unless_refused (risen_table s h) s.ring f, tables_after_cut (mesh_of s) h (contours_of (risen_section s h)) t f);
}

-- its refusals in order, 16 last (LAYER-4)
abbrev pub layering : Sweep × ℤ × CutTables → Operation Told (ℕ × (ℕ × ℕ)) (List ℕ × CutTables)
layering = λ (s, h, t). lifting (rise_tests s h (lengths_of t)) (s, h, t)

-- what its answer says: the state, and the counts of contours and points
abbrev pub tell_layer : Result Risen Refusal → Answer Told (ℕ × (ℕ × ℕ))
tell_layer = tell (λ r. (r.state.passed, (r.counts.contours, r.counts.points)))

abbrev pub Rises : Sweep → ℤ → CutTables → Result Risen Refusal → List ℕ → CutTables → Type 0
Rises s h t result ring' t' = Does layering tell_layer (s, h, t) result (ring', t')

-- The third demand about the sweep (RUN-1 to RUN-7, RUN-9): a list of vertex steps and rises that follows
-- a start, the plain sweep that is fed the list (PLAIN-1 to PLAIN-5), and the one claim about the list.
use Rattle.std.specs.Prelude.{ℕ, suc, ◌<◌, ◌≤◌, ◌≡◌, ◌⊎◌, Bool, true, false, cond, List, [], ◌∷◌, ltb, length, get_or, ℤ, Option, Result}
use Rattle.mesh.specs.Corners.{vertex_count, triangle_of}
use Rattle.mesh.specs.Meshes.{PairedMesh, OrderedMesh}
use Rattle.mesh.specs.Operation.{Answer, gives, refuses, is_refusal}
use Rattle.mesh.specs.Refusals.{Told}
use Rattle.mesh.specs.Tests.{pair_of}
use Rattle.section.specs.Section.{rising, ring_entry}
use Rattle.section.specs.Rings.{Ring}
use Rattle.section.specs.Contours.{contours, trace}
use Rattle.section.specs.Layers as layers
use Rattle.section.specs.Links.{trace_links}
use Rattle.cut.specs.Cut.{CutTables, tell_cut, Cuts}
use Rattle.polygons.specs.declared.LayerCounts.{LayerCounts}
use Rattle.mesh.specs.declared.Refusal.{Refusal}
use Rattle.sweep.specs.declared.State.{State}
use Rattle.sweep.specs.declared.Risen.{Risen}
use Rattle.sweep.specs.Sweep.{Sweep, sweep, passed_at, touches, count_below}
use Rattle.sweep.specs.Operations.{tell_start, Starts, StepGives, passes, top, tell_step, Steps, tell_layer, Rises}

-- ---- calls

-- a vertex step is a call of Step, a rise one of Layer (RUN-1). Each carries its
-- own inputs, its answer and its tables at exit, which its contract ties together
pub data Call : Type 0 where
  step : (s : Sweep) (answer : Result (Option State) Refusal) (ring' : List ℕ) → Steps s answer ring' → Call
  rise : (s : Sweep) (h : ℤ) (t : CutTables) (answer : Result Risen Refusal) (ring' : List ℕ) (t' : CutTables) → Rises s h t answer ring' t' → Call

-- its answer is a refusal
unfoldable pub refused : Call → Bool
refused (step s answer ring' ok) = is_refusal (tell_step answer)
refused (rise s h t answer ring' t' ok) = is_refusal (tell_layer answer)

-- what it was handed
unfoldable pub given : Call → Sweep
given (step s answer ring' ok) = s
given (rise s h t answer ring' t' ok) = s

-- the count after a step, and after a rise, that was handed n and told this: at the top, and on a refusal, still n
abbrev pub count_after_step : ℕ → Answer Told StepGives → ℕ
count_after_step n (gives (passes k)) = k
count_after_step n (gives top) = n
count_after_step n (refuses r) = n

abbrev pub count_after_rise : ℕ → Answer Told (ℕ × (ℕ × ℕ)) → ℕ
count_after_rise n (gives (k, counts)) = k
count_after_rise n (refuses r) = n

-- the count and the ring table that it leaves
unfoldable pub passed_after : Call → ℕ
passed_after (step s answer ring' ok) = count_after_step s.passed (tell_step answer)
passed_after (rise s h t answer ring' t' ok) = count_after_rise s.passed (tell_layer answer)

unfoldable pub ring_after : Call → List ℕ
ring_after (step s answer ring' ok) = ring'
ring_after (rise s h t answer ring' t' ok) = ring'

-- ---- a list of calls on one mesh, with one pairing and one order

-- Run m n r calls n' r': the list begins with n passed and ring table r, and ends with n' and r'
pub data Run (m : OrderedMesh) : ℕ → List ℕ → List Call → ℕ → List ℕ → Type 0 where
  -- the list may be empty (RUN-1)
  done : {n : ℕ} {r : List ℕ} → Run m n r [] n r
  -- a refused call may have been handed anything, and hands on nothing (RUN-2)
  skipped : {n n' : ℕ} {r r' : List ℕ} {c : Call} {cs : List Call} → refused c ≡ true → Run m n r cs n' r' → Run m n r (c ∷ cs) n' r'
  -- an unrefused one is handed the same mesh, pairing and order, and the
  -- ring table and the count that the last unrefused one left (RUN-2)
  taken : {n n' : ℕ} {r r' : List ℕ} {c : Call} {cs : List Call} → refused c ≡ false → given c ≡ sweep m r n
      → Run m (passed_after c) (ring_after c) cs n' r' → Run m n r (c ∷ cs) n' r'

-- ---- the plain sweep

-- what is called: Step, or Layer at h
pub data Move : Type 0 where
  up : Move
  to : ℤ → Move

unfoldable pub move_of : Call → Move
move_of (step s answer ring' ok) = up
move_of (rise s h t answer ring' t' ok) = to h

-- the plane's position after an unrefused call: Step adds 1 up to the number of
-- vertices (PLAIN-3); Layer makes it the number of vertices with z < h (PLAIN-4)
unfoldable pub moved : List ℤ → ℕ → Move → ℕ
moved coords n up = cond (ltb n (vertex_count coords)) (suc n) n
moved coords n (to h) = count_below coords h

-- the plain sweep has one number, the position (PLAIN-2), and is fed the calls and
-- which of them are refused (PLAIN-1); a refused call leaves the position (PLAIN-5)
unfoldable pub plane_after : List ℤ → ℕ → List (Move × Bool) → ℕ
plane_after coords n [] = n
plane_after coords n (f ∷ fs) = plane_after coords (cond f.1 n (moved coords n f.0)) fs

unfoldable pub fed : List Call → List (Move × Bool)
fed [] = []
fed (c ∷ cs) = (move_of c, refused c) ∷ fed cs

-- ---- what each call of the list did

-- a step that passed vertex v changed only entries of corners whose paired corner's triangle touches v (RUN-7);
-- the tables are as long as each other, so past their ends nothing differs
pub record OnlyTouched (m : PairedMesh) (v : ℕ) (ring ring' : List ℕ) : Type 0 where
  pub same_length : length ring' ≡ length ring
  pub only : (c : ℕ) → (get_or ring' c 0 ≡ get_or ring c 0 → ⊥)
      → (c < length m.mesh.corners) × (touches m.mesh.corners (triangle_of (pair_of m.pairing c)) v ≡ true)

-- a rise to h, lent the tables t, that gave j contours and k points and left t' gave what Cut gives for the same mesh, pairing, height and tables (RUN-6):
-- Cut's contract allows an answer that gives them and leaves t', and no other outcome
pub record GivesCut (m : PairedMesh) (h : ℤ) (t : CutTables) (j k : ℕ) (t' : CutTables) : Type 0 where
  pub answer : Result LayerCounts Refusal
  pub tells : tell_cut answer ≡ gives (j, k)
  pub cuts : Cuts m h t answer t'
  pub alone : (other : Result LayerCounts Refusal) (t'' : CutTables) → Cuts m h t other t'' → (tell_cut other ≡ gives (j, k)) × (t'' ≡ t')

-- what a step that told this did: it passed a vertex as above; at the top, and on a refusal, the ring table stayed.
-- A step that passed one was tested by 8 and was not at the top, so the order has the vertex
abbrev pub StepDid : OrderedMesh → Sweep → List ℕ → Answer Told StepGives → Type 0
StepDid m s ring' (gives (passes n)) = OnlyTouched m.paired (get_or m.order s.passed 0) s.ring ring'
StepDid m s ring' (gives top) = ring' ≡ s.ring
StepDid m s ring' (refuses r) = ring' ≡ s.ring

-- what a rise that told this did: it gave what Cut gives; on a refusal the ring table stayed
abbrev pub RiseDid : OrderedMesh → Sweep → ℤ → CutTables → List ℕ → CutTables → Answer Told (ℕ × (ℕ × ℕ)) → Type 0
RiseDid m s h t ring' t' (gives (n, (j, k))) = GivesCut m.paired h t j k t'
RiseDid m s h t ring' t' (refuses r) = ring' ≡ s.ring

-- what a call on this mesh, with this pairing and order, did
unfoldable pub Did : OrderedMesh → Call → Type 0
Did m (step s answer ring' ok) = StepDid m s ring' (tell_step answer)
Did m (rise s h t answer ring' t' ok) = RiseDid m s h t ring' t' (tell_layer answer)

-- it holds of each call of the list
pub data EachCall (P : Call → Type 0) : List Call → Type 0 where
  none : EachCall P []
  and : {c : Call} {cs : List Call} → P c → EachCall P cs → EachCall P (c ∷ cs)

-- ---- the claim

-- the rings of the ring table are those of a cut made afresh with n passed
-- (SWEEP-2): each contour closed, from its least corner on, every crossing once
pub record Afresh (m : OrderedMesh) (n : ℕ) (ring : List ℕ) : Type 0 where
  pub rings : List (List ℕ)
  pub layer : layers.LayerContours (passed_at m.order n) m.paired.mesh.corners m.paired.pairing rings
  pub walked : trace_links (length m.paired.mesh.corners) ring ≡ contours rings
  pub traced : trace (passed_at m.order n) m.paired.mesh.corners m.paired.pairing ≡ contours rings

-- what holds after the list, where n is the plane's position
pub record Swept (m : OrderedMesh) (calls : List Call) (n passed : ℕ) (ring : List ℕ) : Type 0 where
  -- the state equals the position (RUN-3)
  pub position : passed ≡ n
  -- each corner's ring entry is there, and as defined with so many passed (RUN-4, WRONG-4, WRONG-5)
  pub long : length m.paired.mesh.corners ≤ length ring
  pub entries : (c : ℕ) → c < length m.paired.mesh.corners
      → get_or ring c 0 ≡ ring_entry (passed_at m.order n) m.paired.mesh.corners m.paired.pairing c
  -- so the rings are exactly those of a cut made afresh at the position (RUN-4)
  pub afresh : Afresh m n ring
  -- a corner and its pair are one edge, crossed if either is rising; never both are (RUN-5)
  pub one_rises : (c : ℕ) → c < length m.paired.mesh.corners → rising (passed_at m.order n) m.paired.mesh.corners c ≡ true
      → rising (passed_at m.order n) m.paired.mesh.corners (pair_of m.paired.pairing c) ≡ true → ⊥
  -- from the one that is, the entries lead back to it, meeting no crossing twice on the way (RUN-5)
  pub rings : (c d : ℕ) → c < length m.paired.mesh.corners → (d ≡ c) ⊎ (d ≡ pair_of m.paired.pairing c)
      → rising (passed_at m.order n) m.paired.mesh.corners d ≡ true → Ring (λ k. get_or ring k 0) (length m.paired.mesh.corners) d
  -- each unrefused rise gave what Cut gives (RUN-6); each step changed only entries
  -- whose paired triangle touches its vertex (RUN-7); a refused call left its ring table
  pub each : EachCall (Did m) calls

-- The third demand about the list of calls, one claim (RUN-9).
-- The hypotheses (RUN-1, RUN-2), and why a caller can meet them:
-- * the start is not refused: Start refuses only tables of a wrong length or beyond the limits (1) and a ring table shorter than the corners (9);
-- * the list is a run: the caller keeps mesh, pairing and order, and hands each call the state and the ring table that the last unrefused one left, which
--   nobody else writes. A refused call may get anything, so whatever is refused leaves the list a run. No right pairing or order is asked for: an unrefused
--   call has tested both (7, 8), and before the first one nothing is passed.
abbrev pub SweepClaim : Type 0
SweepClaim =
    (m : OrderedMesh) (ring : List ℕ) (start : Result State Refusal) (n : ℕ) (ring₀ : List ℕ) → Starts m.paired.mesh ring start ring₀ → tell_start
    start ≡ gives n
    → (calls : List Call) (passed : ℕ) (ring' : List ℕ) → Run m n ring₀ calls passed ring'
    → Swept m calls (plane_after m.paired.mesh.coords 0 (fed calls)) passed ring'

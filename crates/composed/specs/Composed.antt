-- After an unrefused Check, with the tables that it left (CHECK-14): what can still
-- refuse Cut, Start, Step, Layer and All layers. Where the lent tables have room
-- none of 1, 9, 2, 3, 4, 7 and 8 can, but 1 of All layers for too many heights.
use Rattle.std.specs.Prelude.{ℕ, ◌<◌, ◌≤◌, ◌≡◌, true, List, [], ◌∷◌, length, ℤ, Result, Option}
use Rattle.mesh.specs.Corners.{vertex_count}
use Rattle.mesh.specs.Meshes.{Mesh, PairedMesh, OrderedMesh}
use Rattle.mesh.specs.Operation.{Answer, gives, refuses}
use Rattle.mesh.specs.Refusals.{Told, refusal, numbered}
use Rattle.mesh.specs.Tests.{pair_of, reverse}
use Rattle.check_mesh.specs.Check.{CheckTables, tell_check, Checks}
use Rattle.mesh.specs.declared.Refusal.{Refusal}
use Rattle.polygons.specs.declared.LayerCounts.{LayerCounts}
use Rattle.sweep.specs.declared.Risen.{Risen}
use Rattle.sweep.specs.declared.State.{State}
use Rattle.cut.specs.Cut.{CutTables, lengths_of, cut_room_for, tell_cut, Cuts}
use Rattle.sweep.specs.Sweep.{sweep, RingAt, count_below}
use Rattle.sweep.specs.Operations.{tell_start, Starts, tell_step, Steps, tell_layer, Rises}
use Rattle.cleaning.specs.declared.Profile.{Profile}
use Rattle.file_formats.specs.LayerFile.{most_layers}
use Rattle.all_heights.specs.Heights.{heights_taken}
use Rattle.all_heights.specs.Taking.{RisingHeights}
use Rattle.all_sweep.specs.AllLayers.{cut_file, WorkTables, work_room_for, tell_all_layers, Files}
use Rattle.demand_three.specs.Claim.{Call, Run}

-- ---- a right pairing

-- the pair of a corner is another corner with the reverse edge, and its pair is the corner itself (MESH-8)
pub record AnotherCorner (corners pairing : List ℕ) (c : ℕ) : Type 0 where
  pub corner : pair_of pairing c < length corners
  pub another : pair_of pairing c ≡ c → ⊥
  pub turned : reverse corners c (pair_of pairing c) ≡ true
  pub back : pair_of pairing (pair_of pairing c) ≡ c

-- ---- what is left to refuse

-- the answer is a result, or a refusal with one of these numbers; with no number it is a result
abbrev pub RefusedOnly : {G : Type 0} → List ℕ → Answer Told G → Type 0
RefusedOnly ns (gives g) = Unit {0}
RefusedOnly ns (refuses r) = numbered ns r ≡ true

-- a mesh with the pairing and the order that Check left
abbrev pub with_left : Mesh → CheckTables → OrderedMesh
with_left m t = record { paired = record { mesh = m; pairing = t.pairing }; order = t.order }

-- Step, with any state and ring table: 10 and 11; with no more passed than vertices and an entry for each corner nothing
pub record StepAfter (m : Mesh) (ring : List ℕ) (n : ℕ) (result : Result (Option State) Refusal) : Type 0 where
  pub only : RefusedOnly (10 ∷ 11 ∷ []) (tell_step result)
  pub given : n ≤ vertex_count m.coords → length m.corners ≤ length ring → RefusedOnly [] (tell_step result)

-- Layer, with any state and ring table: 10, 11 and 12; with no more passed than vertices, a ring table as defined for them, and no vertex passed that is not
-- below h nothing
pub record RiseAfter (m : OrderedMesh) (ring : List ℕ) (n : ℕ) (h : ℤ) (result : Result Risen Refusal) : Type 0 where
  pub only : RefusedOnly (10 ∷ 11 ∷ 12 ∷ []) (tell_layer result)
  pub given : n ≤ vertex_count m.paired.mesh.coords → RingAt (sweep m ring n) → n ≤ count_below m.paired.mesh.coords h
      → RefusedOnly [] (tell_layer result)

-- All layers in either profile, with these heights taken: 1, 12 and 14, and 1 only for too many heights; with few enough that rise 14; and with room for the
-- file nothing
pub record FiledAfter (p : Profile) (m : PairedMesh) (hs : List ℤ) (output : List ℕ) (result : Result ℕ Refusal) : Type 0 where
  pub only : RefusedOnly (1 ∷ 12 ∷ 14 ∷ []) (tell_all_layers result)
  pub too_many_lem : (place : ℕ) → tell_all_layers result ≡ refuses (refusal 1 place) → most_layers < length hs
  pub short : length hs ≤ most_layers → RisingHeights hs → RefusedOnly (14 ∷ []) (tell_all_layers result)
  pub given : length hs ≤ most_layers → RisingHeights hs → length (cut_file p m hs) ≤ length output → RefusedOnly [] (tell_all_layers result)

-- ---- the theorem

-- what holds of a mesh and the tables that Check left, where the tables that the next operation is lent have room
pub record Composed (m : Mesh) (t : CheckTables) : Type 0 where
  pub pairs : (c : ℕ) → c < length m.corners → AnotherCorner m.corners t.pairing c
  -- nothing refuses Cut and Start
  pub cut : (h : ℤ) (u u' : CutTables) (result : Result LayerCounts Refusal) → cut_room_for (length m.corners) (lengths_of u) ≡ true
      → Cuts (with_left m t).paired h u result u' → RefusedOnly [] (tell_cut result)
  pub start : (ring ring' : List ℕ) (result : Result State Refusal) → length m.corners ≤ length ring → Starts m ring result ring'
      → RefusedOnly [] (tell_start result)
  pub step : (ring : List ℕ) (n : ℕ) (result : Result (Option State) Refusal) (ring' : List ℕ)
      → Steps (sweep (with_left m t) ring n) result ring' → StepAfter m ring n result
  pub rise : (ring : List ℕ) (n : ℕ) (h : ℤ) (u u' : CutTables) (result : Result Risen Refusal) (ring' : List ℕ)
      → cut_room_for (length m.corners) (lengths_of u) ≡ true → Rises (sweep (with_left m t) ring n) h u result ring' u'
      → RiseAfter (with_left m t) ring n h result
  -- calls of Step and Layer after an unrefused Start leave no more passed than vertices, and a ring table as defined for them
  pub onward : (ring : List ℕ) (result : Result State Refusal) (k : ℕ) (ring₀ : List ℕ) → Starts m ring result ring₀ → tell_start result ≡ gives k
      → (calls : List Call) (n : ℕ) (ring' : List ℕ) → Run (with_left m t) k ring₀ calls n ring'
      → (n ≤ vertex_count m.coords) × RingAt (sweep (with_left m t) ring' n)
  pub filed : (p : Profile) (heights : List ℤ) (w w' : WorkTables) (output output' : List ℕ) (result : Result ℕ Refusal)
      → work_room_for (length m.corners) (lengths_of w.cut) (length w.ring) ≡ true → Files p (with_left m t) heights w output result w' output'
      → FiledAfter p (with_left m t).paired (heights_taken m.coords heights) output result

-- Check accepted the mesh and left the tables t'
abbrev pub AfterCheck : Type 0
AfterCheck = (m : Mesh) (t t' : CheckTables) (checked : Result Unit Refusal) → Checks m t checked t' → tell_check checked ≡ gives tt → Composed m t'

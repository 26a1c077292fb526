-- The third demand about All layers (RUN-8), in its full and in its clean form (ALLCLEAN-3): its file is the layer file of Cut at each
-- height taken, as it is or cleaned, which is what Layer leaves on the way up from a start. Below it the demand whole (RUN-10).
use Rattle.std.specs.Prelude.{ℕ, ◌≡◌, true, List, [], ◌∷◌, ◌++◌, map, length, take, drop, ℤ, Result}
use Rattle.mesh.specs.Meshes.{PairedMesh, OrderedMesh}
use Rattle.mesh.specs.Operation.{gives, fine, Condition, verdict}
use Rattle.mesh.specs.Refusals.{Told}
use Rattle.mesh.specs.Tests.{orders}
use Rattle.cleaning.specs.declared.Profile.{Profile}
use Rattle.file_formats.specs.LayerFile as files
use Rattle.file_write.specs.Written.{layer_of}
use Rattle.cut.specs.Cut.{CutTables, lengths_of, cut_room_for, tell_cut, Cuts}
use Rattle.polygons.specs.declared.LayerCounts.{LayerCounts}
use Rattle.mesh.specs.declared.Refusal.{Refusal}
use Rattle.sweep.specs.declared.State.{State}
use Rattle.sweep.specs.declared.Risen.{Risen}
use Rattle.sweep.specs.Sweep.{Sweep, fresh_ring}
use Rattle.sweep.specs.Operations.{linked_tests, tell_start, Starts, tell_layer, Rises}
use Rattle.all_heights.specs.Heights.{heights_taken}
use Rattle.all_heights.specs.Taking.{RisingHeights}
use Rattle.all_sweep.specs.AllLayers.{cut_layer, cut_file, WorkTables, tell_all_layers, Files}
use Rattle.demand_three.specs.Claim.{Call, rise, Run, SweepClaim}

-- ---- the layer of a height

-- this is the layer of Cut at h: Cut is not refused where its tables have room, whatever is in them, and leaves this layer in them; and so does every
-- unrefused rise to h
pub record LayerOfCut (m : PairedMesh) (h : ℤ) (layer : files.Layer) : Type 0 where
  pub cuts : (t t' : CutTables) (answer : Result LayerCounts Refusal) → cut_room_for (length m.mesh.corners) (lengths_of t) ≡ true → Cuts m h t answer t'
      → (j : ℕ) × (k : ℕ) × (tell_cut answer ≡ gives (j, k)) × (layer_of h t'.points t'.ends j ≡ layer)
  pub rises : (s : Sweep) → s.ordered.paired ≡ m → (t t' : CutTables) (answer : Result Risen Refusal) (n j k : ℕ) (ring' : List ℕ) → Rises s h t answer ring' t'
      → tell_layer answer ≡ gives (n, (j, k)) → layer_of h t'.points t'.ends j ≡ layer

-- ---- up the heights by Layer

-- the calls are unrefused rises, and the tables that they leave hold these layers, with the heights of the calls
pub data Leave : List Call → List files.Layer → Type 0 where
  no_call : Leave [] []
  next_call : {s : Sweep} {h : ℤ} {t t' : CutTables} {answer : Result Risen Refusal} {n j k : ℕ} {ring' : List ℕ} {cs : List Call} {ls : List files.Layer}
      (ok : Rises s h t answer ring' t') → tell_layer answer ≡ gives (n, (j, k)) → Leave cs ls
      → Leave (rise s h t answer ring' t' ok ∷ cs) (layer_of h t'.points t'.ends j ∷ ls)

-- with n passed and ring table r, calls of Layer, none refused, leave these layers
pub record Ascent (m : OrderedMesh) (n : ℕ) (r : List ℕ) (ls : List files.Layer) : Type 0 where
  pub calls : List Call
  pub passed : ℕ
  pub ring : List ℕ
  pub run : Run m n r calls passed ring
  pub leave : Leave calls ls

-- the tests of mesh, pairing and order: 1, 2, 3, 4, 7 and 8. A caller can pass them all: a mesh that Check accepts passes the first four, and the tables that
-- Check then fills pass 7 and 8
abbrev pub right_tests : OrderedMesh → List (Condition Told)
right_tests m = linked_tests m.paired ++ (orders m.paired.mesh.coords m.order ∷ [])

-- Strictly rising heights can be climbed by Layer from a start, on a right mesh with tables that have room, and what the calls leave is the layer of Cut at
-- each of them.
abbrev pub ClimbClaim : Type 0
ClimbClaim =
    (m : OrderedMesh) → verdict (right_tests m) ≡ fine → (t : CutTables) → cut_room_for (length m.paired.mesh.corners) (lengths_of t) ≡ true
    → (ring : List ℕ) (start : Result State Refusal) (n : ℕ) (ring₀ : List ℕ) → Starts m.paired.mesh ring start ring₀ → tell_start start ≡ gives n
    → (hs : List ℤ) → RisingHeights hs → Ascent m n ring₀ (map (cut_layer m.paired) hs)

-- ---- All layers

-- an answer n and an output are the length and the bytes of the layer file of Cut at each of these heights, each layer in the profile
pub record FileOfCuts (p : Profile) (m : OrderedMesh) (hs : List ℤ) (w : WorkTables) (output : List ℕ) (n : ℕ) (output' : List ℕ) : Type 0 where
  -- the layers of the file are those of Cut, as they are or cleaned
  pub cut : (h : ℤ) → LayerOfCut m.paired h (cut_layer m.paired h)
  pub size : n ≡ length (cut_file p m.paired hs)
  pub bytes : take n output' ≡ cut_file p m.paired hs
  -- what was in the output past them stays
  pub past : drop n output' ≡ drop n output
  -- Start is not refused the lent ring table, and calls of Layer from there, none refused, leave the layers of Cut at these heights
  pub start : (answer : Result State Refusal) × (tell_start answer ≡ gives 0) × Starts m.paired.mesh w.ring answer (fresh_ring m.paired.mesh.corners w.ring)
  pub ascent : Ascent m 0 (fresh_ring m.paired.mesh.corners w.ring) (map (cut_layer m.paired) hs)

-- The third demand about All layers (RUN-8), and its clean form (ALLCLEAN-3): where it is not refused, it gives the length and the
-- bytes of the layer file of Cut at each height taken, in the full profile as it is, in the clean profile cleaned. A caller can
-- meet the hypothesis: only a listed condition refuses (`all_layers_given`, all_sweep/LayersLaws), and after Check none but
-- those of heights and room (`FiledAfter`, composed).
abbrev pub FileClaim : Type 0
FileClaim =
    (p : Profile) (m : OrderedMesh) (heights : List ℤ) (w w' : WorkTables) (output output' : List ℕ) (answer : Result ℕ Refusal) (n : ℕ)
    → Files p m heights w output answer w' output' → tell_all_layers answer ≡ gives n
    → FileOfCuts p m (heights_taken m.paired.mesh.coords heights) w output n output'

-- ---- the third demand, whole (RUN-10)

pub record DemandThree : Type 0 where
  pub sweeps : SweepClaim
  pub climbs : ClimbClaim
  pub files : FileClaim

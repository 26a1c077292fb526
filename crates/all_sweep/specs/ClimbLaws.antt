-- Swept is cut: up strictly rising heights, from a start, Layer gives at each height what Cut gives there, so that All layers' file is the layer file of Cut
-- at each height, in either profile, and 16 is met at none.
use Rattle.std.specs.Prelude.{ℕ, suc, ◌≤◌, ◌≡◌, true, List, [], ◌∷◌, map, ltb, ℤ, ◌<ℤ◌}
use Rattle.std.proofs.Math.Path.{refl, ap}
use Rattle.std.proofs.Common.{sym, ◌∙◌, subst}
use native.Mathlib.Omega.{arith}
use Rattle.std.proofs.Math.ListN.{length}
use Rattle.std.specs.Int.Signed.{lt_z}
use Rattle.laws.specs.Booleans.{and_parts, from_T}
use Rattle.laws.specs.TableLaws.{length_refill, refill_at}
use Rattle.mesh.specs.Corners.{vertex_count, z_of}
use Rattle.mesh.specs.Meshes.{OrderedMesh}
use Rattle.mesh.specs.Operation.{fine, test, verdict}
use Rattle.mesh.specs.OperationLaws.{nowhere_fine, then_fine}
use Rattle.mesh.specs.RankLaws.{lower_sum, sum_lower}
use Rattle.section.specs.Section.{below, rising, no_corner, ring_entry, Right}
use Rattle.section.specs.Contours.{Traced, member}
use Rattle.section.proofs.LayerLaws.{trace_layer}
use Rattle.cleaning.specs.declared.Profile.{Profile}
use Rattle.file_formats.specs.LayerFile.{Layer, layer_in, layer_file}
use Rattle.cut.specs.Cut.{met_at, contours_of}
use Rattle.sweep.specs.Sweep.{Sweep, sweep, mesh_of, passed_at, RingAt, fresh_ring, may_rise}
use Rattle.sweep.specs.SweepLaws.{may_rise_lem, count_few}
use Rattle.sweep.specs.Operations.{risen_table}
use Rattle.sweep.specs.Places.{InOrder, RiseTested}
use Rattle.sweep.proofs.RiseLaws.{rise_to, rise_table, rise_section}
use Rattle.all_heights.specs.HeightLaws.{RisingHeights}
use Rattle.all_sweep.specs.AllLayers.{drawn, swept_layer, risen, climb, climbed, swept_file, cut_layer, cut_file, used_at}

-- ---- from height to height

-- what is below a height is below a higher one
below_higher : (coords : List ℤ) (g h : ℤ) → g <ℤ h → (v : ℕ) → below coords g v ≡ true → below coords h v ≡ true
unfolding below
below_higher coords g h up v e =
    sum_lower (z_of coords v) h (omega (arith, lower_sum (z_of coords v) g e, lower_sum g h (from_T (lt_z g h) up.lt)))

-- Layer leaves a sweep that Layer can be called on at every higher height
risen_tested : (s : Sweep) (g h : ℤ) → RiseTested s g → g <ℤ h → RiseTested (risen s g) h
unfolding may_rise
risen_tested s g h r up =
    let coords = (mesh_of s).coords in
    let order = s.ordered.order in
    let to = rise_to s g r in
    record {
      placed = record { right = r.placed.right; ranked = r.placed.ranked; few = omega (arith, to, count_few coords order r.placed.ranked g) };
      table = subst (λ (n : ℕ). RingAt (sweep s.ordered (risen_table s g) n)) (sym to) (rise_table s g r);
      low = λ i l. below_higher coords g h up _
          (and_parts (ltb i (vertex_count coords)) _ (may_rise_lem coords order r.placed.ranked g i (omega (arith, to)))).1;
    }

-- ---- at one height

module _ (s : Sweep) (h : ℤ) (r : RiseTested s h) where
  swept_layer_lem : swept_layer (s, h) ≡ cut_layer s.ordered.paired h
  unfolding swept_layer cut_layer
  swept_layer_lem = ap (λ (t : Traced). drawn (mesh_of s) h (contours_of t)) (sym (rise_section s h r))

  used_fine : fine ≡ test (used_at (s, h))
  unfolding met_at
  used_fine =
      nowhere_fine (used_at (s, h)) (λ c l. ap (λ (t : Traced). met_at t c)
      (sym (rise_section s h r) ∙ (trace_layer (below (mesh_of s).coords h) (mesh_of s).corners s.ordered.paired.pairing r.placed.right.linked).1.0))

-- ---- up the heights

-- a sweep that Layer can be called on at the first of these heights
abbrev LayerReady : Sweep → List ℤ → Type 0
LayerReady s [] = Unit {0}
LayerReady s (h ∷ hs) = RiseTested s h

ready_on : (s : Sweep) (h : ℤ) (hs : List ℤ) → RiseTested s h → RisingHeights (h ∷ hs) → LayerReady (risen s h) hs
ready_on s h [] r up = tt
ready_on s h (g ∷ hs) r up = risen_tested s h g r (up 0 (omega arith))

-- whatever is made of each layer
layers_up : (f : Layer → Layer) (s : Sweep) (hs : List ℤ) → LayerReady s hs → RisingHeights hs
    → map (λ c. f (swept_layer c)) (climb s hs) ≡ map (λ h. f (cut_layer s.ordered.paired h)) hs
unfolding climb
layers_up f s [] r up = refl
layers_up f s (h ∷ hs) r up =
    λ i. f (swept_layer_lem s h r i) ∷ layers_up f (risen s h) hs (ready_on s h hs r up) (λ k l. up (suc k) (omega arith)) i

used_up : (s : Sweep) (hs : List ℤ) → LayerReady s hs → RisingHeights hs → verdict (map used_at (climb s hs)) ≡ fine
unfolding climb verdict
used_up s [] r up = refl
used_up s (h ∷ hs) r up =
    sym (then_fine (sym (used_fine s h r))) ∙ used_up (risen s h) hs (ready_on s h hs r up) (λ k l. up (suc k) (omega arith))

-- ---- from a start

module _ (m : OrderedMesh) (ring : List ℕ) (right : Right m.paired) (ranked : InOrder m.paired.mesh.coords m.order)
    (long : length m.paired.mesh.corners ≤ length ring) where
  -- the sweep that Start leaves
  abbrev begun : Sweep
  begun = sweep m (fresh_ring m.paired.mesh.corners ring) 0

  none_linked : (c : ℕ) → no_corner ≡ ring_entry (passed_at m.order 0) m.paired.mesh.corners m.paired.pairing c
  unfolding ring_entry rising passed_at member
  none_linked c = refl

  begun_tested : (h : ℤ) → RiseTested begun h
  unfolding fresh_ring
  begun_tested h =
      let n = length m.paired.mesh.corners in
      record {
        placed = record { right = right; ranked = ranked; few = omega arith };
        table = record {
          long = omega (arith, long, length_refill n (λ c. no_corner) ring long);
          entries = λ c l. refill_at n (λ c. no_corner) ring c 0 l ∙ none_linked c;
        };
        low = λ i l. absurd (omega arith);
      }

  begun_ready : (hs : List ℤ) → LayerReady begun hs
  begun_ready [] = tt
  begun_ready (h ∷ hs) = begun_tested h

  -- the layers, and so the file, are those of Cut at each height, in either profile
  pub swept_layers : (p : Profile) (hs : List ℤ) → RisingHeights hs
      → map (λ s. layer_in p (swept_layer s)) (climbed m ring hs) ≡ map (λ h. layer_in p (cut_layer m.paired h)) hs
  swept_layers p hs up = layers_up (layer_in p) begun hs (begun_ready hs) up

  pub swept_is_cut : (p : Profile) (hs : List ℤ) → RisingHeights hs → swept_file p m ring hs ≡ cut_file p m.paired hs
  swept_is_cut p hs up = ap layer_file.encode (swept_layers p hs up)

  -- 16 is met at none
  pub used_never : (hs : List ℤ) → RisingHeights hs → verdict (map used_at (climbed m ring hs)) ≡ fine
  used_never hs up = used_up begun hs (begun_ready hs) up

-- The sweep begun, and one height of it: one lemma for each need of the code.
use Rattle.std.specs.Prelude.{ℕ, ◌+◌, ◌*◌, ◌≤◌, ◌<◌, ◌≡◌, refl, List, length, get_or, take, ℤ}
use Rattle.std.proofs.Common.{sym, ap, ◌∙◌, subst, arith, to_z, of_z}
use Rattle.std.specs.Int.{w32}
use Rattle.laws.specs.Machine.{same}
use Rattle.laws.specs.Tables.{overwrite}
use Rattle.mesh.specs.Meshes.{Mesh, PairedMesh}
use Rattle.polygons.specs.Flat.{flat}
use Rattle.cleaning.specs.declared.Profile.{Profile}
use Rattle.cleaning.specs.declared.Profile.TheVariants.{Full}
use Rattle.section.specs.Section.{Right}
use Rattle.cut_points.specs.Climbs.{Climbs}
use Rattle.cut_points.specs.Points.{points_of}
use Rattle.file_formats.specs.Numbers.{Word}
use Rattle.file_write.specs.LayerTables.{LayerTables}
use Rattle.clean_layers.specs.Layers.{LeftIn}
use Rattle.cut.specs.Cut.{lent, lengths_of}
use Rattle.cut.specs.Outlines.{Long}
use Rattle.all_heights.specs.Taking.{height_at}
use Rattle.all_active.specs.Lists.{active_at}
use Rattle.all_active.specs.Advances.{ListRelinked}
use Rattle.all_active.specs.Levels.{Dealt, KeptFrom}
use Rattle.all_active.specs.Totals.{CrossingTotal}
use Rattle.all_contours.specs.Rounds.{Followed, Marked}
use Rattle.all_sweep.specs.AllLayers.{WorkTables, work}
use Rattle.all_sweep.specs.Works.{Spent, Works, HoldsLayer, TakenHeights, taken_heights, taken_at}
use Rattle.all_sweep.specs.Sweeps.{Ranged, LayersTested, CornerLists, corner_lists, Sweeping}
use Rattle.all_sweep.specs.CutLayerLaws.{spent_more, spent_kept, k_names, k_points, names_climb, names_spent, ends_spent, points_spent, followed_holds}
use Rattle.all_sweep.specs.CutLayerLaws.{Brought, brought}
use Rattle.all_sweep.specs.PassLaws.{works_long}
use Rattle.all_sweep.specs.SweepLaws.{sweeping_start, AtHeight, ring_kept, sweeping_next}

-- ---- the lowest z and a height, as the code holds them

module _ {low low' : ℤ} (e : low' ≡ low) where
  pub sweeping_held : {m : Mesh} {heights : List ℤ} {count k : ℕ} {l : CornerLists} → Sweeping m (taken_heights low heights count) k l
      → Sweeping m (taken_heights low' heights count) k l
  sweeping_held {m} {heights} {count} {k} {l} = subst (λ (z : ℤ). Sweeping m (taken_heights z heights count) k l) (sym e)

  pub tested_held : {m : PairedMesh} {heights : List ℤ} {count : ℕ} {w : WorkTables} → LayersTested m (taken_heights low heights count) w
      → LayersTested m (taken_heights low' heights count) w
  tested_held {m} {heights} {count} {w} = subst (λ (z : ℤ). LayersTested m (taken_heights z heights count) w) (sym e)

  -- a height as the code has got it
  pub height_held : (heights : List ℤ) (k : ℕ) {r : ℤ} → Word r → r ≡ height_at low' heights k → to_z w32 (of_z w32 r) ≡ height_at low heights k
  height_held heights k {r} w is = same w32 r w ∙ is ∙ ap (λ (z : ℤ). height_at z heights k) e

  pub crossings_held : (heights : List ℤ) {coords : List ℤ} {corners : List ℕ} {count crossings : ℕ}
      → CrossingTotal coords corners (height_at low' heights) count crossings → CrossingTotal coords corners (height_at low heights) count crossings
  crossings_held heights {coords} {corners} {count} {crossings} = subst (λ (z : ℤ). CrossingTotal coords corners (height_at z heights) count crossings) e

-- ---- what the tests establish

-- the tables are as long as before
pub tested_more : {m : PairedMesh} {t : TakenHeights} {w w₁ : WorkTables} → LayersTested m t w → Works (length m.mesh.corners) w w₁ → LayersTested m t w₁
tested_more r s =
    record { right = r.right; long = works_long r.long s; ring_long = omega (arith, r.ring_long, s.ring_spent.same_length); listed = r.listed }

pub right_ranged : {m : PairedMesh} → Right m → Ranged m.mesh
right_ranged r = record { named = r.named; inside = r.inside }

-- ---- begin

module _ {m : Mesh} (ranged : Ranged m) (t : TakenHeights) (heads : List ℕ) {marks marks₁ ring ring₁ heads₁ : List ℕ}
    (ring_long : length m.corners ≤ length ring) (heads_long : t.count ≤ length heads)
    (d : Dealt m.coords m.corners (taken_at t) t.count 0 ring₁ heads₁ marks₁ × KeptFrom (length m.corners) ring ring₁
    × KeptFrom (length m.corners) marks marks₁)
    (eh : length heads₁ ≡ length heads) where
  pub begun_at : Sweeping m t 0 (corner_lists ring₁ heads₁ marks₁ (length m.corners))
  begun_at = sweeping_start m ranged d.0 (omega (arith, d.1.size)) (omega arith)

  pub spent_at : Spent (length m.corners) marks marks₁ × Spent (length m.corners) ring ring₁
  spent_at = (spent_kept d.2, spent_kept d.1)

-- the same over a lowest z by another name
module _ {m : Mesh} (ranged : Ranged m) {low low' : ℤ} (heights : List ℤ) {count : ℕ} (el : low' ≡ low) (heads : List ℕ)
    {marks marks₁ ring ring₁ heads₁ : List ℕ} (ring_long : length m.corners ≤ length ring) (heads_long : count ≤ length heads)
    (d : Dealt m.coords m.corners (height_at low' heights) count 0 ring₁ heads₁ marks₁ × KeptFrom (length m.corners) ring ring₁
    × KeptFrom (length m.corners) marks marks₁)
    (eh : length heads₁ ≡ length heads) where
  pub begun_sweep : Sweeping m (taken_heights low heights count) 0 (corner_lists ring₁ heads₁ marks₁ (length m.corners))
  begun_sweep = sweeping_held (sym el) (begun_at ranged (taken_heights low' heights count) heads ring_long heads_long d eh)

  pub begun_spent : Spent (length m.corners) marks marks₁ × Spent (length m.corners) ring ring₁
  begun_spent = spent_at ranged (taken_heights low' heights count) heads ring_long heads_long d eh

-- ---- next_layer

module _ {m : PairedMesh} {t : TakenHeights} {k : ℕ} {l : CornerLists} {h : ℤ} (v : AtHeight m t k l h)
    {names : List ℕ} (points : List ℤ) {ends : List ℕ} (long : Long (length m.mesh.corners) (lengths_of (lent names points ends l.marks)))
    {names₁ ends₁ : List ℕ} {j n : ℕ} (o : Followed m h names ends names₁ ends₁ j n) where
  pub points_asked : (n ≤ length names₁) × (2 * n ≤ length points)
  points_asked = (
    k_names m v.right h o long.names_long long.ends_long,
    k_points m v.right h o long.names_long long.ends_long points long.points_long,
  )

  pub points_climb : (i : ℕ) → i < n → Climbs m.mesh h (get_or names₁ i 0)
  points_climb = names_climb m v.right h o long.names_long long.ends_long

  module _ {points₁ : List ℤ} (ep : points₁ ≡ overwrite (points_of m.mesh h (take n names₁)) points) where
    cut_holds : HoldsLayer Full m h points₁ ends₁ j
    cut_holds = followed_holds m v.right h o long.names_long long.ends_long points long.points_long ep

    points_written : Spent (2 * length m.mesh.corners) points points₁
    points_written = points_spent m v.right h o long.names_long long.ends_long points long.points_long ep

    ends_written : Spent (length m.mesh.corners) ends ends₁
    ends_written = ends_spent m v.right h o long.names_long long.ends_long

    -- what cleaning them asks
    pub level_tables : LayerTables points₁ ends₁ j
    level_tables = cut_holds.tables

    pub level_brought : (p : Profile) {points₂ : List ℤ} {ends₂ : List ℕ} {i : ℕ} → LeftIn p (flat points₁ ends₁) j i (flat points₂ ends₂)
        → Brought p m h points₁ ends₁ points₂ ends₂ i
    level_brought = brought m v.right h cut_holds

    module _ {ring₁ marks₁ : List ℕ} {a : ℕ}
        (r : ListRelinked (active_at m.mesh.coords m.mesh.corners h) (length m.mesh.corners) l.ring ring₁ a)
        (w : Marked (active_at m.mesh.coords m.mesh.corners h) (length m.mesh.corners) (k + 1) l.marks marks₁)
        {p : Profile} {points₂ : List ℤ} {ends₂ : List ℕ} {i : ℕ} (b : Brought p m h points₁ ends₁ points₂ ends₂ i) where
      pub level_holds : HoldsLayer p m (taken_at t k) points₂ ends₂ i
      level_holds = subst (λ (z : ℤ). HoldsLayer p m z points₂ ends₂ i) v.is b.holds_it

      pub level_works : Works (length m.mesh.corners) (work names points ends l.marks l.ring) (work names₁ points₂ ends₂ marks₁ ring₁)
      level_works =
          record {
            names_spent = names_spent m v.right h o long.names_long long.ends_long;
            points_spent = spent_more points_written (b.points_spent (omega (arith, long.points_long, points_written.same_length)));
            ends_spent = spent_more ends_written (b.ends_spent (omega (arith, long.ends_long, ends_written.same_length)));
            marks_spent = spent_kept w.kept;
            ring_spent = spent_kept (ring_kept v r);
          }

      pub level_sweeps : Sweeping m.mesh t (k + 1) (corner_lists ring₁ l.heads marks₁ a)
      level_sweeps = sweeping_next v r refl w

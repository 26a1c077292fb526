-- What `nest_contour` fetches, and the loop of `meet_all`: the entries of the contours before i have what contour j adds, the others are as they were.
use Prim.Native.Nat.{ℕ, ◌+◌, ◌*◌, ◌≤◌, ◌<◌}
use mathlib.Core.Path.{◌≡◌, refl, sym, ap, ◌∙◌, subst}
use mathlib.Core.Bool.{Bool, not, ◌&&◌}
use mathlib.Core.List.{List}
use mathlib.Core.Logic.{inl, inr, ⊎_elim}
use native.Mathlib.Omega.{arith}
use native.Mathlib.Numerals.{add-one}
use lib.Dec.{eqb}
use lib.ListN.{length, get_or, set}
use lib.IntN.{ℤ, nat_abs}
use Rattle.laws.specs.TableLaws.{refill_none, refill_more, refill_past, length_refill}
use Rattle.polygons.specs.Flat.{Point, PointNear, FlatLayer, points_in, polygons_of, end_before}
use Rattle.polygons.proofs.FlatLaws.{LayerTested}
use Rattle.polygons.specs.ContourAreas.{contour_area}
use Rattle.contours.specs.Contours.{prior_end, contour_of}
use Rattle.contours.specs.Runs.{PointRun}
use Rattle.inside.specs.declared.ContourExtent.{ContourExtent}
use Rattle.inside.specs.Inside.{lies_in}
use Rattle.inside.specs.Extents.{Spans}
use Rattle.inside.specs.PointLaws.{read_back, back_same, back_near}
use Rattle.nesting.specs.Nesting.{NestTables, nest_tables}
use Rattle.nesting.specs.Steps.{next_depth, next_parent, met_by, met_to, all_met_by, ParentTo, NestEntries, Holder, Meeting}
use Rattle.nesting.specs.HolderLaws.{start_point, length_polygons, first_within, held_at}
use Rattle.nesting.proofs.Meetings.{fetched_run, fetched_size}

-- ---- contour j, its extent and its size

pub holder_of : {t : FlatLayer} {j size : ℕ} {c : List ℤ} {e : ContourExtent} → LayerTested t → j < length t.ends
    → c ≡ contour_of t.points t.ends j → Spans (points_in c) e → size ≡ nat_abs (contour_area (points_in c)) → Holder t c e size j
holder_of l h is s a = record { layer = l; there = h; contour_is = is; spans = s; size_is = fetched_size l h is a }

-- ---- the tables

-- the first m entries, and one more
module _ (cs : List (List Point)) (j : ℕ) (u : NestTables) where
  abbrev depth_after : ℕ → ℕ
  depth_after i = next_depth cs j i (get_or u.depths i 0)

  abbrev parent_after : ℕ → ℕ
  parent_after i = next_parent cs j i (get_or u.parents i 0)

  pub met_start : u ≡ met_to cs j 0 u
  unfolding met_to
  met_start = λ k. nest_tables (sym (refill_none depth_after u.depths) k) (sym (refill_none parent_after u.parents) k)

  module _ (m : ℕ) where
    -- entry m is as it was
    pub met_past : (get_or (met_to cs j m u).depths m 0 ≡ get_or u.depths m 0) × (get_or (met_to cs j m u).parents m 0 ≡ get_or u.parents m 0)
    unfolding met_to
    met_past = (refill_past m depth_after u.depths m 0 (omega arith), refill_past m parent_after u.parents m 0 (omega arith))

    pub met_next : m < length u.depths → m < length u.parents → met_by cs j m (met_to cs j m u) ≡ met_to cs j (m + 1) u
    unfolding met_to met_by
    met_next hd hp =
        let v = met_to cs j m u in
        (λ k. nest_tables (set v.depths m (next_depth cs j m (met_past.0 k))) (set v.parents m (next_parent cs j m (met_past.1 k))))
        ∙ (λ k. nest_tables (refill_more m depth_after u.depths hd k) (refill_more m parent_after u.parents hp k))

    pub met_lengths : m ≤ length u.depths → m ≤ length u.parents
        → (length (met_to cs j m u).depths ≡ length u.depths) × (length (met_to cs j m u).parents ≡ length u.parents)
    unfolding met_to
    met_lengths hd hp = (length_refill m depth_after u.depths hd, length_refill m parent_after u.parents hp)

-- ---- the loop of `meet_all`

pub record MeetsTo (t : FlatLayer) (contour : List ℤ) (e : ContourExtent) (size j : ℕ) (u₀ u : NestTables) (i start : ℕ) : Type 0 where
  pub holder : Holder t contour e size j
  pub entries : NestEntries (length t.ends) j u₀
  pub upto : i ≤ length t.ends
  pub start_is : start ≡ prior_end t.ends i
  pub tables_are : u ≡ met_to (polygons_of t) j i u₀

pub meets_start : {t : FlatLayer} {contour : List ℤ} {e : ContourExtent} {size j : ℕ} {u : NestTables} → Holder t contour e size j
    → NestEntries (length t.ends) j u → MeetsTo t contour e size j u u 0 0
unfolding end_before
meets_start {t} {contour} {e} {size} {j} {u} h n =
    record { holder = h; entries = n; upto = omega arith; start_is = refl; tables_are = met_start (polygons_of t) j u }

module _ {t : FlatLayer} {contour : List ℤ} {e : ContourExtent} {size j : ℕ} {u₀ u : NestTables} {i start : ℕ}
    (s : MeetsTo t contour e size j u₀ u i start) where
  abbrev cs : List (List Point)
  cs = polygons_of t

  abbrev layer : LayerTested t
  layer = s.holder.layer

  -- the tables keep their lengths
  pub meets_lengths : (length u.depths ≡ length u₀.depths) × (length u.parents ≡ length u₀.parents)
  meets_lengths =
      let n = s.entries in
      subst (λ (v : NestTables). (length v.depths ≡ length u₀.depths) × (length v.parents ≡ length u₀.parents)) (sym s.tables_are)
      (met_lengths cs j u₀ i (omega (arith, s.upto, n.depths_long)) (omega (arith, s.upto, n.parents_long)))

  -- all of them
  pub meets_end : length t.ends ≤ i → u ≡ all_met_by cs j u₀
  meets_end h =
      let all : i ≡ length (polygons_of t) = omega (arith, s.upto, length_polygons layer) in
      s.tables_are ∙ ap (λ (m : ℕ). met_to cs j m u₀) all

  module _ (h : i < length t.ends) where
    -- the first point of contour i
    abbrev first : Point
    first = start_point t.points start

    pub start_within : 2 * start + 1 < length t.points
    start_within = omega (arith, s.start_is, first_within layer i h)

    near : PointNear first
    near = (layer.small (2 * start) (omega (arith, start_within)), layer.small (2 * start + 1) start_within)

    -- what `is_held` is handed
    pub held_asked : PointRun contour × (0 < length contour) × PointNear (read_back first) × Spans (points_in contour) e
    held_asked =
        let run = fetched_run layer s.holder.there s.holder.contour_is in
        (run.0, run.1, back_near first near, s.holder.spans)

    -- what `meet_one` is handed
    pub meet_asked : {inside : Bool} → inside ≡ (not (eqb j i) && lies_in (read_back first) (points_in contour)) → Meeting t size j i inside u
    meet_asked told =
        let n = s.entries in
        let was = met_past cs j u₀ i in
        let depth = ap (λ (v : NestTables). get_or v.depths i 0) s.tables_are ∙ was.0 in
        let parent = ap (λ (v : NestTables). get_or v.parents i 0) s.tables_are ∙ was.1 in
        let same = back_same first near ∙ ap (start_point t.points) s.start_is in
        record {
          layer = layer;
          there = s.holder.there;
          size_is = s.holder.size_is;
          inside_is = told ∙ (λ k. not (eqb j i) && lies_in (same k) (points_in (s.holder.contour_is k))) ∙ held_at layer i j h s.holder.there;
          depths_long = omega (arith, meets_lengths.0, n.depths_long);
          parents_long = omega (arith, meets_lengths.1, n.parents_long);
          shallow = omega (arith, depth, n.shallow i h);
          named = subst (ParentTo (length t.ends)) (sym parent) (⊎_elim inl (λ l. inr (omega (arith, s.holder.there))) (n.named i h));
        }

    -- a turn
    pub meets_again : {u' : NestTables} {start' : ℕ} → u' ≡ met_by cs j i u → start' ≡ get_or t.ends i 0 → MeetsTo t contour e size j u₀ u' (i + 1) start'
    unfolding end_before
    meets_again d q =
        let n = s.entries in
        record {
          holder = s.holder;
          entries = n;
          upto = omega arith;
          start_is = q ∙ ap (prior_end t.ends) (sym (add-one i));
          tables_are = d ∙ ap (met_by cs j i) s.tables_are ∙ met_next cs j u₀ i (omega (arith, n.depths_long)) (omega (arith, n.parents_long));
        }

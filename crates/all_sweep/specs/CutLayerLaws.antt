-- The layer of Cut at a height: it is what the contours of a list of crossings are, its tables hold it, and also when they are brought into a profile, and
-- in either profile it keeps the rules of the layer file.
use Rattle.std.specs.Prelude.{ℕ, suc, ◌+◌, ◌-◌, ◌*◌, ◌≤◌, ◌<◌, ◌≡◌, refl, true, get_or, take, ℤ, eqb}
use Rattle.std.proofs.Math.Path.{sym, ap}
use Rattle.std.proofs.Common.{◌∙◌, subst, length-drop, drop_at, ext_get_or, get_or-drop, eq-eqb}
use mathlib.Core.List.{List, [], ◌∷◌, ◌++◌, map, flatten}
use native.Mathlib.Omega.{arith}
use Rattle.std.proofs.Math.ListN.{length, drop, replicate, length-map, length-replicate}
use Rattle.std.proofs.Math.Seq.{drop-drop}
use Rattle.laws.specs.Booleans.{or_left, or_right}
use Rattle.laws.specs.Count.{count as tally}
use Rattle.laws.specs.Tables.{overwrite}
use Rattle.laws.specs.TableLaws.{length_overwrite, overwrite_at, overwrite_front}
use Rattle.mesh.specs.Corners.{triangle_count}
use Rattle.mesh.specs.Meshes.{Mesh, PairedMesh}
use Rattle.polygons.specs.Flat.{flat, polygons_of}
use Rattle.polygons.proofs.FlatLaws.{length_points}
use Rattle.cleaning.specs.Cleaning.{cleaned}
use Rattle.cleaning.specs.declared.Profile.{Profile}
use Rattle.cleaning.specs.declared.Profile.TheVariants.{Full, Clean}
use Rattle.section.specs.Section.{below, Right}
use Rattle.section.specs.Contours.{Traced, contours, member, names_of}
use Rattle.section.specs.Layers as layers
use Rattle.section.proofs.LayerLaws.{contours_few, trace_layer}
use Rattle.section.specs.OrbitLaws.{member_join, at_member}
use Rattle.cut_points.specs.Points.{point_of, points_of}
use Rattle.cut_points.specs.Climbs.{Climbs}
use Rattle.cut_points.specs.PointLaws.{length_points_of}
use Rattle.cut_points.proofs.RoundedLaws.{point_in_lem}
use Rattle.cut.specs.Cut.{section, contours_of}
use Rattle.cut.proofs.CutLaws.{one_each}
use Rattle.cut.specs.SolidLaws.{crossing_climbs}
use Rattle.file_formats.specs.Formats.{Each}
use Rattle.file_formats.specs.Numbers.{encode_number, zigzag, Word}
use Rattle.file_formats.specs.LayerFile.{most_points, Point, Layer, layer_in}
use Rattle.file_formats.specs.LayerRules.{PointRules, ContourRules, point_total, LayerRules}
use Rattle.file_formats.specs.LayerRuleLaws.{few_contours}
use Rattle.file_formats.specs.ProfileLaws.{profiled_total, profiled_count, profiled_rules, layer_in_rules}
use Rattle.file_write.specs.Written.{layer_of, numbers_of, ends_of, layer_bytes}
use Rattle.file_write.specs.LayerTables.{LayerTables}
use Rattle.file_write.specs.WrittenLaws.{layer_held, tables_held, length_flatten, flatten_map, ends_map, length_ends, layer_short}
use Rattle.clean_layers.specs.Layers.{holding, LeftIn}
use Rattle.all_active.specs.Lists.{active_at}
use Rattle.all_active.specs.Levels.{KeptFrom}
use Rattle.all_active.specs.TotalLaws.{distinct_tally}
use Rattle.all_contours.specs.Rounds.{Followed}
use Rattle.all_sweep.specs.AllLayers.{drawn, cut_layer}
use Rattle.all_sweep.specs.Works.{Spent, HoldsLayer}

-- what Cut gives at h, in a profile
abbrev pub cut_in : Profile → PairedMesh → ℤ → Layer
cut_in p m h = layer_in p (cut_layer m h)

-- ---- tables of which only the first entries may be other

module _ {A : Type 0} where
  -- what is written in front, at most n entries
  pub spent_front : (n : ℕ) (vs t : List A) → length vs ≤ n → n ≤ length t → Spent n t (overwrite vs t)
  unfolding overwrite
  spent_front n vs t few long =
      let e : length vs + (n - length vs) ≡ n = omega arith in
      record {
        same_length = length_overwrite vs t (omega arith);
        past =
            ap (λ (k : ℕ). drop k (vs ++ drop (length vs) t)) (sym e)
            ∙ sym (drop-drop (n - length vs) (length vs) (vs ++ drop (length vs) t))
            ∙ ap (drop (n - length vs)) (drop_at vs (drop (length vs) t) (length vs) refl)
            ∙ drop-drop (n - length vs) (length vs) t
            ∙ ap (λ (k : ℕ). drop k t) e;
      }

  pub spent_none : (n : ℕ) (t : List A) → Spent n t t
  spent_none n t = record { same_length = refl; past = refl }

  pub spent_more : {n : ℕ} {t u w : List A} → Spent n t u → Spent n u w → Spent n t w
  spent_more p q = record { same_length = q.same_length ∙ p.same_length; past = q.past ∙ p.past }

  -- zeros in front hide what was other
  pub spent_zeros : {n : ℕ} {t u : List A} (z : A) → Spent n t u → overwrite (replicate n z) u ≡ overwrite (replicate n z) t
  unfolding overwrite
  spent_zeros {n} {t} {u} z p =
      let e : length (replicate n z) ≡ n = length-replicate n z in
      ap (λ (r : List A). replicate n z ++ r) (ap (λ (k : ℕ). drop k u) e ∙ p.past ∙ ap (λ (k : ℕ). drop k t) (sym e))

pub spent_kept : {n : ℕ} {t u : List ℕ} → KeptFrom n t u → Spent n t u
spent_kept {n} {t} {u} k =
    record {
      same_length = k.size;
      past = ext_get_or 0 (drop n u) (drop n t) (length-drop n u ∙ ap (λ (m : ℕ). m - n) k.size ∙ sym (length-drop n t))
          (λ i l. get_or-drop n u i 0 ∙ k.past (n + i) (omega arith) ∙ sym (get_or-drop n t i 0));
    }

-- ---- contours told by names, and by points

module _ (m : Mesh) (h : ℤ) where
  -- the contours by their points
  abbrev shapes_of : List (List ℕ) → List (List Point)
  shapes_of rs = (drawn m h rs).contours

  pub drawn_points : (rs : List (List ℕ)) → points_of m h (names_of rs) ≡ numbers_of (flatten (shapes_of rs))
  drawn_points rs = ap numbers_of (sym (flatten_map (point_of m h) rs))

  pub drawn_ends : (rs : List (List ℕ)) → ends_of rs ≡ ends_of (shapes_of rs)
  drawn_ends rs = sym (ends_map (point_of m h) 0 rs)

  pub drawn_total : (rs : List (List ℕ)) → point_total (shapes_of rs) ≡ length (names_of rs)
  drawn_total rs = sym (length_flatten (shapes_of rs)) ∙ ap length (flatten_map (point_of m h) rs) ∙ length-map (names_of rs) (point_of m h)

  -- ---- the rules of the layer file

  names_rule : (names : List ℕ) → ((x : ℕ) → member x names ≡ true → PointRules (point_of m h x)) → Each PointRules (map (point_of m h) names)
  unfolding member
  names_rule [] all = tt
  names_rule (c ∷ names) all = (all c (or_left _ _ (eq-eqb c c refl)), names_rule names (λ x e. all x (or_right (eqb x c) (member x names) e)))

  contours_rule : (rs : List (List ℕ)) → ((i : ℕ) → i < length rs → 2 ≤ length (layers.contour_at rs i))
      → ((x : ℕ) → member x (names_of rs) ≡ true → PointRules (point_of m h x)) → Each ContourRules (shapes_of rs)
  unfolding flatten
  contours_rule [] two all = tt
  contours_rule (r ∷ rs) two all = (
    (
      omega (arith, two 0 (omega arith), length-map r (point_of m h)),
      names_rule r (λ x e. all x (member_join x r (names_of rs) ∙ or_left (member x r) (member x (names_of rs)) e)),
    ),
    contours_rule rs (λ i l. two (suc i) (omega arith)) (λ x e. all x (member_join x r (names_of rs) ∙ or_right (member x r) (member x (names_of rs)) e)),
  )

-- ---- a layer brought into a profile

-- tables of points and ends, and those that they become: these hold the layer of height h in the profile, of r contours
pub record Brought (p : Profile) (m : PairedMesh) (h : ℤ) (points : List ℤ) (ends : List ℕ) (points' : List ℤ) (ends' : List ℕ) (r : ℕ) : Type 0 where
  pub holds_it : HoldsLayer p m h points' ends' r
  pub points_spent : 2 * length m.mesh.corners ≤ length points → Spent (2 * length m.mesh.corners) points points'
  pub ends_spent : length m.mesh.corners ≤ length ends → Spent (length m.mesh.corners) ends ends'

-- ---- the layer of a right mesh

module _ (m : PairedMesh) (right : Right m) (h : ℤ) where
  -- its contours
  rings : List (List ℕ)
  rings = (trace_layer (below m.mesh.coords h) m.mesh.corners m.pairing right.linked).0

  section_rings : section m h ≡ contours rings
  unfolding rings
  section_rings = (trace_layer (below m.mesh.coords h) m.mesh.corners m.pairing right.linked).1.0

  rings_layer : layers.LayerContours (below m.mesh.coords h) m.mesh.corners m.pairing rings
  unfolding rings
  rings_layer = (trace_layer (below m.mesh.coords h) m.mesh.corners m.pairing right.linked).1.1

  -- of two points or more each
  rings_two : (i : ℕ) → i < length rings → 2 ≤ length (layers.contour_at rings i)
  rings_two i l = (rings_layer.each i l).two

  rings_few : length (names_of rings) ≤ triangle_count m.mesh.corners
  rings_few = one_each (below m.mesh.coords h) m.mesh.corners m.pairing rings right.linked rings_layer

  -- their points
  abbrev shapes : List (List Point)
  shapes = shapes_of m.mesh h rings

  layer_is : cut_layer m h ≡ drawn m.mesh h rings
  unfolding cut_layer
  layer_is = ap (λ (t : Traced). drawn m.mesh h (contours_of t)) section_rings

  rings_small : point_total shapes ≤ most_points
  rings_small = omega (arith, drawn_total m.mesh h rings, rings_few, right.named.whole.few)

  climbs : (x : ℕ) → member x (names_of rings) ≡ true → Climbs m.mesh h x
  climbs x e = crossing_climbs m h right x (rings_layer.only x e)

  rings_rules : Each ContourRules shapes
  rings_rules =
      contours_rule m.mesh h rings rings_two
      (λ x e. let t = climbs x e in (point_in_lem m.mesh h x t 0 (omega arith), point_in_lem m.mesh h x t 1 (omega arith)))

  -- in either profile
  pub layer_rules : (p : Profile) → Word h → LayerRules (cut_in p m h)
  layer_rules p fits =
      layer_in_rules p (cut_layer m h) (subst LayerRules (sym layer_is) (record { height_fits = fits; few = rings_small; each = rings_rules }))

  -- no more points and no more contours than corners
  layer_few : point_total (cut_layer m h).contours ≤ length m.mesh.corners
  layer_few = omega (arith, ap (λ (l : Layer). point_total l.contours) layer_is, drawn_total m.mesh h rings, rings_few)

  layer_count : length (cut_layer m h).contours ≤ length m.mesh.corners
  layer_count =
      omega (arith, ap (λ (l : Layer). length l.contours) layer_is, few_contours shapes rings_rules, drawn_total m.mesh h rings, rings_few)

  -- a crossing takes ten bytes at most
  pub layer_bound : (p : Profile) → length (layer_bytes (cut_in p m h))
      ≤ length (encode_number (zigzag h)) + 3 + 10 * tally (length m.mesh.corners) (active_at m.mesh.coords m.mesh.corners h)
  layer_bound p =
      let n = distinct_tally (active_at m.mesh.coords m.mesh.corners h) (length m.mesh.corners) (names_of rings) rings_layer.once
      (λ i l. let x = rings_layer.only (get_or (names_of rings) i 0) (at_member (names_of rings) i l) in (x.below, x.upward)) in
      let few = profiled_total p shapes in
      let b = layer_short (layer_in p (drawn m.mesh h rings)) (omega (arith, few, rings_small)) (profiled_rules p shapes rings_rules) in
      omega (arith, ap (λ (l : Layer). length (layer_bytes (layer_in p l))) layer_is, b, n, few, drawn_total m.mesh h rings)

  -- ---- tables that hold it

  module _ (points : List ℤ) (ends : List ℕ) {points' : List ℤ} {ends' : List ℕ} (ep : points' ≡ overwrite (points_of m.mesh h (names_of rings)) points)
      (ee : ends' ≡ overwrite (ends_of rings) ends) where
    written_points : points' ≡ overwrite (numbers_of (flatten shapes)) points
    written_points = ep ∙ ap (λ (l : List ℤ). overwrite l points) (drawn_points m.mesh h rings)

    written_ends : ends' ≡ overwrite (ends_of shapes) ends
    written_ends = ee ∙ ap (λ (l : List ℕ). overwrite l ends) (drawn_ends m.mesh h rings)

    written_holds : {j : ℕ} → j ≡ length rings → HoldsLayer Full m h points' ends' j
    written_holds {j} e =
        let n : j ≡ length shapes = e ∙ sym (length-map rings (map (point_of m.mesh h))) in
        record {
          is = (λ i. layer_of h (written_points i) (written_ends i) (n i)) ∙ layer_held shapes points ends h ∙ sym layer_is;
          tables = subst (λ (A : Type 0). A) (λ i. LayerTables (sym written_points i) (sym written_ends i) (sym n i)) (tables_held shapes points ends);
        }

  -- ---- the contours that a list of crossings gave

  module _ {names ends names' ends' : List ℕ} {j k : ℕ} (t : Followed m h names ends names' ends' j k)
      (names_long : length m.mesh.corners ≤ length names) (ends_long : length m.mesh.corners ≤ length ends) where
    same_rings : t.rings ≡ rings
    same_rings = same (sym t.is ∙ section_rings)
      where
        same : {a b : List (List ℕ)} → contours a ≡ contours b → a ≡ b
        same e = cc

    names_are : names' ≡ overwrite (names_of rings) names
    names_are = t.names_are ∙ ap (λ (rs : List (List ℕ)). overwrite (names_of rs) names) same_rings

    ends_are : ends' ≡ overwrite (ends_of rings) ends
    ends_are = t.ends_are ∙ ap (λ (rs : List (List ℕ)). overwrite (ends_of rs) ends) same_rings

    k_is : k ≡ length (names_of rings)
    k_is = t.k_is ∙ ap (λ (rs : List (List ℕ)). length (names_of rs)) same_rings

    k_few : k ≤ length m.mesh.corners
    k_few = omega (arith, k_is, rings_few)

    pub k_names : k ≤ length names'
    k_names = omega (arith, k_few, k_is, ap length names_are, length_overwrite (names_of rings) names (omega (arith, k_few, k_is)))

    pub k_points : (points : List ℤ) → 2 * length m.mesh.corners ≤ length points → 2 * k ≤ length points
    k_points points l = omega (arith, k_few)

    -- what the points ask
    pub names_climb : (i : ℕ) → i < k → Climbs m.mesh h (get_or names' i 0)
    names_climb i l =
        let b : i < length (names_of rings) = omega (arith, k_is) in
        subst (Climbs m.mesh h) (sym (ap (λ (u : List ℕ). get_or u i 0) names_are ∙ overwrite_at (names_of rings) names i 0 b))
        (climbs (get_or (names_of rings) i 0) (at_member (names_of rings) i b))

    pub names_spent : Spent (length m.mesh.corners) names names'
    names_spent = subst (Spent (length m.mesh.corners) names) (sym names_are) (spent_front _ _ _ (omega (arith, k_few, k_is)) names_long)

    rings_ends : length (ends_of rings) ≤ length m.mesh.corners
    rings_ends = omega (arith, k_few, k_is, contours_few rings (λ i l. omega (arith, rings_two i l)), length_ends 0 rings)

    pub ends_spent : Spent (length m.mesh.corners) ends ends'
    ends_spent = subst (Spent (length m.mesh.corners) ends) (sym ends_are) (spent_front _ _ _ rings_ends ends_long)

    module _ (points : List ℤ) {points' : List ℤ} (points_long : 2 * length m.mesh.corners ≤ length points)
        (ep : points' ≡ overwrite (points_of m.mesh h (take k names')) points) where
      points_are : points' ≡ overwrite (points_of m.mesh h (names_of rings)) points
      points_are =
          ep ∙ ap (λ (l : List ℕ). overwrite (points_of m.mesh h l) points) (ap (take k) names_are ∙ overwrite_front (names_of rings) names (sym k_is))

      pub followed_holds : HoldsLayer Full m h points' ends' j
      followed_holds = written_holds points ends points_are ends_are (t.j_is ∙ ap (λ (rs : List (List ℕ)). length rs) same_rings)

      pub points_spent : Spent (2 * length m.mesh.corners) points points'
      points_spent =
          subst (Spent (2 * length m.mesh.corners) points) (sym points_are)
          (spent_front _ _ _ (omega (arith, k_few, k_is, length_points_of m.mesh h (names_of rings))) points_long)

  -- ---- tables that hold it as it was cut, brought into a profile

  module _ {points : List ℤ} {ends : List ℕ} {j : ℕ} (holds : HoldsLayer Full m h points ends j) where
    -- its contours, as the tables hold them
    abbrev held : List (List Point)
    held = polygons_of (flat points (take j ends))

    held_is : held ≡ (cut_layer m h).contours
    unfolding layer_of
    held_is = ap (λ (l : Layer). l.contours) holds.is

    -- cleaned it is the layer that was cut, cleaned
    clean_holds : HoldsLayer Clean m h (holding (cleaned held) (flat points ends)).points (holding (cleaned held) (flat points ends)).ends
        (length (cleaned held))
    unfolding layer_of
    clean_holds =
        record { is = layer_held (cleaned held) points ends h ∙ ap (layer_in Clean) holds.is; tables = tables_held (cleaned held) points ends }

    clean_points : 2 * length m.mesh.corners ≤ length points
        → Spent (2 * length m.mesh.corners) points (holding (cleaned held) (flat points ends)).points
    clean_points =
        spent_front _ _ _
        (omega (arith, length_points (cleaned held), profiled_total Clean held, ap point_total held_is, layer_few))

    clean_ends : length m.mesh.corners ≤ length ends → Spent (length m.mesh.corners) ends (holding (cleaned held) (flat points ends)).ends
    clean_ends =
        spent_front _ _ _
        (omega (arith, length_ends 0 (cleaned held), profiled_count Clean held, ap (λ (cs : List (List Point)). length cs) held_is, layer_count))

    pub brought : (p : Profile) {points' : List ℤ} {ends' : List ℕ} {r : ℕ} → LeftIn p (flat points ends) j r (flat points' ends')
        → Brought p m h points ends points' ends' r
    brought Full left =
        subst (λ (A : Type 0). A) (λ i. Brought Full m h points ends (sym left.1 i).points (sym left.1 i).ends (sym left.0 i))
        (record { holds_it = holds; points_spent = λ long. spent_none _ points; ends_spent = λ long. spent_none _ ends })
    brought Clean left =
        subst (λ (A : Type 0). A) (λ i. Brought Clean m h points ends (sym left.1 i).points (sym left.1 i).ends (sym left.0 i))
        (record { holds_it = clean_holds; points_spent = clean_points; ends_spent = clean_ends })

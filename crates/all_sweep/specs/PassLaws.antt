-- The two passes over the heights: the file measured and written, layer by layer.
use Rattle.std.specs.Prelude.{ℕ, suc, ◌+◌, ◌*◌, ◌^◌, ◌≤◌, ◌<◌, ◌≡◌, length, get_or, take, drop, ℤ, pos}
use Rattle.std.proofs.Common.{sym, ap, ◌∙◌, subst, arith, add-one, drop_of_length-le, take_all, take-suc, drop-cons, to_z, of_z}
use mathlib.Core.List.{List, [], ◌∷◌, ◌++◌, map, flat_map, map-append}
use Rattle.std.proofs.lemmas.List.{length-map}
use Rattle.std.specs.Int.{w32}
use Rattle.laws.specs.Machine.{same}
use Rattle.laws.specs.Tables.{overwrite}
use Rattle.mesh.specs.Meshes.{PairedMesh}
use Rattle.section.specs.Section.{Right}
use Rattle.cut.specs.Cut.{lengths_of}
use Rattle.cut.specs.Outlines.{Long}
use Rattle.cleaning.specs.declared.Profile.{Profile}
use Rattle.file_formats.specs.Numbers.{encode_number, Word}
use Rattle.file_formats.specs.NumberLaws.{encode_short}
use Rattle.file_formats.specs.EmitLaws.{Emit, emit_start}
use Rattle.file_formats.specs.LayerFile.{Layer}
use Rattle.all_heights.specs.Heights.{heights_taken}
use Rattle.file_write.specs.Written.{layer_of, layer_bytes, most_layer_bytes, HasRoom, Puts, total_of}
use Rattle.file_write.specs.WrittenLaws.{total_snoc, file_length, count_room, count_put, each_room, each_put, each_end, put_front, layer_most}
use Rattle.all_sweep.specs.AllLayers.{WorkTables, work}
use Rattle.all_sweep.specs.Works.{Spent, Works, HoldsLayer, TakenHeights, taken_at, ListedHeights, taken_file}
use Rattle.all_sweep.specs.CutLayerLaws.{cut_in, layer_rules, spent_none, spent_more}
use Rattle.all_sweep.specs.SweepLaws.{taken_at_lem}

-- ---- the work tables

pub works_none : {n : ℕ} {w : WorkTables} → Works n w w
works_none =
    record {
      names_spent = spent_none _ _;
      points_spent = spent_none _ _;
      ends_spent = spent_none _ _;
      marks_spent = spent_none _ _;
      ring_spent = spent_none _ _;
    }

-- the sweep is begun
pub works_begun : {n : ℕ} {w : WorkTables} {marks ring : List ℕ} → Spent n w.cut.marks marks × Spent n w.ring ring
    → Works n w (work w.cut.names w.cut.points w.cut.ends marks ring)
works_begun s =
    record { names_spent = spent_none _ _; points_spent = spent_none _ _; ends_spent = spent_none _ _; marks_spent = s.0; ring_spent = s.1 }

pub works_more : {n : ℕ} {w w₁ w₂ : WorkTables} → Works n w w₁ → Works n w₁ w₂ → Works n w w₂
works_more a b =
    record {
      names_spent = spent_more a.names_spent b.names_spent;
      points_spent = spent_more a.points_spent b.points_spent;
      ends_spent = spent_more a.ends_spent b.ends_spent;
      marks_spent = spent_more a.marks_spent b.marks_spent;
      ring_spent = spent_more a.ring_spent b.ring_spent;
    }

-- the tables are as long as before
pub works_long : {n : ℕ} {w w₁ : WorkTables} → Long n (lengths_of w.cut) → Works n w w₁ → Long n (lengths_of w₁.cut)
works_long l s =
    record {
      names_long = omega (arith, l.names_long, s.names_spent.same_length);
      points_long = omega (arith, l.points_long, s.points_spent.same_length);
      ends_long = omega (arith, l.ends_long, s.ends_spent.same_length);
      marks_long = omega (arith, l.marks_long, s.marks_spent.same_length);
    }

-- ---- a height as the code holds it

abbrev pub held : ℤ → ℤ
held r = to_z w32 (of_z w32 r)

pub held_word_is : {r h : ℤ} → Word r → r ≡ h → to_z w32 (of_z w32 r) ≡ h
held_word_is {r} fits e = same w32 r fits ∙ e

pub held_word : (r : ℤ) → Word r → Word (to_z w32 (of_z w32 r))
held_word r fits = subst Word (sym (same w32 r fits)) fits

-- ---- what is measured and written

-- k layers are measured
pub record LayersMeasured (profile : Profile) (m : PairedMesh) (t : TakenHeights) (k total : ℕ) : Type 0 where
  pub sum : total ≡ length (encode_number t.count)
      + total_of (λ l. length (layer_bytes l)) (map (cut_in profile m) (take k (heights_taken m.mesh.coords t.heights)))
  pub few : total ≤ 10 + k * most_layer_bytes

-- all layers are to be written into an output l from a position on; k of them are written in o, and the next begins at p
pub record LayersPut (profile : Profile) (m : PairedMesh) (t : TakenHeights) (l : List ℕ) (from : ℕ) (o : List ℕ) (p k : ℕ) : Type 0 where
  pub bytes : Emit l from (flat_map layer_bytes (map (cut_in profile m) (heights_taken m.mesh.coords t.heights))) o p
      (flat_map layer_bytes (map (cut_in profile m) (drop k (heights_taken m.mesh.coords t.heights))))

module _ (profile : Profile) (m : PairedMesh) {t : TakenHeights} (listed : ListedHeights m.mesh.coords t) where
  abbrev hs : List ℤ
  hs = heights_taken m.mesh.coords t.heights

  -- how many bytes these layers take
  abbrev sum : List ℤ → ℕ
  sum zs = total_of (λ l. length (layer_bytes l)) (map (cut_in profile m) zs)

  n_layers : length (map (cut_in profile m) hs) ≡ t.count
  n_layers = length-map hs (cut_in profile m) ∙ sym listed.count_is

  -- one layer more
  pub total_next : {k : ℕ} → k < t.count
      → total_of (λ l. length (layer_bytes l)) (map (cut_in profile m) (take (suc k) (heights_taken m.mesh.coords t.heights)))
      ≡ total_of (λ l. length (layer_bytes l)) (map (cut_in profile m) (take k (heights_taken m.mesh.coords t.heights)))
      + length (layer_bytes (cut_in profile m (taken_at t k)))
  total_next {k} l =
      ap (total_of (λ y. length (layer_bytes y)))
      (ap (map (cut_in profile m)) (take-suc hs k (pos 0) (omega (arith, listed.count_is)))
      ∙ map-append (cut_in profile m) (take k hs) (get_or hs k (pos 0) ∷ [])
      ∙ ap (λ (z : ℤ). map (cut_in profile m) (take k hs) ++ (cut_in profile m z ∷ [])) (sym (taken_at_lem m.mesh.coords listed k l)))
      ∙ total_snoc (λ y. length (layer_bytes y)) (map (cut_in profile m) (take k hs)) (cut_in profile m (taken_at t k))

  pub total_all : {k : ℕ} → t.count ≤ k
      → length (encode_number t.count) + total_of (λ l. length (layer_bytes l)) (map (cut_in profile m) (take k (heights_taken m.mesh.coords t.heights)))
      ≡ length (taken_file profile m t)
  total_all {k} l =
      let all : take k hs ≡ hs = take_all k hs (omega (arith, listed.count_is)) in
      (λ i. length (encode_number (sym n_layers i)) + sum (all i)) ∙ sym (file_length (map (cut_in profile m) hs))

  -- ---- measured

  pub measured_start : {total : ℕ} → total ≡ length (encode_number t.count) → LayersMeasured profile m t 0 total
  unfolding total_of
  measured_start {total} e = record { sum = omega arith; few = omega (arith, encode_short 9 t.count (omega (arith, listed.few))) }

  module _ (right : Right m) {k total : ℕ} (d : LayersMeasured profile m t k total) (l : k < t.count) {r : ℤ} (fits : Word r) (e : r ≡ taken_at t k)
      {points : List ℤ} {ends : List ℕ} {j : ℕ} (holds : HoldsLayer profile m (taken_at t k) points ends j)
      {n : ℕ} (is : n ≡ length (layer_bytes (layer_of (held r) points ends j))) where
    n_is : n ≡ length (layer_bytes (cut_in profile m (taken_at t k)))
    n_is = is ∙ ap (λ (h : ℤ). length (layer_bytes (layer_of h points ends j))) (held_word_is fits e) ∙ ap (λ (y : Layer). length (layer_bytes y)) holds.is

    n_few : n ≤ most_layer_bytes
    n_few = omega (arith, n_is, layer_most (cut_in profile m (taken_at t k)) (layer_rules m right (taken_at t k) profile (subst Word e fits)))

    pub measured_fits : total + n < 2 ^ 64
    measured_fits = omega (arith, d.few, n_few, listed.few)

    pub measured_next : LayersMeasured profile m t (k + 1) (total + n)
    measured_next =
        subst (λ (i : ℕ). LayersMeasured profile m t i (total + n)) (sym (add-one k))
        (record { sum = omega (arith, d.sum, n_is, total_next l); few = omega (arith, d.few, n_few) })

  pub measured_end : {k total : ℕ} → LayersMeasured profile m t k total → t.count ≤ k → total ≡ length (taken_file profile m t)
  measured_end d l = d.sum ∙ total_all l

  -- ---- written

  abbrev layers_bytes : List ℤ → List ℕ
  layers_bytes zs = flat_map layer_bytes (map (cut_in profile m) zs)

  module _ (output : List ℕ) (room : length (taken_file profile m t) ≤ length output) where
    pub number_room : HasRoom output 0 (encode_number t.count)
    number_room = subst (λ (n : ℕ). HasRoom output 0 (encode_number n)) n_layers (count_room output 0 (map (cut_in profile m) hs) (omega arith))

    module _ {first : ℕ} {l : List ℕ} (v : Puts output 0 (encode_number t.count) first l) where
      -- the count is written
      counted : Emit output 0 (taken_file profile m t) l first (layers_bytes hs)
      counted =
          count_put output 0 (map (cut_in profile m) hs) (omega arith)
          (subst (λ (n : ℕ). Puts output 0 (encode_number n) first l) (sym n_layers) v)

      pub wrote_start : LayersPut profile m t l first l first 0
      wrote_start = record { bytes = emit_start l first (layers_bytes hs) (omega (arith, counted.ends, counted.size, room)) }

      module _ {o : List ℕ} {p k : ℕ} (w : LayersPut profile m t l first o p k) where
        pub wrote_size : length o ≡ length output
        wrote_size = w.bytes.size ∙ counted.size

        pub wrote_end : t.count ≤ k → (p ≡ length (taken_file profile m t)) × (o ≡ overwrite (taken_file profile m t) output)
        wrote_end le =
            let none : drop k hs ≡ [] = drop_of_length-le hs {i = k} (omega (arith, listed.count_is)) in
            let e = each_end layer_bytes (subst (λ (zs : List ℤ). Emit l first (layers_bytes hs) o p (layers_bytes zs)) none w.bytes) in
            (omega (arith, e.0, counted.ends), e.1 ∙ counted.same ∙ put_front output (taken_file profile m t) (omega arith))

  module _ {l : List ℕ} {first : ℕ} {o : List ℕ} {p k : ℕ} (w : LayersPut profile m t l first o p k) (less : k < t.count) {r : ℤ} (fits : Word r)
      (e : r ≡ taken_at t k) {points : List ℤ} {ends : List ℕ} {j : ℕ} (holds : HoldsLayer profile m (taken_at t k) points ends j) where
    -- the next layer, and the others
    abbrev others : List Layer
    others = map (cut_in profile m) (drop (suc k) hs)

    rest : map (cut_in profile m) (drop k hs) ≡ cut_in profile m (taken_at t k) ∷ others
    rest =
        ap (map (cut_in profile m)) (drop-cons hs k (pos 0) (omega (arith, listed.count_is)))
        ∙ ap (λ (z : ℤ). cut_in profile m z ∷ others) (sym (taken_at_lem m.mesh.coords listed k less))

    going : Emit l first (layers_bytes hs) o p (flat_map layer_bytes (cut_in profile m (taken_at t k) ∷ others))
    going = subst (λ (ls : List Layer). Emit l first (layers_bytes hs) o p (flat_map layer_bytes ls)) rest w.bytes

    layer_is : layer_of (held r) points ends j ≡ cut_in profile m (taken_at t k)
    layer_is = ap (λ (h : ℤ). layer_of h points ends j) (held_word_is fits e) ∙ holds.is

    pub wrote_room : HasRoom o p (layer_bytes (layer_of (held r) points ends j))
    wrote_room = subst (λ (y : Layer). HasRoom o p (layer_bytes y)) (sym layer_is) (each_room layer_bytes (cut_in profile m (taken_at t k)) others going)

    pub wrote_next : {q : ℕ} {u : List ℕ} → Puts o p (layer_bytes (layer_of (held r) points ends j)) q u → LayersPut profile m t l first u q (k + 1)
    wrote_next {q} {u} v =
        subst (LayersPut profile m t l first u q) (sym (add-one k))
        (record {
          bytes = each_put layer_bytes (cut_in profile m (taken_at t k)) others going (subst (λ (y : Layer). Puts o p (layer_bytes y) q u) layer_is v);
        })

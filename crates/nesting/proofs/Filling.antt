-- The loop of `nest`: after the first j contours each entry is depth or parent among these.
use Prim.Native.Nat.{ℕ, ◌+◌, ◌≤◌, ◌<◌}
use mathlib.Core.Path.{◌≡◌, refl, sym, ap, ◌∙◌, subst}
use mathlib.Core.List.{List}
use mathlib.Core.Logic.{inl, inr, ⊎_elim}
use native.Mathlib.Omega.{arith}
use lib.ListN.{length, get_or, replicate}
use Rattle.laws.specs.Count.{count}
use Rattle.laws.specs.CountLaws.{count_bound}
use Rattle.laws.specs.Tables.{tabulate, overwrite, refill}
use Rattle.laws.specs.TableLaws.{length_tabulate, tabulate_const, overwrite_twice, length_refill, refill_at, refill_same}
use Rattle.polygons.specs.Flat.{Point, FlatLayer, polygons_of}
use Rattle.polygons.proofs.FlatLaws.{LayerTested}
use Rattle.nesting.specs.Nests.{held_by, depth_of, no_parent, parent_of}
use Rattle.nesting.specs.Nesting.{NestTables, nest_tables, nested}
use Rattle.nesting.specs.Steps.{next_depth, next_parent, met_to, all_met_by, ParentTo, NestEntries}
use Rattle.nesting.specs.NestsLaws.{depth_to, parent_to, found_to, depth_more, parent_more, parent_to_lem}
use Rattle.nesting.specs.HolderLaws.{length_polygons, few_numbers}

-- ---- a table that is filled again

module _ (n : ℕ) (table : List ℕ) where
  refill_twice : (f g : ℕ → ℕ) → refill n f (refill n g table) ≡ refill n f table
  refill_twice f g = overwrite_twice (tabulate n f) (tabulate n g) table (length_tabulate n f ∙ sym (length_tabulate n g))

  -- one value in each entry
  refill_const : (v : ℕ) → overwrite (replicate n v) table ≡ refill n (λ i. v) table
  refill_const v = ap (λ (vs : List ℕ). overwrite vs table) (sym (tabulate_const n v))

  -- each entry by what it was
  refill_step : (f g : ℕ → ℕ) (next : ℕ → ℕ → ℕ) → ((i : ℕ) → i < n → next i (f i) ≡ g i)
      → refill n (λ i. next i (get_or (refill n f table) i 0)) (refill n f table) ≡ refill n g table
  refill_step f g next step =
      let again : ℕ → ℕ = λ i. next i (get_or (refill n f table) i 0) in
      refill_twice again f ∙ refill_same n again g table (λ i l. ap (next i) (refill_at n f table i 0 l) ∙ step i l)

-- ---- after the first m contours

module _ (cs : List (List Point)) where
  abbrev pub nested_to : ℕ → NestTables → NestTables
  nested_to m u = nest_tables (refill (length cs) (λ i. depth_to cs i m) u.depths) (refill (length cs) (λ i. parent_to cs i m) u.parents)

  -- it does not matter how many were met before
  nested_over : (m k : ℕ) (u : NestTables) → nested_to m (nested_to k u) ≡ nested_to m u
  nested_over m k u =
      let depths = refill_twice (length cs) u.depths (λ i. depth_to cs i m) (λ i. depth_to cs i k) in
      let parents = refill_twice (length cs) u.parents (λ i. parent_to cs i m) (λ i. parent_to cs i k) in
      λ s. nest_tables (depths s) (parents s)

  -- none: no depth, no parent
  nested_none : (u : NestTables)
      → nest_tables (overwrite (replicate (length cs) 0) u.depths) (overwrite (replicate (length cs) no_parent) u.parents) ≡ nested_to 0 u
  unfolding count parent_to
  nested_none u = λ i. nest_tables (refill_const (length cs) u.depths 0 i) (refill_const (length cs) u.parents no_parent i)

  -- one more
  nested_more : (m : ℕ) (u : NestTables) → all_met_by cs m (nested_to m u) ≡ nested_to (m + 1) u
  unfolding met_to
  nested_more m u =
      let depths = refill_step (length cs) u.depths (λ i. depth_to cs i m) (λ i. depth_to cs i (m + 1)) (next_depth cs m) (λ i l. depth_more cs i m) in
      let parents = refill_step (length cs) u.parents (λ i. parent_to cs i m) (λ i. parent_to cs i (m + 1)) (next_parent cs m) (λ i l. parent_more cs i m) in
      λ s. nest_tables (depths s) (parents s)

  -- all
  nested_all : length cs ≤ no_parent → (u : NestTables) → nested_to (length cs) u ≡ nested cs u
  unfolding depth_of
  nested_all few u =
      let parents = refill_same (length cs) (λ i. parent_to cs i (length cs)) (parent_of cs) u.parents (λ i l. parent_to_lem cs i few) in
      λ s. nest_tables (refill (length cs) (depth_of cs) u.depths) (parents s)

-- ---- the loop

pub record NestsTo (t : FlatLayer) (n : ℕ) (u₀ u : NestTables) (j : ℕ) : Type 0 where
  pub layer : LayerTested t
  pub all : n ≡ length t.ends
  pub upto : j ≤ n
  pub depths_long : n ≤ length u₀.depths
  pub parents_long : n ≤ length u₀.parents
  pub tables_are : u ≡ nested_to (polygons_of t) j u₀

-- both tables as they are emptied
module _ {t : FlatLayer} {depths parents : List ℕ} (l : LayerTested t) (w : NestTables) (d : depths ≡ overwrite (replicate (length t.ends) 0) w.depths)
    (p : parents ≡ overwrite (replicate (length t.ends) no_parent) w.parents) where
  pub emptied : nest_tables depths parents ≡ nested_to (polygons_of t) 0 w
  emptied =
      let n = sym (length_polygons l) in
      (λ i. nest_tables (d i) (p i))
      ∙ (λ i. nest_tables (overwrite (replicate (n i) 0) w.depths) (overwrite (replicate (n i) no_parent) w.parents))
      ∙ nested_none (polygons_of t) w

  pub nests_start : length t.ends ≤ length depths → length t.ends ≤ length parents
      → NestsTo t (length t.ends) (nest_tables depths parents) (nest_tables depths parents) 0
  nests_start hd hp =
      record {
        layer = l;
        all = refl;
        upto = omega arith;
        depths_long = hd;
        parents_long = hp;
        tables_are = emptied ∙ sym (nested_over (polygons_of t) 0 0 w) ∙ ap (nested_to (polygons_of t) 0) (sym emptied);
      }

  pub nests_end : {n j : ℕ} {u : NestTables} → NestsTo t n (nest_tables depths parents) u j → n ≤ j → u ≡ nested (polygons_of t) w
  nests_end {n} {j} s h =
      let cs = polygons_of t in
      let last : j ≡ length cs = omega (arith, s.all, s.upto, length_polygons l) in
      s.tables_are ∙ (λ i. nested_to cs (last i) (emptied i)) ∙ nested_over cs (length cs) 0 w ∙ nested_all cs (few_numbers l) w

module _ {t : FlatLayer} {n j : ℕ} {u₀ u : NestTables} (s : NestsTo t n u₀ u j) where
  abbrev cs : List (List Point)
  cs = polygons_of t

  count_is : length cs ≡ n
  count_is = omega (arith, length_polygons s.layer, s.all)

  -- the tables keep their lengths
  pub nests_lengths : (length u.depths ≡ length u₀.depths) × (length u.parents ≡ length u₀.parents)
  nests_lengths = (
    ap (λ (v : NestTables). length v.depths) s.tables_are
        ∙ length_refill (length cs) (λ i. depth_to cs i j) u₀.depths (omega (arith, count_is, s.depths_long)),
    ap (λ (v : NestTables). length v.parents) s.tables_are
        ∙ length_refill (length cs) (λ i. parent_to cs i j) u₀.parents (omega (arith, count_is, s.parents_long)),
  )

  module _ (i : ℕ) (h : i < length t.ends) where
    depth_at : get_or u.depths i 0 ≡ depth_to cs i j
    depth_at =
        ap (λ (v : NestTables). get_or v.depths i 0) s.tables_are
        ∙ refill_at (length cs) (λ i. depth_to cs i j) u₀.depths i 0 (omega (arith, length_polygons s.layer))

    parent_at : get_or u.parents i 0 ≡ parent_to cs i j
    parent_at =
        ap (λ (v : NestTables). get_or v.parents i 0) s.tables_are
        ∙ refill_at (length cs) (λ i. parent_to cs i j) u₀.parents i 0 (omega (arith, length_polygons s.layer))

    parent_named : ParentTo j (get_or u.parents i 0)
    parent_named =
        let found = found_to cs i j (omega (arith, s.upto, count_is, few_numbers s.layer)) in
        subst (ParentTo j) (sym parent_at) (⊎_elim (λ none. inl none.1) (λ one. inr one.there) found)

  -- what `nest_contour` is handed
  pub nests_entries : NestEntries (length t.ends) j u
  nests_entries =
      record {
        depths_long = omega (arith, nests_lengths.0, s.all, s.depths_long);
        parents_long = omega (arith, nests_lengths.1, s.all, s.parents_long);
        shallow = λ i h. omega (arith, depth_at i h, count_bound j (held_by cs i));
        named = parent_named;
      }

  -- a turn
  pub nests_again : {u' : NestTables} → j < n → u' ≡ all_met_by cs j u → NestsTo t n u₀ u' (j + 1)
  nests_again h e =
      record {
        layer = s.layer;
        all = s.all;
        upto = omega arith;
        depths_long = s.depths_long;
        parents_long = s.parents_long;
        tables_are = e ∙ ap (all_met_by cs j) s.tables_are ∙ nested_more cs j u₀;
      }

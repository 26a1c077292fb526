-- Laws of the order table: the entry at a place is the vertex whose rank is that place.
use Prim.Native.Nat.{ℕ, zero, suc, ◌≤◌, ◌<◌}
use Rattle.std.specs.Prelude.{◌≡◌, Bool, cond, ltb, eqb, ℤ}
use Rattle.std.proofs.Math.Path.{refl, sym, ap}
use Rattle.std.proofs.Common.{◌∙◌, arith, not-suc-le-zero, le_of_suc-le-suc}
use Rattle.std.proofs.Math.Bool.{true, false}
use mathlib.Core.List.{List, [], ◌∷◌}
use borrow.Author.Tests.{ltb-true, eqb-true, lt-ltb, eq-eqb}
use Rattle.std.proofs.Math.ListN.{length, get_or}
use Rattle.laws.specs.Booleans.{and_parts, and_of}
use Rattle.mesh.specs.Corners.{vertex_count}
use Rattle.mesh.specs.Order.{before, place, order_up_to, order_of, rank, Ranked}
use Rattle.mesh.specs.Tests.{ordered_at}
use Rattle.mesh.specs.RankLaws.{before_total, rank_inj, rank_below}
use Rattle.mesh.specs.RisingLaws.{rank_full}

module _ (coords : List ℤ) where
  -- ---- a vertex put in its place

  module _ (v : ℕ) where
    length_place : (us : List ℕ) → length (place coords v us) ≡ suc (length us)
    unfolding place
    length_place [] = refl
    length_place (u ∷ us) = by (before coords v u) (length_place us)
      where
        by : (b : Bool) → length (place coords v us) ≡ suc (length us) → length (cond b (v ∷ u ∷ us) (u ∷ place coords v us)) ≡ suc (suc (length us))
        by true h = refl
        by false h = ap suc h

    module _ (P : ℕ → Type 0) (p : P v) where
      place_head : (us : List ℕ) → (0 < length us → P (get_or us 0 0)) → P (get_or (place coords v us) 0 0)
      unfolding place
      place_head [] h = p
      place_head (u ∷ us) h = by (before coords v u)
        where
          by : (b : Bool) → P (get_or (cond b (v ∷ u ∷ us) (u ∷ place coords v us)) 0 0)
          by true = p
          by false = h (omega arith)

      place_all : (us : List ℕ) → ((i : ℕ) → i < length us → P (get_or us i 0)) → (i : ℕ) → i ≤ length us → P (get_or (place coords v us) i 0)
      unfolding place
      place_all [] h zero l = p
      place_all [] h (suc i) l = absurd (not-suc-le-zero l)
      place_all (u ∷ us) h i l = by (before coords v u) i l (place_all us (λ j k. h (suc j) (omega arith)))
        where
          by : (b : Bool) (i : ℕ) → i ≤ suc (length us) → ((j : ℕ) → j ≤ length us → P (get_or (place coords v us) j 0))
              → P (get_or (cond b (v ∷ u ∷ us) (u ∷ place coords v us)) i 0)
          by true zero l rest = p
          by true (suc i) l rest = h i l
          by false zero l rest = h 0 (omega arith)
          by false (suc i) l rest = rest i (le_of_suc-le-suc l)

    -- a list that rises, without v, still rises with v in its place
    place_rises : (us : List ℕ) → ((i : ℕ) → i < length us → v ≡ get_or us i 0 → ⊥)
        → ((i : ℕ) → suc i < length us → before coords (get_or us i 0) (get_or us (suc i) 0) ≡ true)
        → (i : ℕ) → i < length us → before coords (get_or (place coords v us) i 0) (get_or (place coords v us) (suc i) 0) ≡ true
    unfolding place
    place_rises [] fresh rises i l = absurd (not-suc-le-zero l)
    place_rises (u ∷ us) fresh rises i l =
        by (before coords v u) refl i l (place_rises us (λ j k. fresh (suc j) (omega arith)) (λ j k. rises (suc j) (omega arith)))
      where
        by : (b : Bool) → before coords v u ≡ b → (i : ℕ) → i < suc (length us)
            → ((j : ℕ) → j < length us → before coords (get_or (place coords v us) j 0) (get_or (place coords v us) (suc j) 0) ≡ true)
            → before coords (get_or (cond b (v ∷ u ∷ us) (u ∷ place coords v us)) i 0) (get_or (cond b (v ∷ u ∷ us) (u ∷ place coords v us)) (suc i) 0) ≡ true
        by true e zero l rest = e
        by true e (suc i) l rest = rises i l
        by false e zero l rest =
            place_head (λ w. before coords u w ≡ true) (before_total coords v u (fresh 0 (omega arith)) e) us (λ k. rises 0 (omega arith))
        by false e (suc i) l rest = rest i (le_of_suc-le-suc l)

  -- ---- the first n vertices

  length_upto : (n : ℕ) → length (order_up_to coords n) ≡ n
  unfolding order_up_to
  length_upto zero = refl
  length_upto (suc n) = length_place n (order_up_to coords n) ∙ ap suc (length_upto n)

  upto_below : (n i : ℕ) → i < n → get_or (order_up_to coords n) i 0 < n
  unfolding order_up_to
  upto_below zero i l = absurd (not-suc-le-zero l)
  upto_below (suc n) i l =
      place_all n (λ w. w < suc n) (omega arith) (order_up_to coords n)
      (λ j k. omega (arith, upto_below n j (omega (arith, length_upto n)))) i (omega (arith, length_upto n))

  upto_rises : (n i : ℕ) → suc i < n → before coords (get_or (order_up_to coords n) i 0) (get_or (order_up_to coords n) (suc i) 0) ≡ true
  unfolding order_up_to
  upto_rises zero i l = absurd (not-suc-le-zero l)
  upto_rises (suc n) i l =
      place_rises n (order_up_to coords n) (λ j k e. omega (arith, upto_below n j (omega (arith, length_upto n))))
      (λ j k. upto_rises n j (omega (arith, length_upto n))) i (omega (arith, length_upto n))

  -- ---- the order table

  pub length_order : length (order_of coords) ≡ vertex_count coords
  unfolding order_of
  length_order = length_upto (vertex_count coords)

  pub order_vertex : (i : ℕ) → i < vertex_count coords → get_or (order_of coords) i 0 < vertex_count coords
  unfolding order_of
  order_vertex i l = upto_below (vertex_count coords) i l

  pub order_rises : (i : ℕ) → suc i < vertex_count coords → before coords (get_or (order_of coords) i 0) (get_or (order_of coords) (suc i) 0) ≡ true
  unfolding order_of
  order_rises i l = upto_rises (vertex_count coords) i l

  pub order_rank : (i : ℕ) → i < vertex_count coords → rank coords (get_or (order_of coords) i 0) ≡ i
  order_rank i l = rank_full coords (order_of coords) (vertex_count coords) (record { vertex = order_vertex; rises = order_rises }) refl i l

  pub order_at : (v : ℕ) → v < vertex_count coords → get_or (order_of coords) (rank coords v) 0 ≡ v
  order_at v l =
      let h = rank_below coords v l in
      rank_inj coords (get_or (order_of coords) (rank coords v) 0) v (order_vertex (rank coords v) h) l (order_rank (rank coords v) h)

-- ---- a table that is right at a place

module _ (coords : List ℤ) (order : List ℕ) (i : ℕ) where
  pub ordered_rank : ordered_at coords order i ≡ true → i < vertex_count coords → Ranked coords order i
  unfolding ordered_at
  ordered_rank e l =
      let p = and_parts (ltb i (length order)) (eqb (get_or order i 0) (get_or (order_of coords) i 0)) e in
      let q : get_or order i 0 ≡ get_or (order_of coords) i 0 = eqb-true _ _ p.1 in
      record { there = ltb-true i (length order) p.0; vertex = rw q (order_vertex coords i l); rank_is = rw q (order_rank coords i l) }

  pub rank_ordered : Ranked coords order i → ordered_at coords order i ≡ true
  unfolding ordered_at
  rank_ordered r =
      let q : get_or order i 0 ≡ get_or (order_of coords) i 0 =
      sym (order_at coords (get_or order i 0) r.vertex) ∙ ap (λ (k : ℕ). get_or (order_of coords) k 0) r.rank_is in
      and_of (lt-ltb i (length order) r.there) (eq-eqb (get_or order i 0) (get_or (order_of coords) i 0) q)

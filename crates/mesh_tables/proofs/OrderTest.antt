-- What the code of the order test asks: a law for each way that it returns or goes on.
use Prim.Native.Nat.{ℕ, suc, ◌+◌, ◌-◌, ◌≤◌, ◌<◌}
use mathlib.Core.Path.{◌≡◌, refl, sym, ap, ◌∙◌}
use mathlib.Core.Bool.{Bool, true, false, not}
use mathlib.Core.List.{List}
use mathlib.Core.Logic.{⊎_elim}
use native.Mathlib.Omega.{arith}
use borrow.Author.Tests.{ltb-true, lt-ltb, le-ltb, eqb-true, eq-eqb, ne_eqb, not-true, not-false}
use lib.Dec.{ltb, eqb}
use lib.ListN.{length, get_or}
use lib.IntN.{ℤ}
use Rattle.laws.specs.Booleans.{clash, is_false, and_parts, split_lt, split_eq}
use Rattle.laws.specs.Least.{least}
use Rattle.laws.specs.LeastLaws.{least_le, least_before, least_fits, least_is, least_none}
use Rattle.mesh.specs.Corners.{vertex_count}
use Rattle.mesh.specs.Order.{before, rank, Ranked, RisingPrefix}
use Rattle.mesh.specs.Operation.{refuses, fine, test}
use Rattle.mesh.specs.OperationLaws.{nowhere_fine, fits_refused}
use Rattle.mesh.specs.Refusals.{refusal}
use Rattle.mesh.specs.Tests.{ordered_at, orders}
use Rattle.mesh.specs.RankLaws.{rank_before}
use Rattle.mesh_tables.specs.Rising.{rises_at, rising_count, misplaced_at}
use Rattle.mesh.specs.RisingLaws.{right_before, rank_full}
use Rattle.mesh.specs.OrderTableLaws.{ordered_rank, rank_ordered}

module _ (coords : List ℤ) (order : List ℕ) where
  -- ---- one entry

  module _ (i : ℕ) where
    pub rises_missing : length order ≤ i → false ≡ rises_at coords order i
    unfolding rises_at
    rises_missing h = simp (le-ltb i (length order) h)

    module _ (there : i < length order) where
      pub rises_none : vertex_count coords ≤ get_or order i 0 → false ≡ rises_at coords order i
      unfolding rises_at
      rises_none h = simp (lt-ltb i (length order) there, le-ltb (get_or order i 0) (vertex_count coords) h)

      module _ (vertex : get_or order i 0 < vertex_count coords) where
        pub rises_first : i ≡ 0 → true ≡ rises_at coords order i
        unfolding rises_at
        rises_first e = simp (lt-ltb i (length order) there, lt-ltb (get_or order i 0) (vertex_count coords) vertex, eq-eqb i 0 e)

        pub rises_later : (i ≡ 0 → ⊥) → before coords (get_or order (i - 1) 0) (get_or order i 0) ≡ rises_at coords order i
        unfolding rises_at
        rises_later e = simp (lt-ltb i (length order) there, lt-ltb (get_or order i 0) (vertex_count coords) vertex, ne_eqb i 0 e)

  -- what the test of one entry says
  record GoesOn (i : ℕ) : Type 0 where
    there : i < length order
    vertex : get_or order i 0 < vertex_count coords
    after : (k : ℕ) → i ≡ suc k → before coords (get_or order k 0) (get_or order i 0) ≡ true

  rise_of : (i : ℕ) → rises_at coords order i ≡ true → GoesOn i
  unfolding rises_at
  rise_of i e =
      let p = and_parts (ltb i (length order)) _ e in
      let q = and_parts (ltb (get_or order i 0) (vertex_count coords)) _ p.1 in
      record {
        there = ltb-true i (length order) p.0;
        vertex = ltb-true (get_or order i 0) (vertex_count coords) q.0;
        after = λ k h.
            let a : eqb i 0 ≡ false = ne_eqb i 0 (omega arith) in
            let b : i - 1 ≡ k = omega arith in
            rw b at (simp a at q.1);
      }

  -- ---- the rising prefix

  abbrev stops : ℕ → Bool
  stops i = not (rises_at coords order i)

  pub rising_of : (m : ℕ) → ((k : ℕ) → k < m → rises_at coords order k ≡ true) → RisingPrefix coords order m
  rising_of m f = record { vertex = λ i l. (rise_of i (f i l)).vertex; rises = λ i l. (rise_of (suc i) (f (suc i) l)).after i refl }

  pub risen_is : (m : ℕ) → m < vertex_count coords → ((k : ℕ) → k < m → rises_at coords order k ≡ true) → rises_at coords order m ≡ false
      → m ≡ rising_count coords order
  unfolding rising_count
  risen_is m l f e = sym (least_is (vertex_count coords) stops m l (ap not e) (λ k h. ap not (f k h)))

  pub risen_all : (m : ℕ) → m ≡ vertex_count coords → ((k : ℕ) → k < m → rises_at coords order k ≡ true) → m ≡ rising_count coords order
  unfolding rising_count
  risen_all m e f = e ∙ sym (least_none (vertex_count coords) stops (λ k h. ap not (f k (omega arith))))

  module _ (m : ℕ) (e : m ≡ rising_count coords order) where
    rising_all : (k : ℕ) → k < m → rises_at coords order k ≡ true
    unfolding rising_count
    rising_all k l = not-false _ (least_before (vertex_count coords) stops k (omega arith))

    risen_le : m ≤ vertex_count coords
    unfolding rising_count
    risen_le = omega (arith, least_le (vertex_count coords) stops)

    risen_stops : m < vertex_count coords → rises_at coords order m ≡ false
    unfolding rising_count
    risen_stops l =
        let q : least (vertex_count coords) stops ≡ m = sym e in
        not-true _ (rw q at (least_fits (vertex_count coords) stops (omega arith)))

    pub risen_prefix : (m ≤ length order) × RisingPrefix coords order m
    risen_prefix =
        let last : length order < m → m - 1 < length order = λ h. (rise_of (m - 1) (rising_all (m - 1) (omega arith))).there in
        (⊎_elim (λ h. omega (arith, last h)) (λ h. h) (split_lt (length order) m), rising_of m rising_all)

  -- ---- the search for the first entry that is misplaced

  misplaced_no : (i : ℕ) → rank coords (get_or order i 0) ≡ i → misplaced_at coords order i ≡ false
  unfolding misplaced_at
  misplaced_no i e = ap not (eq-eqb _ _ e)

  misplaced_yes : (i : ℕ) → (rank coords (get_or order i 0) ≡ i → ⊥) → misplaced_at coords order i ≡ true
  unfolding misplaced_at
  misplaced_yes i e = ap not (ne_eqb _ _ e)

  placed_of : (i : ℕ) → misplaced_at coords order i ≡ false → rank coords (get_or order i 0) ≡ i
  unfolding misplaced_at
  placed_of i e = eqb-true _ _ (not-false _ e)

  -- those below lo are right, and those from hi on are not
  pub record Search (m lo hi : ℕ) : Type 0 where
    pub low : lo ≤ hi
    pub high : hi ≤ m
    pub right : (k : ℕ) → k < lo → misplaced_at coords order k ≡ false
    pub wrong : (k : ℕ) → hi ≤ k → k < m → misplaced_at coords order k ≡ true

  module _ (m lo hi : ℕ) (s : Search m lo hi) where
    pub search_end : hi ≤ lo → lo ≡ least m (misplaced_at coords order)
    search_end h =
        ⊎_elim
        (λ l. sym (least_is m (misplaced_at coords order) lo l (s.wrong lo h l) s.right))
        (λ l. let q : lo ≡ m = omega arith in q ∙ sym (least_none m (misplaced_at coords order) (λ k j. s.right k (omega arith))))
        (split_lt lo m)

    module _ (prefix : RisingPrefix coords order m) (mid : ℕ) (l : lo ≤ mid) (h : mid < hi) where
      pub search_right : rank coords (get_or order mid 0) ≡ mid → Search m (mid + 1) hi
      search_right e = record {
        low = omega arith;
        high = s.high;
        right = λ k j. misplaced_no k (right_before coords order m prefix k mid (omega arith) (omega arith) e);
        wrong = s.wrong;
      }

      pub search_wrong : (rank coords (get_or order mid 0) ≡ mid → ⊥) → Search m lo mid
      search_wrong ne = record {
        low = l;
        high = omega arith;
        right = s.right;
        wrong = λ k j i. misplaced_yes k (λ e. ne (right_before coords order m prefix mid k j i e));
      }

  -- ---- the verdict

  pub order_fine : (m : ℕ) → m ≡ rising_count coords order → m ≡ vertex_count coords → fine ≡ test (orders coords order)
  order_fine m e q = nowhere_fine (orders coords order) (λ i l. ap not (rank_ordered coords order i (ranked i (omega arith))))
    where
      ranked : (i : ℕ) → i < m → Ranked coords order i
      ranked i l =
          let r = rise_of i (rising_all m e i l) in
          record { there = r.there; vertex = r.vertex; rank_is = rank_full coords order m (risen_prefix m e).1 q i l }

  -- what is right goes on with the rise
  ranked_rises : (m : ℕ) → Ranked coords order m → ((k : ℕ) → k < m → Ranked coords order k) → rises_at coords order m ≡ true
  ranked_rises m r f =
      ⊎_elim
      (λ z. sym (rises_first m r.there r.vertex z))
      (λ z. let p = f (m - 1) (omega arith) in sym (rises_later m r.there r.vertex z) ∙ rank_before coords _ _ p.vertex r.vertex (omega arith))
      (split_eq m 0)

  pub order_refused : (m : ℕ) → m ≡ rising_count coords order → (m ≡ vertex_count coords → ⊥) → (i : ℕ) → i ≡ least m (misplaced_at coords order)
      → refuses (refusal 8 i) ≡ test (orders coords order)
  order_refused m e ne i q =
      fits_refused (orders coords order) i inside (ap not (is_false (ordered_at coords order i) (λ o. wrong (ordered_rank coords order i o inside))))
      (λ j l. ap not (rank_ordered coords order j (ranked j l)))
    where
      within : i ≤ m
      within = omega (arith, least_le m (misplaced_at coords order))

      inside : i < vertex_count coords
      inside = omega (arith, risen_le m e, within)

      ranked : (j : ℕ) → j < i → Ranked coords order j
      ranked j l =
          let r = rise_of j (rising_all m e j (omega (arith, within))) in
          record { there = r.there; vertex = r.vertex; rank_is = placed_of j (least_before m (misplaced_at coords order) j (omega arith)) }

      wrong : Ranked coords order i → ⊥
      wrong r =
          ⊎_elim
          (λ l. let p : misplaced_at coords order i ≡ true = rw q (least_fits m (misplaced_at coords order) (omega arith)) in clash p
          (misplaced_no i r.rank_is))
          (λ l. let p : i ≡ m = omega (arith, within) in clash (ranked_rises i r ranked) (risen_stops i (p ∙ e) inside))
          (split_lt i m)

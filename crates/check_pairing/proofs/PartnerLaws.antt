-- Laws of the pairing: partners have reverse edges and each other; a mesh without 6 passes 7 with its partners, and uses each edge equally often both ways;
-- and where no directed edge occurs twice the partner is the one corner with the reverse edge.
use Prim.Native.Nat.{ℕ, ◌+◌, ◌≤◌, ◌<◌}
use Rattle.std.specs.Prelude.{◌≡◌, true, List, ◌⊎◌, ◌↔◌, ltb, length, get_or}
use Rattle.std.proofs.Math.Path.{refl, sym, ap}
use Rattle.std.proofs.Common.{◌∙◌, inl, inr, arith}
use Rattle.std.proofs.Math.Bool.{not, cond}
use Rattle.std.proofs.Math.Logic.{⊎_elim}
use borrow.Author.Tests.{eqb-true, eq-eqb, not-false}
use Rattle.laws.specs.Booleans.{is_false, same_test, and_parts, and_of, split_lt}
use Rattle.laws.specs.Count.{count}
use Rattle.laws.specs.CountLaws.{Nth, count_one, count_rise, count_stay, count_past, count_nth}
use Rattle.laws.specs.Least.{least, some}
use Rattle.laws.specs.LeastLaws.{least_is, least_same, some_of, some_at}
use Rattle.laws.specs.TableLaws.{tabulate_same}
use Rattle.mesh.specs.Corners.{start_of, end_of}
use Rattle.mesh.specs.Operation.{refuses, fine, test}
use Rattle.mesh.specs.OperationLaws.{Nowhere, nowhere_fine, fine_nowhere}
use Rattle.mesh.specs.Refusals.{refusal}
use Rattle.mesh.specs.Tests.{reverse, paired_at, pairs}
use Rattle.mesh.specs.TestLaws.{reverse_parts, reverse_of, paired_of, paired_at_of}
use Rattle.check_pairing.specs.Partners.{stands_for, uses, edge_rank, partners, partner_of, pairing_of, open_at, open_edge}
use Rattle.check_pairing.specs.EdgeUse.{StandsFor, EvenEdges, SingleEdges, pairing_by_edges, open_by_edges}

module _ (corners : List ℕ) where
  abbrev n : ℕ
  n = length corners

  -- ---- one directed edge

  pub stands_parts : (a b c : ℕ) → stands_for corners a b c ≡ true → StandsFor corners a b c
  unfolding stands_for
  stands_parts a b c e = let p = and_parts _ _ e in (eqb-true _ _ p.0, eqb-true _ _ p.1)

  pub stands_of : (a b c : ℕ) → StandsFor corners a b c → stands_for corners a b c ≡ true
  unfolding stands_for
  stands_of a b c s = and_of (eq-eqb _ _ s.0) (eq-eqb _ _ s.1)

  pub rank_is_lem : (a b c : ℕ) → StandsFor corners a b c → edge_rank corners c ≡ uses corners a b c
  rank_is_lem a b c s = (λ i. uses corners (s.0 i) (s.1 i) c)

  pub uses_start : (a b : ℕ) → uses corners a b 0 ≡ 0
  unfolding uses count
  uses_start a b = refl

  pub uses_one : (a b c : ℕ) → StandsFor corners a b c → uses corners a b (c + 1) ≡ uses corners a b c + 1
  unfolding uses
  uses_one a b c s = sym (count_one c (stands_for corners a b) (stands_of a b c s))

  pub uses_past : (a b i k : ℕ) → i < k → StandsFor corners a b i → uses corners a b i < uses corners a b k
  unfolding uses
  uses_past a b i k h s = count_past (stands_for corners a b) i k h (stands_of a b i s)

  pub uses_rise : (a b k m : ℕ) → k ≤ m → uses corners a b k ≤ uses corners a b m
  unfolding uses
  uses_rise a b k m h = count_rise (stands_for corners a b) k m h

  pub uses_stay : (a b k m : ℕ) → k ≤ m → ((j : ℕ) → k ≤ j → j < m → StandsFor corners a b j → ⊥) → uses corners a b m ≡ uses corners a b k
  unfolding uses
  uses_stay a b k m h f = count_stay (stands_for corners a b) k m h (λ j x y. is_false _ (λ e. f j x y (stands_parts a b j e)))

  pub uses_none : (a b c : ℕ) → (StandsFor corners a b c → ⊥) → uses corners a b (c + 1) ≡ uses corners a b c
  uses_none a b c f = uses_stay a b c (c + 1) (omega arith) (λ j x y s. f (let e : j ≡ c = omega arith in rw e at s))

  -- corners with one edge and one rank are one
  pub one_rank : (a b i j : ℕ) → StandsFor corners a b i → StandsFor corners a b j → uses corners a b i ≡ uses corners a b j → i ≡ j
  one_rank a b i j s t e = by (split_lt i j) (split_lt j i)
    where
      by : (i < j) ⊎ (j ≤ i) → (j < i) ⊎ (i ≤ j) → i ≡ j
      by (inl h) k = absurd (omega (arith, uses_past a b i j h s))
      by (inr h) (inl k) = absurd (omega (arith, uses_past a b j i k t))
      by (inr h) (inr k) = omega arith

  -- ---- partners

  pub partners_parts : (c d : ℕ) → partners corners c d ≡ true
      → StandsFor corners (end_of corners c) (start_of corners c) d × (edge_rank corners d ≡ edge_rank corners c)
  unfolding partners
  partners_parts c d e = let p = and_parts _ _ e in (reverse_parts corners c d p.0, eqb-true _ _ p.1)

  pub partners_of : (c d : ℕ) → StandsFor corners (end_of corners c) (start_of corners c) d
      → edge_rank corners d ≡ edge_rank corners c → partners corners c d ≡ true
  unfolding partners
  partners_of c d s e = and_of (reverse_of corners c d s.0 s.1) (eq-eqb _ _ e)

  pub partners_back : (c d : ℕ) → partners corners c d ≡ true → partners corners d c ≡ true
  partners_back c d e = let p = partners_parts c d e in partners_of d c (sym p.0.1, sym p.0.0) (sym p.1)

  pub one_partner : (c d e : ℕ) → partners corners c d ≡ true → partners corners c e ≡ true → d ≡ e
  one_partner c d e x y =
      let p = partners_parts c d x in
      let q = partners_parts c e y in
      one_rank (end_of corners c) (start_of corners c) d e p.0 q.0 (sym (rank_is_lem _ _ d p.0) ∙ p.1 ∙ sym q.1 ∙ rank_is_lem _ _ e q.0)

  pub partner_is : (c d : ℕ) → d < n → partners corners c d ≡ true → partner_of corners c ≡ d
  unfolding partner_of
  partner_is c d l e = least_is n (partners corners c) d l e (λ k h. is_false _ (λ x. let q = one_partner c k d x e in omega arith))

  -- ---- a mesh without 6

  module _ (closed : Nowhere (open_edge corners)) where
    pub partner : (c : ℕ) → c < n → (partner_of corners c < n) × (partners corners c (partner_of corners c) ≡ true)
    unfolding open_at partner_of
    partner c l = some_at n (partners corners c) (not-false _ (closed c l))

    pub partner_back : (c : ℕ) → c < n → partner_of corners (partner_of corners c) ≡ c
    partner_back c l = partner_is (partner_of corners c) c l (partners_back c (partner_of corners c) (partner c l).1)

    -- a table that starts with the partners is a right pairing
    pub pairing_right : (table : List ℕ) → n ≤ length table → ((c : ℕ) → c < n → get_or table c 0 ≡ partner_of corners c) → fine ≡ test (pairs corners table)
    pairing_right table long are = nowhere_fine (pairs corners table) (λ c l. ap not (right c l))
      where
        right : (c : ℕ) → c < n → paired_at corners table c ≡ true
        right c l =
            let e = are c l in
            let p = partner c l in
            let s = (partners_parts c (partner_of corners c) p.1).0 in
            let b : get_or table c 0 < n = rw e p.0 in
            paired_at_of corners table c
            (record {
              there = omega arith;
              corner = b;
              turned = rw e (reverse_of corners c (partner_of corners c) s.0 s.1);
              back_there = omega arith;
              back = are (get_or table c 0) b ∙ ap (partner_of corners) e ∙ partner_back c l;
            })

    -- no edge is used more often than its reverse
    uses_few : (a b : ℕ) → uses corners a b n ≤ uses corners b a n
    unfolding uses
    uses_few a b =
        ⊎_elim
        (λ h. absurd (more (count_nth (stands_for corners a b) n (uses corners b a n) h)))
        (λ h. h)
        (split_lt (uses corners b a n) (uses corners a b n))
      where
        more : Nth (stands_for corners a b) n (uses corners b a n) → ⊥
        more x =
            let s = stands_parts a b x.at x.fits in
            let p = partner x.at x.below in
            let d = partner_of corners x.at in
            let q = partners_parts x.at d p.1 in
            let t : StandsFor corners b a d = (q.0.0 ∙ s.1, q.0.1 ∙ s.0) in
            omega (arith, uses_past b a d n p.0 t, rank_is_lem b a d t, q.1, rank_is_lem a b x.at s, x.is)

  even_closed : EvenEdges corners → Nowhere (open_edge corners)
  unfolding open_at uses
  even_closed even c l = ap not (some_of n (partners corners c) x.at x.below found)
    where
      a : ℕ
      a = start_of corners c

      b : ℕ
      b = end_of corners c

      x : Nth (stands_for corners b a) n (edge_rank corners c)
      x = count_nth (stands_for corners b a) n (edge_rank corners c) (omega (arith, uses_past a b c n l (refl, refl), even a b))

      found : partners corners c x.at ≡ true
      found = let s = stands_parts b a x.at x.fits in partners_of c x.at s (rank_is_lem b a x.at s ∙ x.is)

  -- 6 does not fit exactly if each edge is used equally often both ways
  pub closed_exactly : Nowhere (open_edge corners) ↔ EvenEdges corners
  closed_exactly = (λ closed a b. omega (arith, uses_few closed a b, uses_few closed b a), even_closed)

  -- ---- where no directed edge occurs twice

  module _ (single : SingleEdges corners) where
    rank_none : (c : ℕ) → c < n → edge_rank corners c ≡ 0
    unfolding uses
    rank_none c l =
        ⊎_elim
        (λ h. absurd (twice (count_nth (stands_for corners (start_of corners c) (end_of corners c)) c 0 h)))
        (λ h. omega arith)
        (split_lt 0 (edge_rank corners c))
      where
        twice : Nth (stands_for corners (start_of corners c) (end_of corners c)) c 0 → ⊥
        twice x =
            let s = stands_parts _ _ x.at x.fits in
            let e = single x.at c (omega (arith, x.below)) l s.0 s.1 in
            omega (arith, x.below)

    partners_single : (c d : ℕ) → c < n → d < n → partners corners c d ≡ reverse corners c d
    partners_single c d lc ld =
        same_test _ _
        (λ e. let p = partners_parts c d e in reverse_of corners c d p.0.0 p.0.1)
        (λ e. partners_of c d (reverse_parts corners c d e) (rank_none d ld ∙ sym (rank_none c lc)))

    partner_least : (c : ℕ) → c < n → least n (partners corners c) ≡ least n (reverse corners c)
    partner_least c l = least_same n (partners corners c) (reverse corners c) (λ d h. partners_single c d l h)

    -- the pairing is that by edges alone
    pub pairing_single : pairing_of corners ≡ pairing_by_edges corners
    unfolding pairing_of partner_of
    pairing_single = tabulate_same n (partner_of corners) (λ c. least n (reverse corners c)) partner_least

    -- 6 is that by edges alone
    pub open_single : test (open_edge corners) ≡ test (open_by_edges corners)
    unfolding test some open_at
    open_single =
        let open_same : (c : ℕ) → c < n → open_at corners c ≡ not (some n (reverse corners c)) = λ c l. ap (λ (k : ℕ). not (ltb k n)) (partner_least c l) in
        ap (λ (c : ℕ). cond (ltb c n) (refuses (refusal 6 c)) fine) (least_same n (open_at corners) (λ c. not (some n (reverse corners c))) open_same)

    -- and only the pairing passes 7
    pub pairing_only : (table : List ℕ) → test (pairs corners table) ≡ fine → (c : ℕ) → c < n → get_or table c 0 ≡ partner_of corners c
    pairing_only table f c l =
        let p = paired_of corners table c (not-false _ (fine_nowhere (pairs corners table) f c l)) in
        sym (partner_is c (get_or table c 0) p.corner (partners_single c (get_or table c 0) l p.corner ∙ p.turned))

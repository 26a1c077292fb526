-- Laws of the sweep: the passed vertices are those of a lower rank, a step keeps a ring table as it is defined, and a rise ends with the vertices below its
-- height.
use Prim.Native.Nat.{ℕ, zero, suc, ◌+◌, ◌*◌, ◌≤◌, ◌<◌}
use Rattle.std.specs.Prelude.{◌≡◌, Bool, ◌&&◌, ◌||◌, take, ℤ}
use Rattle.std.proofs.Math.Path.{refl, sym, ap, subst}
use Rattle.std.proofs.Common.{◌∙◌, not-suc-le-zero, le_of_suc-le-suc, take-suc}
use Rattle.std.proofs.Math.Logic.{⊎_elim}
use Rattle.std.proofs.Math.Bool.{true, false, not, cond, or-false}
use mathlib.Core.List.{List, [], ◌∷◌}
use native.Mathlib.Omega.{arith}
use Rattle.std.proofs.Math.Decide.{ℕ_discrete}
use borrow.Author.Tests.{ltb-true, ltb-false, lt-ltb, le-ltb, eqb-true, eqb-false, eq-eqb, ne_eqb, not-true}
use Rattle.std.proofs.Math.Dec.{ltb, eqb}
use Rattle.std.proofs.Math.ListN.{length, get_or}
use Rattle.std.specs.Int.Signed.{lt_z}
use Rattle.laws.specs.Booleans.{clash, is_true, same_test, and_parts, and_of, or_parts, or_left, or_right, split_lt, split_eq}
use Rattle.laws.specs.CountLaws.{count_le, count_lt, count_bound}
use Rattle.laws.specs.Tables.{refill}
use Rattle.laws.specs.TableLaws.{length_refill, refill_at, refill_past, refill_is}
use Rattle.mesh.specs.Corners.{vertex_count, triangle_of, next_corner, start_of, end_of, z_of}
use Rattle.mesh.specs.Meshes.{OrderedMesh}
use Rattle.mesh.specs.Order.{before}
use Rattle.mesh.specs.Tests.{pair_of}
use Rattle.mesh.specs.RankLaws.{rank, lower_sum, not_lower_sum, sum_lower, before_irreflexive, before_total, before_rank, rank_inj, rank_before}
use Rattle.mesh.specs.Order.{Ranked}
use Rattle.section.specs.Section.{VertexSet, below, under, rising, rising_in, successor, ring_entry, Named, Linked}
use Rattle.section.proofs.SectionLaws.{next_triangle, turned}
use Rattle.section.specs.Contours.{member}
use Rattle.section.specs.OrbitLaws.{member_join, member_one}
use Rattle.sweep.specs.Sweep.{Sweep, sweep, mesh_of, sweep_pairing, stepped, passed_at, RingAt, touches, relinked, step_ring, may_rise, risen_to, risen_ring}
use Rattle.sweep.specs.Sweep.{count_below}

-- ---- an entry depends only on the vertices of the paired corner's triangle

module _ (p q : VertexSet) (corners : List ℕ) (t : ℕ) (agree : (k : ℕ) → triangle_of k ≡ t → p (start_of corners k) ≡ q (start_of corners k)) where
  rising_agrees : (k : ℕ) → triangle_of k ≡ t → rising p corners k ≡ rising q corners k
  unfolding rising
  rising_agrees k e = cc (agree k e, agree (next_corner k) (next_triangle k ∙ e))

  rising_in_agrees : rising_in p corners t ≡ rising_in q corners t
  unfolding rising_in
  rising_in_agrees = cc (rising_agrees (3 * t) (omega arith), rising_agrees (3 * t + 1) (omega arith))

module _ (p q : VertexSet) (corners pairing : List ℕ) (linked : Linked corners pairing) (c : ℕ) (l : c < length corners)
    (agree : (k : ℕ) → triangle_of k ≡ triangle_of (pair_of pairing c) → p (start_of corners k) ≡ q (start_of corners k)) where
  pub entry_agrees : ring_entry p corners pairing c ≡ ring_entry q corners pairing c
  unfolding ring_entry successor rising
  entry_agrees =
      let d = pair_of pairing c in
      let r = turned p corners pairing linked c l in
      let s : p (start_of corners c) ≡ q (start_of corners c) = ap p (sym r.1) ∙ agree (next_corner d) (next_triangle d) ∙ ap q r.1 in
      let e : p (end_of corners c) ≡ q (end_of corners c) = ap p (sym r.0) ∙ agree d refl ∙ ap q r.0 in
      cc (rising_in_agrees p q corners (triangle_of d) agree)

-- sets that agree on the mesh's vertices have one ring table
pub entry_same : (p q : VertexSet) (coords : List ℤ) (corners pairing : List ℕ) → Named coords corners → Linked corners pairing
    → ((v : ℕ) → v < vertex_count coords → p v ≡ q v) → (c : ℕ) → c < length corners → ring_entry p corners pairing c ≡ ring_entry q corners pairing c
entry_same p q coords corners pairing named linked agree c l =
    entry_agrees p q corners pairing linked c l
    (λ k e. agree (start_of corners k) (named.vertices k (omega (arith, (linked.each c l).corner, linked.whole.threes))))

-- a corner of a triangle that does not touch v starts elsewhere
untouched : (corners : List ℕ) (t v k : ℕ) → touches corners t v ≡ false → triangle_of k ≡ t → start_of corners k ≡ v → ⊥
unfolding touches
untouched corners t v k h e s = at (ℕ_discrete k (3 * t)) (ℕ_discrete k (3 * t + 1))
  where
    first : (eqb (start_of corners (3 * t)) v ≡ false) × ((eqb (start_of corners (3 * t + 1)) v || eqb (start_of corners (3 * t + 2)) v) ≡ false)
    first = or_parts _ _ h

    rest : (eqb (start_of corners (3 * t + 1)) v ≡ false) × (eqb (start_of corners (3 * t + 2)) v ≡ false)
    rest = or_parts _ _ first.1

    at : Dec (k ≡ 3 * t) → Dec (k ≡ 3 * t + 1) → ⊥
    at (yes m) d = eqb-false _ _ first.0 (ap (start_of corners) (sym m) ∙ s)
    at (no m) (yes m2) = eqb-false _ _ rest.0 (ap (start_of corners) (sym m2) ∙ s)
    at (no m) (no m2) = eqb-false _ _ rest.1 (ap (start_of corners) (omega arith) ∙ s)

-- ---- a step keeps the ring table as it is defined

passed_other : (order : List ℕ) (n v : ℕ) → n < length order → (v ≡ get_or order n 0 → ⊥) → passed_at order (suc n) v ≡ passed_at order n v
unfolding passed_at
passed_other order n v h ne =
    ap (member v) (take-suc order n 0 h) ∙ member_join v (take n order) (get_or order n 0 ∷ [])
    ∙ ap (λ (b : Bool). member v (take n order) || b) (member_one v (get_or order n 0) ∙ ne_eqb _ _ ne) ∙ or-false (member v (take n order))

module _ (s : Sweep) where
  abbrev corners : List ℕ
  corners = (mesh_of s).corners

  abbrev pairing : List ℕ
  pairing = sweep_pairing s

  abbrev order : List ℕ
  order = s.ordered.order

  -- the vertex that a step passes, the passed vertices after it, and its entries
  abbrev next : ℕ
  next = get_or s.ordered.order s.passed 0

  abbrev passed : VertexSet
  passed = passed_at s.ordered.order (suc s.passed)

  abbrev entry : ℕ → ℕ
  entry = relinked passed (mesh_of s).corners (sweep_pairing s) next s.ring

  pub step_right : Linked (mesh_of s).corners (sweep_pairing s) → s.passed < length s.ordered.order → RingAt s → RingAt (stepped s)
  unfolding step_ring relinked
  step_right linked l r =
      record {
        long = omega (arith, length_refill (length corners) entry s.ring r.long, r.long);
        entries = λ c h. refill_at (length corners) entry s.ring c 0 h ∙ by c h (touches corners (triangle_of (pair_of pairing c)) next) refl;
      }
    where
      by : (c : ℕ) → c < length corners → (b : Bool) → touches corners (triangle_of (pair_of pairing c)) next ≡ b
          → cond b (ring_entry passed corners pairing c) (get_or s.ring c 0) ≡ ring_entry passed corners pairing c
      by c h true e = refl
      by c h false e =
          r.entries c h
          ∙ entry_agrees (passed_at order s.passed) passed corners pairing linked c h
          (λ k t. sym (passed_other order s.passed (start_of corners k) l (untouched corners _ _ k e t)))

  module _ (long : length (mesh_of s).corners ≤ length s.ring) where
    pub step_length : length (step_ring s) ≡ length s.ring
    unfolding step_ring
    step_length = length_refill (length corners) entry s.ring long

    pub step_past : (c : ℕ) → length (mesh_of s).corners ≤ c → get_or (step_ring s) c 0 ≡ get_or s.ring c 0
    unfolding step_ring
    step_past c l = refill_past (length corners) entry s.ring c 0 l

    -- a step leaves every entry whose paired corner's triangle does not touch its vertex
    pub step_keeps : (c : ℕ) → touches (mesh_of s).corners (triangle_of (pair_of (sweep_pairing s) c)) (get_or s.ordered.order s.passed 0) ≡ false
        → get_or (step_ring s) c 0 ≡ get_or s.ring c 0
    unfolding step_ring relinked
    step_keeps c e =
        ⊎_elim
        (λ l. refill_at (length corners) entry s.ring c 0 l ∙ ap (λ (b : Bool). cond b (ring_entry passed corners pairing c) (get_or s.ring c 0)) e)
        (λ l. refill_past (length corners) entry s.ring c 0 l)
        (split_lt c (length corners))

-- ---- ranks and heights

module _ (coords : List ℤ) where
  -- a vertex that stands before another is not higher
  before_not_higher : (u v : ℕ) → before coords u v ≡ true → lt_z (z_of coords v) (z_of coords u) ≡ false
  unfolding before
  before_not_higher u v e = by (lt_z (z_of coords u) (z_of coords v)) (lt_z (z_of coords v) (z_of coords u)) refl refl e
    where
      by : (a b : Bool) → lt_z (z_of coords u) (z_of coords v) ≡ a → lt_z (z_of coords v) (z_of coords u) ≡ b → (a || (not b && ltb u v)) ≡ true → b ≡ false
      by a false p q e = refl
      by true true p q e = absurd (omega (arith, lower_sum (z_of coords u) (z_of coords v) p, lower_sum (z_of coords v) (z_of coords u) q))
      by false true p q e = absurd (clash e refl)

  before_below : (h : ℤ) (u v : ℕ) → before coords u v ≡ true → below coords h v ≡ true → below coords h u ≡ true
  unfolding below
  before_below h u v b p =
      sum_lower (z_of coords u) h (omega (arith, not_lower_sum (z_of coords v) (z_of coords u) (before_not_higher u v b), lower_sum (z_of coords v) h p))

  below_before : (h : ℤ) (u v : ℕ) → below coords h u ≡ true → below coords h v ≡ false → before coords u v ≡ true
  unfolding below before
  below_before h u v p q =
      or_left (lt_z (z_of coords u) (z_of coords v)) (not (lt_z (z_of coords v) (z_of coords u)) && ltb u v)
      (sum_lower (z_of coords u) (z_of coords v) (omega (arith, lower_sum (z_of coords u) h p, not_lower_sum (z_of coords v) h q)))

  -- before the place behind w stand the vertices that w does not stand before
  under_is : (w v : ℕ) → under coords (z_of coords w) (w + 1) v ≡ not (before coords w v)
  unfolding under before
  under_is w v = by (lt_z (z_of coords v) (z_of coords w)) (lt_z (z_of coords w) (z_of coords v)) refl refl
    where
      by : (a b : Bool) → lt_z (z_of coords v) (z_of coords w) ≡ a → lt_z (z_of coords w) (z_of coords v) ≡ b
          → (a || (not b && ltb v (w + 1))) ≡ not (b || (not a && ltb w v))
      by true true p q = absurd (omega (arith, lower_sum (z_of coords v) (z_of coords w) p, lower_sum (z_of coords w) (z_of coords v) q))
      by true false p q = refl
      by false true p q = refl
      by false false p q = same_test (ltb v (w + 1)) (not (ltb w v))
          (λ e. ap not (le-ltb w v (let z = ltb-true v (w + 1) e in omega arith)))
          (λ e. lt-ltb v (w + 1) (let z = ltb-false w v (not-true _ e) in omega arith))

module _ (coords : List ℤ) (order : List ℕ) (ranked : (i : ℕ) → i < vertex_count coords → Ranked coords order i) where
  -- a member of the first n stands somewhere in it
  member_at : (v n : ℕ) (xs : List ℕ) → member v (take n xs) ≡ true → (i : ℕ) × (i < n) × (get_or xs i 0 ≡ v)
  unfolding member
  member_at v zero xs e = absurd (clash e refl)
  member_at v (suc n) [] e = absurd (clash e refl)
  member_at v (suc n) (x ∷ xs) e = by (eqb v x) refl e (member_at v n xs)
    where
      by : (a : Bool) → eqb v x ≡ a → (a || member v (take n xs)) ≡ true → (member v (take n xs) ≡ true → (i : ℕ) × (i < n) × (get_or xs i 0 ≡ v))
          → (i : ℕ) × (i < suc n) × (get_or (x ∷ xs) i 0 ≡ v)
      by true p e k = (0, omega arith, sym (eqb-true v x p))
      by false p e k = let r = k e in (suc r.0, omega (arith, r.1), r.2)

  at_member : (n i : ℕ) (xs : List ℕ) → i < n → i < length xs → member (get_or xs i 0) (take n xs) ≡ true
  unfolding member
  at_member zero i xs h l = absurd (not-suc-le-zero h)
  at_member (suc n) i [] h l = absurd (not-suc-le-zero l)
  at_member (suc n) zero (x ∷ xs) h l = or_left (eqb x x) (member x (take n xs)) (eq-eqb x x refl)
  at_member (suc n) (suc i) (x ∷ xs) h l = or_right (eqb (get_or xs i 0) x) (member (get_or xs i 0) (take n xs))
      (at_member n i xs (le_of_suc-le-suc h) (le_of_suc-le-suc l))

  pub passed_rank : (n v : ℕ) → n ≤ vertex_count coords → v < vertex_count coords → passed_at order n v ≡ ltb (rank coords v) n
  unfolding passed_at
  passed_rank n v ln lv =
      same_test (member v (take n order)) (ltb (rank coords v) n)
      (λ e. let m = member_at v n order e in
      let o = ranked m.0 (omega (arith, m.1)) in
      let q : rank coords v ≡ m.0 = ap (rank coords) (sym m.2) ∙ o.rank_is in
      lt-ltb (rank coords v) n (omega (arith, m.1)))
      (λ e. let l = ltb-true (rank coords v) n e in
      let o = ranked (rank coords v) (omega arith) in
      let q = rank_inj coords (get_or order (rank coords v) 0) v o.vertex lv o.rank_is in
      subst (λ (x : ℕ). member x (take n order) ≡ true) q (at_member n (rank coords v) order l o.there))

  -- once w, the vertex at place n, is passed, the passed vertices are those before the place behind w
  pub passed_under : (n v : ℕ) → n < vertex_count coords → v < vertex_count coords
      → passed_at order (suc n) v ≡ under coords (z_of coords (get_or order n 0)) (get_or order n 0 + 1) v
  passed_under n v ln lv = passed_rank (suc n) v ln lv ∙ by (before coords w v) refl ∙ sym (under_is coords w v)
    where
      w : ℕ
      w = get_or order n 0

      o : Ranked coords order n
      o = ranked n ln

      by : (b : Bool) → before coords (get_or order n 0) v ≡ b → ltb (rank coords v) (suc n) ≡ not b
      by true e = le-ltb (rank coords v) (suc n) (let h = before_rank coords (get_or order n 0) v o.vertex e in omega (arith, o.rank_is))
      by false e = lt-ltb (rank coords v) (suc n) (⊎_elim
          (λ (q : get_or order n 0 ≡ v). omega (arith, ap (rank coords) q, o.rank_is))
          (λ ne. let h = before_rank coords v (get_or order n 0) lv (before_total coords (get_or order n 0) v ne e) in omega (arith, o.rank_is))
          (split_eq (get_or order n 0) v))

  module _ (h : ℤ) where
    -- a vertex is below h exactly if fewer vertices stand before it than are below h
    low_rank : (v : ℕ) → v < vertex_count coords → below coords h v ≡ true → rank coords v < count_below coords h
    unfolding count_below
    low_rank v l p =
        count_lt (λ u. before coords u v) (below coords h) (vertex_count coords) (λ u _ b. before_below coords h u v b p) v l (before_irreflexive coords v) p

    high_rank : (v : ℕ) → below coords h v ≡ false → count_below coords h ≤ rank coords v
    unfolding count_below
    high_rank v p = count_le (below coords h) (λ u. before coords u v) (vertex_count coords) (λ u _ b. below_before coords h u v b p)

    -- what stands earlier in the order is below h where what stands later is
    pub earlier_below : (i j : ℕ) → i ≤ j → j < vertex_count coords → below coords h (get_or order j 0) ≡ true → below coords h (get_or order i 0) ≡ true
    earlier_below i j l m p =
        ⊎_elim
        (λ (q : i ≡ j). ap (λ (k : ℕ). below coords h (get_or order k 0)) q ∙ p)
        (λ ne. let a = ranked i (omega arith) in
        let b = ranked j m in
        before_below coords h (get_or order i 0) (get_or order j 0)
        (rank_before coords (get_or order i 0) (get_or order j 0) a.vertex b.vertex (omega (arith, a.rank_is, b.rank_is))) p)
        (split_eq i j)

    pub count_few : count_below coords h ≤ vertex_count coords
    unfolding count_below
    count_few = count_bound (vertex_count coords) (below coords h)

    -- at that count the passed vertices are those below h
    pub passed_below : (v : ℕ) → v < vertex_count coords → passed_at order (count_below coords h) v ≡ below coords h v
    passed_below v lv = passed_rank (count_below coords h) v count_few lv ∙ by (below coords h v) refl
      where
        by : (b : Bool) → below coords h v ≡ b → ltb (rank coords v) (count_below coords h) ≡ b
        by true e = lt-ltb _ _ (low_rank v lv e)
        by false e = le-ltb _ _ (high_rank v e)

    -- the next vertex of the order may be passed exactly below that count
    pub may_rise_lem : (n : ℕ) → n < count_below coords h → may_rise coords order h n ≡ true
    unfolding may_rise
    may_rise_lem n l =
        let m : n < vertex_count coords = omega (arith, count_few) in
        let o = ranked n m in
        and_of (lt-ltb n (vertex_count coords) m)
        (is_true (below coords h (get_or order n 0)) (λ e. let z = high_rank (get_or order n 0) e in omega (arith, o.rank_is)))

    pub rise_low : (n : ℕ) → may_rise coords order h n ≡ true → n < count_below coords h
    unfolding may_rise
    rise_low n e =
        let p = and_parts _ _ e in
        let o = ranked n (ltb-true _ _ p.0) in
        let l = low_rank (get_or order n 0) o.vertex p.1 in
        omega (arith, o.rank_is)

    -- no more are passed than are below h, where every passed vertex is
    pub passed_count : (n : ℕ) → n ≤ vertex_count coords → ((i : ℕ) → i < n → below coords h (get_or order i 0) ≡ true) → n ≤ count_below coords h
    passed_count zero l low = omega arith
    passed_count (suc n) l low =
        let o = ranked n l in
        let r = low_rank (get_or order n 0) o.vertex (low n (omega arith)) in
        omega (arith, o.rank_is)

    pub risen_to_lem : (m n : ℕ) → n ≤ count_below coords h → count_below coords h ≤ n + m → risen_to coords order h m n ≡ count_below coords h
    unfolding risen_to
    risen_to_lem zero n lo hi = omega arith
    risen_to_lem (suc m) n lo hi = by (may_rise coords order h n) refl (λ l. risen_to_lem m (suc n) l (omega arith))
      where
        by : (b : Bool) → may_rise coords order h n ≡ b → (n < count_below coords h → risen_to coords order h m (suc n) ≡ count_below coords h)
            → cond b (risen_to coords order h m (suc n)) n ≡ count_below coords h
        by true e k = k (rise_low n e)
        by false e k = ⊎_elim (λ q. q) (λ ne. absurd (clash (may_rise_lem n (omega arith)) e)) (split_eq n (count_below coords h))

-- ---- the ring table after a rise from n passed, in at most k steps

module _ (m : OrderedMesh) (ranked : (i : ℕ) → i < vertex_count m.paired.mesh.coords → Ranked m.paired.mesh.coords m.order i) (h : ℤ)
    (linked : Linked m.paired.mesh.corners m.paired.pairing) where
  abbrev below_h : ℕ
  below_h = count_below m.paired.mesh.coords h

  few : count_below m.paired.mesh.coords h ≤ vertex_count m.paired.mesh.coords
  few = count_few m.paired.mesh.coords m.order ranked h

  -- the table of a sweep that may go on, and that does
  abbrev risen_on : ℕ → ℕ → List ℕ → List ℕ
  risen_on k n ring = risen_ring h k (sweep m (step_ring (sweep m ring n)) (suc n))

  -- a rise ends with the ring table of the vertices below h
  pub risen_right : (k n : ℕ) (ring : List ℕ) → RingAt (sweep m ring n) → n ≤ count_below m.paired.mesh.coords h
      → count_below m.paired.mesh.coords h ≤ n + k → RingAt (sweep m (risen_ring h k (sweep m ring n)) (count_below m.paired.mesh.coords h))
  unfolding risen_ring
  risen_right zero n ring r lo hi = let e : n ≡ below_h = omega arith in subst (λ (i : ℕ). RingAt (sweep m ring i)) e r
  risen_right (suc k) n ring r lo hi =
      by (may_rise m.paired.mesh.coords m.order h n) refl
      (λ l. risen_right k (suc n) (step_ring (sweep m ring n)) (step_right (sweep m ring n) linked (ranked n (omega (arith, few))).there r) l (omega arith))
    where
      by : (b : Bool) → may_rise m.paired.mesh.coords m.order h n ≡ b → (n < below_h → RingAt (sweep m (risen_on k n ring) below_h))
          → RingAt (sweep m (cond b (risen_on k n ring) ring) below_h)
      by true e go = go (rise_low m.paired.mesh.coords m.order ranked h n e)
      by false e go = ⊎_elim
          (λ (q : n ≡ below_h). subst (λ (i : ℕ). RingAt (sweep m ring i)) q r)
          (λ ne. absurd (clash (may_rise_lem m.paired.mesh.coords m.order ranked h n (omega arith)) e))
          (split_eq n below_h)

  -- it changes no later entry
  risen_length : (k n : ℕ) (ring : List ℕ) → length m.paired.mesh.corners ≤ length ring → length (risen_ring h k (sweep m ring n)) ≡ length ring
  unfolding risen_ring
  risen_length zero n ring l = refl
  risen_length (suc k) n ring l =
      by (may_rise m.paired.mesh.coords m.order h n)
      (risen_length k (suc n) (step_ring (sweep m ring n)) (omega (arith, step_length (sweep m ring n) l)))
    where
      by : (b : Bool) → length (risen_on k n ring) ≡ length (step_ring (sweep m ring n)) → length (cond b (risen_on k n ring) ring) ≡ length ring
      by true e = e ∙ step_length (sweep m ring n) l
      by false e = refl

  risen_past : (k n : ℕ) (ring : List ℕ) → length m.paired.mesh.corners ≤ length ring → (c : ℕ) → length m.paired.mesh.corners ≤ c
      → get_or (risen_ring h k (sweep m ring n)) c 0 ≡ get_or ring c 0
  unfolding risen_ring
  risen_past zero n ring l c p = refl
  risen_past (suc k) n ring l c p =
      by (may_rise m.paired.mesh.coords m.order h n)
      (risen_past k (suc n) (step_ring (sweep m ring n)) (omega (arith, step_length (sweep m ring n) l)) c p)
    where
      by : (b : Bool) → get_or (risen_on k n ring) c 0 ≡ get_or (step_ring (sweep m ring n)) c 0
          → get_or (cond b (risen_on k n ring) ring) c 0 ≡ get_or ring c 0
      by true e = e ∙ step_past (sweep m ring n) l c p
      by false e = refl

  -- the ring table that steps leave is the one made in a single pass
  pub risen_is : Named m.paired.mesh.coords m.paired.mesh.corners → (k n : ℕ) (ring : List ℕ) → RingAt (sweep m ring n)
      → n ≤ count_below m.paired.mesh.coords h → count_below m.paired.mesh.coords h ≤ n + k
      → risen_ring h k (sweep m ring n)
      ≡ refill (length m.paired.mesh.corners) (ring_entry (below m.paired.mesh.coords h) m.paired.mesh.corners m.paired.pairing) ring
  risen_is named k n ring r lo hi =
      let coords = m.paired.mesh.coords in
      let corners = m.paired.mesh.corners in
      let pairing = m.paired.pairing in
      refill_is 0 (length corners) (ring_entry (below coords h) corners pairing) ring (risen_ring h k (sweep m ring n))
      (risen_length k n ring r.long) r.long
      (λ c l. (risen_right k n ring r lo hi).entries c l
      ∙ entry_same (passed_at m.order below_h) (below coords h) coords corners pairing named linked (passed_below coords m.order ranked h) c l)
      (risen_past k n ring r.long)

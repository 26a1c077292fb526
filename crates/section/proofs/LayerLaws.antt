-- The contours of a section of a right mesh are a layer: with a right pairing no walk meets a used crossing other than its start.
use Prim.Native.Nat.{ℕ, zero, suc, ◌+◌, ◌-◌, ◌≤◌, ◌<◌}
use Rattle.std.specs.Prelude.{◌≡◌, refl, ◌⊎◌, Bool, false, not, ◌&&◌, ◌||◌, length, get_or}
use Rattle.std.proofs.Math.Path.{sym, ap, subst}
use Rattle.std.proofs.Common.{◌∙◌, arith, not-suc-le-zero, length-append}
use Rattle.std.proofs.Math.Logic.{⊎_elim}
use Rattle.std.proofs.Math.Bool.{true}
use mathlib.Core.List.{List, [], ◌∷◌, ◌++◌, flatten, append_assoc, append-nil}
use Rattle.std.proofs.Math.Decide.{ℕ_discrete, dec_lt}
use Rattle.std.proofs.lemmas.Bool.{not-true}
use Rattle.std.proofs.Math.ListN.{get_or-append}
use Rattle.std.proofs.lemmas.List.{get_or_at}
use Rattle.laws.specs.Booleans.{clash, is_true, is_false, and_parts, and_of, not_of, or_left, or_right, or_cases}
use Rattle.laws.specs.TableLaws.{length_snoc}
use Rattle.section.specs.Section.{VertexSet, rising, successor, Among, Linked}
use Rattle.section.proofs.SectionLaws.{successor_crosses, successor_injective, two_crossings}
use Rattle.section.specs.Rings.{iterate, Ring}
pub use Rattle.section.specs.Rings.{Leads}
use Rattle.section.specs.RingLaws.{ring_of_lem}
use Rattle.section.specs.Contours.{member, contours, stuck, names_of, ends_from, trace_at, trace_to, trace}
use Rattle.section.specs.Layers.{first_name, Contour, contour_at, Distinct, LayerContours}
use Rattle.section.specs.OrbitLaws.{member_none, member_join, at_member, distinct_few, orbit, iterate_add, length_orbit, get_d_orbit, orbit_at, at_orbit}
use Rattle.section.specs.OrbitLaws.{walk_closes, next_in_lem, distinct_ring}

pub names_snoc : (rs : List (List ℕ)) (r : List ℕ) → names_of (rs ++ (r ∷ [])) ≡ names_of rs ++ r
unfolding flatten
names_snoc [] r = append-nil r
names_snoc (x ∷ rs) r = ap (λ (l : List ℕ). x ++ l) (names_snoc rs r) ∙ sym (append_assoc x (names_of rs) r)

pub ends_snoc : (k : ℕ) (rs : List (List ℕ)) (r : List ℕ) → ends_from k (rs ++ (r ∷ [])) ≡ ends_from k rs ++ ((k + length (names_of rs) + length r) ∷ [])
unfolding ends_from flatten
ends_snoc k [] r = let e : k + length r ≡ k + 0 + length r = omega arith in ap (λ (x : ℕ). x ∷ []) e
ends_snoc k (q ∷ rs) r =
    ap (λ (l : List ℕ). (k + length q) ∷ l)
    (ends_snoc (k + length q) rs r
    ∙ (let e : k + length q + length (names_of rs) + length r ≡ k + length (q ++ names_of rs) + length r = omega (arith, length-append q (names_of rs)) in
    ap (λ (x : ℕ). ends_from (k + length q) rs ++ (x ∷ [])) e))

-- contours that have names are no more than these
pub contours_few : (rs : List (List ℕ)) → ((i : ℕ) → i < length rs → 1 ≤ length (contour_at rs i)) → length rs ≤ length (names_of rs)
unfolding flatten
contours_few [] f = omega arith
contours_few (r ∷ rs) f = omega (arith, length-append r (names_of rs), f 0 (omega arith), contours_few rs (λ i h. f (suc i) (omega arith)))

module _ (rs : List (List ℕ)) (r : List ℕ) where
  old_at : (i : ℕ) → i < length rs → contour_at (rs ++ (r ∷ [])) i ≡ contour_at rs i
  old_at i l = get_or-append rs (r ∷ []) [] i l

  new_at : (i : ℕ) → i ≡ length rs → contour_at (rs ++ (r ∷ [])) i ≡ r
  new_at i e = get_or_at rs r [] [] i (sym e)

  module _ (v : ℕ) where
    snoc_is : member v (names_of (rs ++ (r ∷ []))) ≡ (member v (names_of rs) || member v r)
    snoc_is = ap (member v) (names_snoc rs r) ∙ member_join v (names_of rs) r

    snoc_cases : member v (names_of (rs ++ (r ∷ []))) ≡ true → (member v (names_of rs) ≡ true) ⊎ (member v r ≡ true)
    snoc_cases e = or_cases (member v (names_of rs)) (member v r) (sym snoc_is ∙ e)

    snoc_old : member v (names_of rs) ≡ true → member v (names_of (rs ++ (r ∷ []))) ≡ true
    snoc_old e = snoc_is ∙ or_left (member v (names_of rs)) (member v r) e

    snoc_new : member v r ≡ true → member v (names_of (rs ++ (r ∷ []))) ≡ true
    snoc_new e = snoc_is ∙ or_right (member v (names_of rs)) (member v r) e

module _ (rises : ℕ → Bool) (next : ℕ → ℕ) (n : ℕ) (leads : Leads rises next n) where
  -- a contour starts at c
  abbrev pub starts_at : List (List ℕ) → ℕ → Bool
  starts_at rs c = rises c && not (member c (names_of rs))

  -- these are the contours that start below c
  pub record Begun (c : ℕ) (rs : List (List ℕ)) : Type 0 where
    pub is : trace_to rises next n c ≡ contours rs
    pub only : (x : ℕ) → member x (names_of rs) ≡ true → Among n rises x
    pub whole : (x : ℕ) → member x (names_of rs) ≡ true → member (next x) (names_of rs) ≡ true
    pub every : (x : ℕ) → x < c → Among n rises x → member x (names_of rs) ≡ true
    pub each : (i : ℕ) → i < length rs → Contour next (contour_at rs i)
    pub ascend : (i j : ℕ) → i < j → j < length rs → first_name (contour_at rs i) < first_name (contour_at rs j)
    pub starts : (i : ℕ) → i < length rs → first_name (contour_at rs i) < c
    pub once : Distinct (names_of rs)
    pub few : length rs ≤ c

  pub begun_start : Begun 0 []
  unfolding flatten
  begun_start =
      record {
        is = unfold trace_to in refl;
        only = λ x e. absurd (member_none x e);
        whole = λ x e. absurd (member_none x e);
        every = λ x l y. absurd (not-suc-le-zero l);
        each = λ i l. absurd (not-suc-le-zero l);
        ascend = λ i j l m. absurd (not-suc-le-zero m);
        starts = λ i l. absurd (not-suc-le-zero l);
        once = λ i j l m. absurd (not-suc-le-zero m);
        few = omega arith;
      }

  -- c is no crossing, or a contour has it already
  pub begun_skip : (c : ℕ) (rs : List (List ℕ)) → Begun c rs → starts_at rs c ≡ false → Begun (suc c) rs
  begun_skip c rs b e =
      record {
        is = unfold trace_to in (ap (trace_at rises next n c) b.is ∙ old);
        only = b.only;
        whole = b.whole;
        every = λ x l y. at x l y (ℕ_discrete x c);
        each = b.each;
        ascend = b.ascend;
        starts = λ i l. let z = b.starts i l in omega arith;
        once = b.once;
        few = omega (arith, b.few);
      }
    where
      old : trace_at rises next n c (contours rs) ≡ contours rs
      old = unfold trace_at in (rw (e, trace_at))

      at : (x : ℕ) → x < suc c → Among n rises x → Dec (x ≡ c) → member x (names_of rs) ≡ true
      at x l y (yes q) = is_true (member x (names_of rs)) (λ m. clash (subst (λ (k : ℕ). starts_at rs k ≡ true) q (and_of y.upward (not_of m))) e)
      at x l y (no q) = b.every x (omega arith) y

  -- the crossings from one on
  pub crosses : (c : ℕ) → Among n rises c → (i : ℕ) → Among n rises (iterate next i c)
  unfolding iterate
  crosses c x zero = x
  crosses c x (suc i) = leads.into (iterate next i c) (crosses c x i)

  along : (c : ℕ) (rs : List (List ℕ)) → Begun c rs → (x m : ℕ) → member x (names_of rs) ≡ true → member (iterate next m x) (names_of rs) ≡ true
  unfolding iterate
  along c rs b x zero e = e
  along c rs b x (suc m) e = b.whole (iterate next m x) (along c rs b x m e)

  -- a contour starts at c
  module _ (c : ℕ) (rs : List (List ℕ)) (b : Begun c rs) (x : Among n rises c) (unused : member c (names_of rs) ≡ false) where
    abbrev pub ring : Ring next n c
    ring = ring_of_lem next n (Among n rises) (λ d y. y.below) leads.into leads.apart c x

    abbrev pub ring_names : List ℕ
    ring_names = orbit next ring.steps c

    -- a ring whose start is not used has no place that is
    pub fresh : (j : ℕ) → j < ring.steps → member (iterate next j c) (names_of rs) ≡ false
    fresh j l =
        let all : ring.steps - j + j ≡ ring.steps = omega arith in
        is_false _ (λ q. clash
        (subst (λ (y : ℕ). member y (names_of rs) ≡ true)
        (iterate_add next (ring.steps - j) j c ∙ ap (λ (k : ℕ). iterate next k c) all ∙ ring.returns)
        (along c rs b _ (ring.steps - j) q))
        unused)

    first_is : first_name ring_names ≡ c
    first_is = get_d_orbit next ring.steps c 0 ring.some_step ∙ (unfold iterate in refl)

    least_is : (y : ℕ) → member y ring_names ≡ true → first_name ring_names ≤ y
    least_is y e = by (orbit_at next y ring.steps c e) (dec_lt y c)
      where
        by : (i : ℕ) × (i < ring.steps) × (y ≡ iterate next i c) → Dec (y < c) → first_name ring_names ≤ y
        by a (yes l) =
            absurd (clash (b.every y l (subst (Among n rises) (sym a.2) (crosses c x a.0)))
            (ap (λ (v : ℕ). member v (names_of rs)) a.2 ∙ fresh a.0 a.1))
        by a (no l) = omega (arith, first_is)

    two_is : 2 ≤ ring.steps
    two_is = by (ℕ_discrete ring.steps 1)
      where
        by : Dec (ring.steps ≡ 1) → 2 ≤ ring.steps
        by (yes e) = absurd (leads.moves c x (unfold iterate in (sym (ap (λ (k : ℕ). iterate next k c) e) ∙ ring.returns)))
        by (no e) = omega (arith, ring.some_step)

    follow_is : (i : ℕ) → suc i < ring.steps → get_or ring_names (suc i) 0 ≡ next (get_or ring_names i 0)
    unfolding iterate
    follow_is i l = get_d_orbit next ring.steps c (suc i) l ∙ ap next (sym (get_d_orbit next ring.steps c i (omega arith)))

    close_is : next (get_or ring_names (ring.steps - 1) 0) ≡ first_name ring_names
    unfolding iterate
    close_is =
        let e : suc (ring.steps - 1) ≡ ring.steps = omega (arith, ring.some_step) in
        ap next (get_d_orbit next ring.steps c (ring.steps - 1) (omega (arith, ring.some_step))) ∙ ap (λ (k : ℕ). iterate next k c) e ∙ ring.returns
        ∙ sym first_is

    shape : Contour next ring_names
    shape =
        let l : length ring_names ≡ ring.steps = length_orbit next ring.steps c in
        record {
          two = omega (arith, two_is);
          least = least_is;
          follows = λ i m. follow_is i (omega arith);
          closes = ap (λ (k : ℕ). next (get_or ring_names (k - 1) 0)) l ∙ close_is;
        }

    pub begun_ring : Begun (suc c) (rs ++ (ring_names ∷ []))
    begun_ring =
        record {
          is = unfold trace_to in (ap (trace_at rises next n c) b.is ∙ new);
          only = λ v e. ⊎_elim (b.only v) (λ p. let a = orbit_at next v ring.steps c p in subst (Among n rises) (sym a.2) (crosses c x a.0))
              (snoc_cases rs ring_names v e);
          whole = λ v e. ⊎_elim (λ p. snoc_old rs ring_names (next v) (b.whole v p))
              (λ p. let a = orbit_at next v ring.steps c p in snoc_new rs ring_names (next v)
              (subst (λ (y : ℕ). member (next y) ring_names ≡ true) (sym a.2) (next_in_lem next n c ring a.0 a.1))) (snoc_cases rs ring_names v e);
          every = λ v l y. at v y (ℕ_discrete v c) l;
          each = λ i l. each_of i (omega (arith, length_snoc rs ring_names)) (dec_lt i (length rs));
          ascend = λ i j l m. ascend_of i j l (omega (arith, length_snoc rs ring_names)) (dec_lt j (length rs));
          starts = λ i l. starts_of i (omega (arith, length_snoc rs ring_names)) (dec_lt i (length rs));
          once = subst (λ (a : List ℕ). Distinct a) (sym (names_snoc rs ring_names)) (distinct_ring next n c ring (names_of rs) b.once fresh);
          few = omega (arith, b.few, length_snoc rs ring_names);
        }
      where
        test : starts_at rs c ≡ true
        test = and_of x.upward (not_of unused)

        new : trace_at rises next n c (contours rs) ≡ contours (rs ++ (ring_names ∷ []))
        new = let w = walk_closes next n c ring (names_of rs) fresh in unfold trace_at in (rw (test, w, trace_at))

        at : (v : ℕ) → Among n rises v → Dec (v ≡ c) → v < suc c → member v (names_of (rs ++ (ring_names ∷ []))) ≡ true
        at v y (yes q) l = rw q (snoc_new rs ring_names c (unfold iterate in (at_orbit next ring.steps 0 c ring.some_step)))
        at v y (no q) l = snoc_old rs ring_names v (b.every v (omega arith) y)

        each_of : (i : ℕ) → i ≤ length rs → Dec (i < length rs) → Contour next (contour_at (rs ++ (ring_names ∷ [])) i)
        each_of i l (yes m) = subst (Contour next) (sym (old_at rs ring_names i m)) (b.each i m)
        each_of i l (no m) = subst (Contour next) (sym (new_at rs ring_names i (omega arith))) shape

        starts_of : (i : ℕ) → i ≤ length rs → Dec (i < length rs) → first_name (contour_at (rs ++ (ring_names ∷ [])) i) < suc c
        starts_of i l (yes m) = let z = b.starts i m in omega (arith, ap first_name (old_at rs ring_names i m))
        starts_of i l (no m) = let z : i ≡ length rs = omega arith in omega (arith, ap first_name (new_at rs ring_names i z), first_is)

        ascend_of : (i j : ℕ) → i < j → j ≤ length rs → Dec (j < length rs)
            → first_name (contour_at (rs ++ (ring_names ∷ [])) i) < first_name (contour_at (rs ++ (ring_names ∷ [])) j)
        ascend_of i j l m (yes k) =
            let a : i < length rs = omega arith in
            let z = b.ascend i j l k in
            omega (arith, ap first_name (old_at rs ring_names i a), ap first_name (old_at rs ring_names j k))
        ascend_of i j l m (no k) =
            let a : i < length rs = omega arith in
            let d : j ≡ length rs = omega arith in
            let z = b.starts i a in
            omega (arith, ap first_name (old_at rs ring_names i a), ap first_name (new_at rs ring_names j d), first_is)

    -- the ring fits behind the names so far
    pub ring_room_lem : length (names_of rs) + ring.steps ≤ n
    ring_room_lem =
        let l = length-append (names_of rs) ring_names in
        let o = length_orbit next ring.steps c in
        let all : names_of (rs ++ (ring_names ∷ [])) ≡ names_of rs ++ ring_names = names_snoc rs ring_names in
        let f = names_few in
        omega (arith, l, o, ap length all)
      where
        names_few : length (names_of (rs ++ (ring_names ∷ []))) ≤ n
        names_few =
            distinct_few n (names_of (rs ++ (ring_names ∷ []))) begun_ring.once
            (λ i l. (begun_ring.only _ (at_member (names_of (rs ++ (ring_names ∷ []))) i l)).below)

  -- the names are no more than the corners
  pub begun_few : (c : ℕ) (rs : List (List ℕ)) → Begun c rs → length (names_of rs) ≤ n
  begun_few c rs b = distinct_few n (names_of rs) b.once (λ i l. (b.only _ (at_member (names_of rs) i l)).below)

  -- ---- all contours

  begun_all : (c : ℕ) → c ≤ n → (rs : List (List ℕ)) × Begun c rs
  begun_all zero h = ([], begun_start)
  begun_all (suc c) h =
      let b = begun_all c (omega arith) in
      by b.0 b.1 (starts_at b.0 c) refl
    where
      by : (rs : List (List ℕ)) → Begun c rs → (t : Bool) → starts_at rs c ≡ t → (qs : List (List ℕ)) × Begun (suc c) qs
      by rs b false e = (rs, begun_skip c rs b e)
      by rs b true e =
          let p = and_parts (rises c) (not (member c (names_of rs))) e in
          let x : Among n rises c = record { below = h; upward = p.0 } in
          let u = not-true (member c (names_of rs)) p.1 in
          (rs ++ (ring_names c rs b x u ∷ []), begun_ring c rs b x u)

  -- the contours of all corners below n
  pub trace_all : (rs : List (List ℕ)) × Begun n rs
  trace_all = begun_all n (omega arith)

-- ---- the section of a right mesh

module _ (passed : VertexSet) (corners pairing : List ℕ) (linked : Linked corners pairing) where
  pub leads_on : Leads (rising passed corners) (successor passed corners pairing) (length corners)
  leads_on =
      record {
        into = successor_crosses passed corners pairing linked;
        apart = successor_injective passed corners pairing linked;
        moves = two_crossings passed corners pairing linked;
      }

  pub trace_layer : (rs : List (List ℕ)) × ((trace passed corners pairing ≡ contours rs) × LayerContours passed corners pairing rs)
  unfolding trace
  trace_layer =
      let a = trace_all (rising passed corners) (successor passed corners pairing) (length corners) leads_on in
      let b = a.1 in
      (a.0, (b.is, record { each = b.each; ascend = b.ascend; only = b.only; every = λ x y. b.every x y.below y; once = b.once }))

  -- refusal 16 never arises
  pub never_stuck : (p : ℕ) → trace passed corners pairing ≡ stuck p → ⊥
  never_stuck p e = absurd (let z : ◌≡◌ {A = ℕ} 0 1 = apart (sym trace_layer.1.0 ∙ e) in omega arith)
    where
      apart : {rs : List (List ℕ)} {q : ℕ} → contours rs ≡ stuck q → ◌≡◌ {A = ℕ} 0 1
      apart h = cc

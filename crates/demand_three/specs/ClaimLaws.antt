-- The third demand proved (RUN-1 to RUN-7, RUN-9): what each
-- call keeps, what each call did, and the claim about the list.
use Prim.Native.Nat.{ℕ, suc, ◌≤◌, ◌<◌}
use Rattle.std.specs.Prelude.{◌≡◌, ◌⊎◌, Bool, true, false, cond, length, get_or, ℤ, Option, Result}
use Rattle.std.proofs.Math.Path.{refl, sym, ap, subst}
use Rattle.std.proofs.Common.{◌∙◌, arith, lt-ltb, le-ltb, eq-eqb}
use Rattle.std.proofs.Math.Logic.{inl, inr, ⊎_elim}
use Rattle.std.proofs.Math.Bool.{not}
use mathlib.Core.List.{List}
use Rattle.laws.specs.Booleans.{clash, is_true, is_false, split_lt}
use Rattle.laws.specs.TableLaws.{length_refill, refill_at}
use Rattle.mesh.specs.Corners.{vertex_count}
use Rattle.mesh.specs.Meshes.{OrderedMesh}
use Rattle.mesh.specs.Operation.{Answer, gives, refuses, is_refusal}
use Rattle.mesh.specs.Refusals.{Told}
use Rattle.mesh.specs.Tests.{pair_of}
use Rattle.section.specs.Section.{rising, successor, no_corner, ring_entry, Among, Linked}
use Rattle.section.proofs.SectionLaws.{rising_parts, falling_parts, pair_falls}
use Rattle.section.specs.Rings.{Ring}
use Rattle.section.specs.RingLaws.{ring_of_lem}
use Rattle.section.specs.Contours.{member, trace}
use Rattle.section.specs.Links.{has_link, link_of, trace_links}
use Rattle.section.proofs.LayerLaws.{Leads, leads_on, trace_all}
use Rattle.section.proofs.LinkLaws.{same_trace, link_rises, table_trace, table_leads}
use Rattle.cut.specs.Cut.{CutTables, tell_cut}
use Rattle.cut.proofs.CutLaws.{cut_only}
use Rattle.mesh.specs.declared.Refusal.{Refusal}
use Rattle.sweep.specs.declared.State.{State}
use Rattle.sweep.specs.declared.Risen.{Risen}
use Rattle.sweep.specs.Sweep.{Sweep, sweep, mesh_of, passed_at, RingAt, fresh_ring}
use Rattle.sweep.specs.SweepLaws.{step_right, step_length, step_past, step_keeps, count_few}
use Rattle.sweep.specs.Operations.{tell_start, Starts, StepGives, passes, top, tell_step, Steps, tell_layer, Rises}
use Rattle.sweep.proofs.AnswerLaws.{fresh_start, step_taken, step_top, unstepped_ring}
use Rattle.sweep.proofs.RiseLaws.{rise_tests_lem, rise_state, rise_ring, rise_is_cut, unrisen_ring}
use Rattle.demand_three.specs.Claim.{Call, step, rise, refused, given, count_after_step, count_after_rise, passed_after, ring_after, Run, done, skipped, taken}
use Rattle.demand_three.specs.Claim.{up, to, move_of, moved, plane_after, fed, OnlyTouched, GivesCut, StepDid, RiseDid, Did, EachCall, none, and, Afresh}
use Rattle.demand_three.specs.Claim.{SweepClaim}

-- ---- Step and Layer, unrefused

-- it changed only entries whose paired corner's triangle touches the vertex that it passed
pub stepped_touched : {s : Sweep} {answer : Result (Option State) Refusal} {n : ℕ} {ring' : List ℕ} → Steps s answer ring' → tell_step answer ≡ gives (passes n)
    → OnlyTouched s.ordered.paired (get_or s.ordered.order s.passed 0) s.ring ring'
stepped_touched {s} ok e =
    let d = step_taken ok e in
    subst (OnlyTouched s.ordered.paired (get_or s.ordered.order s.passed 0) s.ring) (sym d.relinks)
    (record {
      same_length = step_length s d.tested.long;
      only = λ c ne. (
        ⊎_elim (λ l. l) (λ l. absurd (ne (step_past s d.tested.long c l))) (split_lt c (length (mesh_of s).corners)),
        is_true _ (λ e. ne (step_keeps s d.tested.long c e)),
      );
    })

-- it gave what Cut gives
pub risen_cut : {s : Sweep} {h : ℤ} {t t' : CutTables} {answer : Result Risen Refusal} {n j k : ℕ} {ring' : List ℕ} → Rises s h t answer ring' t'
    → tell_layer answer ≡ gives (n, (j, k)) → GivesCut s.ordered.paired h t j k t'
risen_cut ok e =
    let c = rise_is_cut ok e in
    record {
      answer = c.0;
      tells = c.1;
      cuts = c.2;
      alone = λ other t'' x. let p = cut_only x c.2 in (ap tell_cut p.0 ∙ c.1, p.1);
    }

-- ---- what each call keeps

module _ (m : OrderedMesh) where
  abbrev coords : List ℤ
  coords = m.paired.mesh.coords

  abbrev corners : List ℕ
  corners = m.paired.mesh.corners

  abbrev pairing : List ℕ
  pairing = m.paired.pairing

  abbrev order : List ℕ
  order = m.order

  -- the plane's position n, the state and the ring table; before the first unrefused call the pairing is not tested, and nothing is passed
  pub record SweepKept (n passed : ℕ) (ring : List ℕ) : Type 0 where
    pub position : passed ≡ n
    pub few : n ≤ vertex_count coords
    pub table : RingAt (sweep m ring n)
    pub tested : (n ≡ 0) ⊎ Linked corners pairing

  -- nothing rises where nothing is passed
  none_rises : (c : ℕ) → rising (passed_at order 0) corners c ≡ true → ⊥
  unfolding rising passed_at member
  none_rises c e = clash e refl

  none_linked : (c : ℕ) → no_corner ≡ ring_entry (passed_at order 0) corners pairing c
  unfolding ring_entry rising passed_at member
  none_linked c = refl

  pub start_keeps : {ring : List ℕ} {start : Result State Refusal} {n : ℕ} {ring₀ : List ℕ} → Starts m.paired.mesh ring start ring₀ → tell_start start ≡ gives n
      → SweepKept 0 n ring₀
  unfolding fresh_ring
  start_keeps {ring} ok e =
      let d = fresh_start ok e in
      record {
        position = d.none_passed;
        few = omega arith;
        table = subst (λ (x : List ℕ). RingAt (sweep m x 0)) (sym d.fresh)
            (record {
              long = omega (arith, d.long, length_refill (length corners) (λ c. no_corner) ring d.long);
              entries = λ c l. refill_at (length corners) (λ c. no_corner) ring c 0 l ∙ none_linked c;
            });
        tested = inl refl;
      }

  pub stepped_keeps : (n passed : ℕ) (ring : List ℕ) {answer : Result (Option State) Refusal} {u : ℕ} {ring' : List ℕ}
      → Steps (sweep m ring passed) answer ring'
      → tell_step answer ≡ gives (passes u) → SweepKept n passed ring → SweepKept (moved coords n up) u ring'
  unfolding moved
  stepped_keeps n passed ring {answer} {u} {ring'} ok e k =
      let d = step_taken ok e in
      let right = d.tested.placed.right in
      let below : n < vertex_count coords = subst (λ (i : ℕ). i < vertex_count coords) k.position d.next in
      subst (λ (b : Bool). SweepKept (cond b (suc n) n) u ring') (sym (lt-ltb n (vertex_count coords) below))
      (record {
        position = d.one_more_lem ∙ ap suc k.position;
        few = below;
        table = subst (λ (i : ℕ). RingAt (sweep m ring' (suc i))) k.position
            (subst (λ (x : List ℕ). RingAt (sweep m x (suc passed))) (sym d.relinks)
            (step_right (sweep m ring passed) right.linked (d.tested.placed.ranked passed d.next).there
            (subst (λ (i : ℕ). RingAt (sweep m ring i)) (sym k.position) k.table)));
        tested = inr right.linked;
      })

  pub top_keeps : (n passed : ℕ) (ring : List ℕ) {answer : Result (Option State) Refusal} {ring' : List ℕ} → Steps (sweep m ring passed) answer ring'
      → tell_step answer ≡ gives top → SweepKept n passed ring → SweepKept (moved coords n up) passed ring'
  unfolding moved
  top_keeps n passed ring {answer} {ring'} ok e k =
      let d = step_top ok e in
      let all : vertex_count coords ≤ n = subst (λ (i : ℕ). vertex_count coords ≤ i) k.position d.all_passed in
      subst (λ (b : Bool). SweepKept (cond b (suc n) n) passed ring') (sym (le-ltb n (vertex_count coords) all)) (subst (SweepKept n passed) (sym d.stays) k)

  pub risen_keeps : (n passed : ℕ) (ring : List ℕ) (h : ℤ) {t t' : CutTables} {answer : Result Risen Refusal} {u i j : ℕ} {ring' : List ℕ}
      → Rises (sweep m ring passed) h t answer ring' t' → tell_layer answer ≡ gives (u, (i, j)) → SweepKept (moved coords n (to h)) u ring'
  unfolding moved
  risen_keeps n passed ring h ok e =
      record {
        position = rise_state ok e;
        few = count_few coords order (rise_tests_lem ok e).placed.ranked h;
        table = rise_ring ok e;
        tested = inr (rise_tests_lem ok e).placed.right.linked;
      }

  -- the position that the plain sweep gives is kept
  step_on : (n passed : ℕ) (ring : List ℕ) {answer : Result (Option State) Refusal} {ring' : List ℕ} → Steps (sweep m ring passed) answer ring'
      → (a : Answer Told StepGives)
      → tell_step answer ≡ a → is_refusal a ≡ false → SweepKept n passed ring → SweepKept (moved coords n up) (count_after_step passed a) ring'
  step_on n passed ring ok (gives (passes u)) q e k = stepped_keeps n passed ring ok q k
  step_on n passed ring ok (gives top) q e k = top_keeps n passed ring ok q k
  step_on n passed ring ok (refuses r) q e k = absurd (clash refl e)

  rise_on : (n passed : ℕ) (ring : List ℕ) (h : ℤ) {t t' : CutTables} {answer : Result Risen Refusal} {ring' : List ℕ}
      → Rises (sweep m ring passed) h t answer ring' t'
      → (a : Answer Told (ℕ × (ℕ × ℕ))) → tell_layer answer ≡ a → is_refusal a ≡ false → SweepKept (moved coords n (to h)) (count_after_rise passed a) ring'
  rise_on n passed ring h ok (gives (u, (i, j))) q e = risen_keeps n passed ring h ok q
  rise_on n passed ring h ok (refuses r) q e = absurd (clash refl e)

  pub call_keeps : (n passed : ℕ) (ring : List ℕ) (c : Call) → refused c ≡ false → given c ≡ sweep m ring passed → SweepKept n passed ring
      → SweepKept (moved coords n (move_of c)) (passed_after c) (ring_after c)
  unfolding refused given move_of passed_after ring_after
  call_keeps n passed ring (step s answer ring' ok) e q k =
      subst (λ (x : Sweep). Steps x answer ring' → SweepKept (moved coords n up) (count_after_step x.passed (tell_step answer)) ring') (sym q)
      (λ v. step_on n passed ring v (tell_step answer) refl e k) ok
  call_keeps n passed ring (rise s h t answer ring' t' ok) e q k =
      subst (λ (x : Sweep). Rises x h t answer ring' t' → SweepKept (moved coords n (to h)) (count_after_rise x.passed (tell_layer answer)) ring') (sym q)
      (λ v. rise_on n passed ring h v (tell_layer answer) refl e) ok

  pub run_keeps : {p p' : ℕ} {ring ring' : List ℕ} {cs : List Call} (n : ℕ) → Run m p ring cs p' ring' → SweepKept n p ring
      → SweepKept (plane_after coords n (fed cs)) p' ring'
  unfolding plane_after fed
  run_keeps n done k = k
  run_keeps {p' = p'} {ring' = ring'} n (skipped {c = c} {cs = cs} e r) k =
      subst (λ (b : Bool). SweepKept (plane_after coords (cond b n (moved coords n (move_of c))) (fed cs)) p' ring') (sym e) (run_keeps n r k)
  run_keeps {p' = p'} {ring' = ring'} n (taken {n = p} {r = ring} {c = c} {cs = cs} e q r) k =
      subst (λ (b : Bool). SweepKept (plane_after coords (cond b n (moved coords n (move_of c))) (fed cs)) p' ring') (sym e)
      (run_keeps (moved coords n (move_of c)) r (call_keeps n p ring c e q k))

  -- ---- what each call did

  -- where it was refused, or was handed this mesh with this pairing and order
  step_did : {s : Sweep} {answer : Result (Option State) Refusal} {ring' : List ℕ} → Steps s answer ring' → (a : Answer Told StepGives) → tell_step answer ≡ a
      → (is_refusal a ≡ true) ⊎ (s.ordered ≡ m) → StepDid m s ring' a
  step_did {s} {ring' = ring'} ok (gives (passes n)) e same =
      ⊎_elim (λ x. absurd (clash x refl))
      (λ q. subst (λ (o : OrderedMesh). OnlyTouched o.paired (get_or o.order s.passed 0) s.ring ring') q (stepped_touched ok e)) same
  step_did ok (gives top) e same = (step_top ok e).stays
  step_did ok (refuses r) e same = unstepped_ring ok e

  rise_did : {s : Sweep} {h : ℤ} {t t' : CutTables} {answer : Result Risen Refusal} {ring' : List ℕ} → Rises s h t answer ring' t'
      → (a : Answer Told (ℕ × (ℕ × ℕ))) → tell_layer answer ≡ a → (is_refusal a ≡ true) ⊎ (s.ordered ≡ m) → RiseDid m s h t ring' t' a
  rise_did {h = h} {t = t} {t' = t'} ok (gives (n, (j, k))) e same =
      ⊎_elim (λ x. absurd (clash x refl))
      (λ q. subst (λ (o : OrderedMesh). GivesCut o.paired h t j k t') q (risen_cut ok e)) same
  rise_did ok (refuses r) e same = unrisen_ring ok e

  call_did : (c : Call) → (refused c ≡ true) ⊎ ((given c).ordered ≡ m) → Did m c
  unfolding refused given Did
  call_did (step s answer ring' ok) same = step_did ok (tell_step answer) refl same
  call_did (rise s h t answer ring' t' ok) same = rise_did ok (tell_layer answer) refl same

  run_did : {p p' : ℕ} {ring ring' : List ℕ} {cs : List Call} → Run m p ring cs p' ring' → EachCall (Did m) cs
  run_did done = none
  run_did (skipped {c = c} e r) = and (call_did c (inl e)) (run_did r)
  run_did (taken {c = c} e q r) = and (call_did c (inr (λ i. (q i).ordered))) (run_did r)

  -- ---- the rings of a ring table as it is defined

  module _ (n : ℕ) (ring : List ℕ) (table : RingAt (sweep m ring n)) where
    module _ (linked : Linked corners pairing) where
      right_afresh : trace_links (length corners) ring ≡ trace (passed_at order n) corners pairing
      right_afresh = sym (table_trace (passed_at order n) corners pairing linked ring table.entries)

      right_one : (c : ℕ) → c < length corners → rising (passed_at order n) corners c ≡ true → rising (passed_at order n) corners (pair_of pairing c) ≡ true → ⊥
      right_one c l p q =
          clash (rising_parts (passed_at order n) corners (pair_of pairing c) q).0
          (falling_parts (passed_at order n) corners (pair_of pairing c)
          (pair_falls (passed_at order n) corners pairing linked c (record { below = l; upward = p }))).1

      right_rings : (c d : ℕ) → c < length corners → (d ≡ c) ⊎ (d ≡ pair_of pairing c) → rising (passed_at order n) corners d ≡ true
          → Ring (λ k. get_or ring k 0) (length corners) d
      right_rings c d l e p =
          let leads = table_leads (passed_at order n) corners pairing linked ring table.entries in
          ring_of_lem (λ k. get_or ring k 0) (length corners) (Among (length corners) (has_link ring)) (λ k x. x.below) leads.into leads.apart
          d (record { below = corner; upward = sym (link_rises (passed_at order n) corners pairing linked ring table.entries d corner) ∙ p })
        where
          corner : d < length corners
          corner = ⊎_elim (λ q. omega arith) (λ q. omega (arith, (linked.each c l).corner)) e

    -- nothing is passed
    module _ (fresh : n ≡ 0) where
      at_none : {A : Type 0} (c : ℕ) → rising (passed_at order n) corners c ≡ true → A
      at_none c p = absurd (none_rises c (subst (λ (i : ℕ). rising (passed_at order i) corners c ≡ true) fresh p))

      fresh_leads : Leads (rising (passed_at order n) corners) (successor (passed_at order n) corners pairing) (length corners)
      fresh_leads = record { into = λ c x. at_none c x.upward; apart = λ c d x y e. at_none c x.upward; moves = λ c x e. at_none c x.upward }

      fresh_afresh : trace_links (length corners) ring ≡ trace (passed_at order n) corners pairing
      unfolding trace_links trace has_link
      fresh_afresh =
          sym (same_trace (rising (passed_at order n) corners) (successor (passed_at order n) corners pairing) (length corners)
          fresh_leads
          (has_link ring) (link_of ring)
          (λ c l. is_false _ (at_none c) ∙ sym
          (ap not (eq-eqb (get_or ring c 0) no_corner
          (table.entries c l ∙ ap (λ (i : ℕ). ring_entry (passed_at order i) corners pairing c) fresh ∙ sym (none_linked c)))))
          (λ c x. at_none c x.upward))

    module _ (tested : (n ≡ 0) ⊎ Linked corners pairing) where
      rings_lead : Leads (rising (passed_at order n) corners) (successor (passed_at order n) corners pairing) (length corners)
      rings_lead = ⊎_elim fresh_leads (leads_on (passed_at order n) corners pairing) tested

      pub ring_afresh : Afresh m n ring
      unfolding trace
      ring_afresh =
          let a = trace_all (rising (passed_at order n) corners) (successor (passed_at order n) corners pairing) (length corners) rings_lead in
          let b = a.1 in
          record {
            rings = a.0;
            layer = record { each = b.each; ascend = b.ascend; only = b.only; every = λ x y. b.every x y.below y; once = b.once };
            walked = ⊎_elim fresh_afresh right_afresh tested ∙ b.is;
            traced = b.is;
          }

      pub ring_one : (c : ℕ) → c < length corners → rising (passed_at order n) corners c ≡ true → rising (passed_at order n) corners (pair_of pairing c) ≡ true
          → ⊥
      ring_one c l p q = ⊎_elim (λ f. at_none f c p) (λ r. right_one r c l p q) tested

      pub ring_rings : (c d : ℕ) → c < length corners → (d ≡ c) ⊎ (d ≡ pair_of pairing c) → rising (passed_at order n) corners d ≡ true
          → Ring (λ k. get_or ring k 0) (length corners) d
      ring_rings c d l e p = ⊎_elim (λ f. at_none f d p) (λ r. right_rings r c d l e p) tested

-- ---- the claim

pub sweep_claim : SweepClaim
sweep_claim m ring start u ring₀ ok e calls passed ring' run =
    let n = plane_after m.paired.mesh.coords 0 (fed calls) in
    let k = run_keeps m 0 run (start_keeps m ok e) in
    record {
      position = k.position;
      long = k.table.long;
      entries = k.table.entries;
      afresh = ring_afresh m n ring' k.table k.tested;
      one_rises = ring_one m n ring' k.table k.tested;
      rings = ring_rings m n ring' k.table k.tested;
      each = run_did m run;
    }

-- The claim about a list of calls is not empty: on a right mesh Step is never refused, Layer only at a height too low or with too little room, and every
-- list of steps and rises that never lowers the plane is a run.
use Prim.Native.Nat.{ℕ, suc, ◌≤◌, ◌<◌}
use Rattle.std.specs.Prelude.{◌≡◌, Bool, true, false, cond, ltb, get_or, ℤ, ◌<ℤ◌, Option, Some, None as NoState, Result, Ok}
use Rattle.std.proofs.Math.Path.{refl, ap}
use Rattle.std.proofs.Common.{sym, ◌∙◌, subst, arith, lt-ltb, le-ltb, eq-eqb}
use Rattle.std.proofs.Math.Bool.{not}
use mathlib.Core.List.{List, [], ◌∷◌, map}
use Rattle.std.proofs.lemmas.Bool.{not-false}
use Rattle.std.proofs.Math.ListN.{length}
use Rattle.std.specs.Int.Signed.{lt_z}
use Rattle.laws.specs.Booleans.{clash, and_parts, and_of, is_false, from_T}
use Rattle.laws.specs.CountLaws.{count_le}
use Rattle.laws.specs.LeastLaws.{some_at}
use Rattle.mesh.specs.Corners.{vertex_count, z_of}
use Rattle.mesh.specs.Meshes.{OrderedMesh}
use Rattle.mesh.specs.Operation.{gives, refuses, fine, verdict}
use Rattle.mesh.specs.OperationLaws.{Nowhere, None, more, done as none_left, none_fine, apart, does_give, refused_verdict}
use Rattle.mesh.specs.OrderTableLaws.{ordered_rank}
use Rattle.mesh.specs.RankLaws.{lower_sum, sum_lower}
use Rattle.mesh.specs.Refusals.{Told}
use Rattle.section.specs.Section.{below, Right}
use Rattle.section.specs.RightLaws.{right_of}
use Rattle.section.specs.Contours.{Traced, names_of}
use Rattle.section.proofs.LayerLaws.{trace_layer}
use Rattle.cut.specs.Cut.{CutTables, lengths_of, cut_room_for, met_at, used, contours_of, tables_after_cut}
use Rattle.mesh.specs.declared.Refusal.{Refusal}
use Rattle.sweep.specs.declared.State.{State}
use Rattle.sweep.specs.declared.Risen.{Risen}
use Rattle.sweep.specs.Sweep.{sweep, RingAt, fresh_ring, step_ring, may_rise, count_below}
use Rattle.sweep.specs.SweepLaws.{may_rise_lem}
use Rattle.sweep.specs.Operations.{at, unless_refused, linked_at, passed_high, start_tests, tell_start, Starts, step_tests, passes, top, tell_step, Steps}
use Rattle.sweep.specs.Operations.{risen_passed, risen_table, risen_section, layering, tell_layer, Rises}
use Rattle.sweep.specs.Places.{InOrder, RiseTested}
use Rattle.sweep.proofs.RiseLaws.{rise_section}
use Rattle.all_heights.specs.HeightLaws.{RisingHeights}
use Rattle.demand_three.specs.Claim.{Call, step, rise, refused, given, passed_after, ring_after, Run, done, taken, Move, up, to, move_of, moved, fed}
use Rattle.demand_three.specs.FileClaim.{right_tests}
use Rattle.demand_three.specs.ClaimLaws.{SweepKept, start_keeps, call_keeps, run_keeps}

-- what a rise gives: so many passed, and the counts of contours and points
abbrev pub risen_at : ℕ → ℕ → ℕ → Risen
risen_at n j k = record { state = at n; counts = record { contours = j; points = k } }

module _ (m : OrderedMesh) (right : None (right_tests m)) where
  abbrev coords : List ℤ
  coords = m.paired.mesh.coords

  abbrev corners : List ℕ
  corners = m.paired.mesh.corners

  pub mesh_tested : Right m.paired × InOrder m.paired.mesh.coords m.order
  mesh_tested = go right
    where
      go : None (right_tests m) → Right m.paired × InOrder m.paired.mesh.coords m.order
      go (more s (more r (more v (more t (more p (more o none_left)))))) =
          (right_of m.paired (not-false _ (s 0 (omega arith))) r v t p, λ i h. ordered_rank coords m.order i (not-false _ (o i h)) h)

  -- ---- Start

  -- the caller lends a ring table of at least one entry for each corner: Start is not refused
  pub start_tests_lem : (ring : List ℕ) → length m.paired.mesh.corners ≤ length ring → verdict (start_tests m.paired.mesh (length ring)) ≡ fine
  start_tests_lem ring long = none_fine (start_tests m.paired.mesh (length ring)) (go right)
    where
      go : None (right_tests m) → None (start_tests m.paired.mesh (length ring))
      go (more s rest) = more s (more (λ i l. le-ltb _ _ long) none_left)

  pub start_fine : (ring : List ℕ) → length m.paired.mesh.corners ≤ length ring
      → (answer : Result State Refusal) × (tell_start answer ≡ gives 0) × Starts m.paired.mesh ring answer (fresh_ring m.paired.mesh.corners ring)
  unfolding unless_refused
  start_fine ring long = (Ok (at 0), refl, does_give refl (start_tests_lem ring long) refl refl)

  -- ---- Step

  -- at every position up to the number of vertices, with a ring table of at least one entry for each corner, no condition of Step fits. Both hold after
  -- any run: see `next_step`
  pub step_fine : (ring n : ℕ) → n ≤ vertex_count m.paired.mesh.coords → length m.paired.mesh.corners ≤ ring → verdict (step_tests m ring n) ≡ fine
  step_fine ring n few long = none_fine (step_tests m ring n) (go right)
    where
      go : None (right_tests m) → None (step_tests m ring n)
      go (more s (more r (more v (more t (more p (more o none_left)))))) =
          more s (more r (more v (more t (more p (more o (more (λ i l. le-ltb _ _ few) (more (λ i l. le-ltb _ _ long) none_left)))))))

  -- ---- Layer

  passed_low : (n : ℕ) (h : ℤ) → n ≤ count_below coords h → (i : ℕ) → i < n → below coords h (get_or m.order i 0) ≡ true
  unfolding may_rise
  passed_low n h low i l =
      (and_parts (ltb i (vertex_count coords)) (below coords h (get_or m.order i 0)) (may_rise_lem coords m.order mesh_tested.1 h i (omega arith))).1

  no_high : (n : ℕ) (h : ℤ) → n ≤ count_below coords h → passed_high coords m.order n h ≡ false
  unfolding passed_high
  no_high n h low =
      is_false _ (λ e. let a = some_at n (λ i. not (below coords h (get_or m.order i 0))) e in clash a.1 (ap not (passed_low n h low _ a.0)))

  all_linked : (ring : List ℕ) (n : ℕ) → RingAt (sweep m ring n) → (c : ℕ) → c < length corners
      → linked_at (sweep m ring n) c ≡ true
  unfolding linked_at
  all_linked ring n table c l = let q : c < length ring = omega (arith, table.long) in and_of (lt-ltb _ _ q) (eq-eqb _ _ (table.entries c l))

  -- no walk along the ring table meets a used crossing: 16 never arises
  pub never_used : (ring : List ℕ) (n : ℕ) (h : ℤ) → RiseTested (sweep m ring n) h → Nowhere (used (length corners) (risen_section (sweep m ring n) h))
  unfolding met_at
  never_used ring n h t c l =
      ap (λ (q : Traced). met_at q c)
      (sym (rise_section (sweep m ring n) h t) ∙ (trace_layer (below coords h) corners m.paired.pairing mesh_tested.0.linked).1.0)

  -- with lent tables long enough, the ring table as defined for n, which it is after any run, and a height that does not lower the plane, no condition of
  -- Layer fits: see `next_rise`
  module _ (ring : List ℕ) (n : ℕ) (h : ℤ) (t : CutTables) (room : cut_room_for (length m.paired.mesh.corners) (lengths_of t) ≡ true)
      (few : n ≤ vertex_count m.paired.mesh.coords) (table : RingAt (sweep m ring n))
      (low : n ≤ count_below m.paired.mesh.coords h) where
    pub rise_fine : verdict (layering (sweep m ring n, h, t)).refusals ≡ fine
    rise_fine = none_fine (layering (sweep m ring n, h, t)).refusals (go right)
      where
        tested : RiseTested (sweep m ring n) h
        tested = record { placed = record { right = mesh_tested.0; ranked = mesh_tested.1; few = few }; table = table; low = passed_low n h low }

        go : None (right_tests m) → None (layering (sweep m ring n, h, t)).refusals
        go (more s (more r (more v (more x (more p (more o none_left)))))) =
            more s (more (λ i l. ap not room) (more r (more v (more x (more p (more o (more (λ i l. le-ltb _ _ few)
            (more (λ c l. ap not (all_linked ring n table c l)) (more (λ i l. no_high n h low) (more (never_used ring n h tested) none_left))))))))))

  -- ---- after any run

  -- the next Step is not refused, nor is a Layer that is lent tables long enough and does not lower the plane
  module _ {ring : List ℕ} {start : Result State Refusal} {n : ℕ} {ring₀ : List ℕ} (ok : Starts m.paired.mesh ring start ring₀) (e : tell_start start ≡ gives n)
      {calls : List Call} {passed : ℕ} {ring' : List ℕ} (run : Run m n ring₀ calls passed ring') where
    kept : SweepKept m passed passed ring'
    kept =
        let k = run_keeps m 0 run (start_keeps m ok e) in
        subst (λ (i : ℕ). SweepKept m i passed ring') (sym k.position) k

    pub next_step : {answer : Result (Option State) Refusal} {r : Told} {ring'' : List ℕ} → Steps (sweep m ring' passed) answer ring''
        → tell_step answer ≡ refuses r → ⊥
    next_step d q = apart (sym (refused_verdict d q) ∙ step_fine (length ring') passed kept.few kept.table.long)

    pub next_rise : (h : ℤ) (t : CutTables) → cut_room_for (length m.paired.mesh.corners) (lengths_of t) ≡ true
        → passed ≤ count_below m.paired.mesh.coords h
        → {answer : Result Risen Refusal} {r : Told} {ring'' : List ℕ} {t' : CutTables} → Rises (sweep m ring' passed) h t answer ring'' t'
        → tell_layer answer ≡ refuses r → ⊥
    next_rise h t room low d q = apart (sym (refused_verdict d q) ∙ rise_fine ring' passed h t room kept.few kept.table low)

-- ---- lists of moves

-- none of these moves takes the plane down from n
pub data Upward (coords : List ℤ) : ℕ → List Move → Type 0 where
  stays : {n : ℕ} → Upward coords n []
  steps : {n : ℕ} {ms : List Move} → Upward coords (moved coords n up) ms → Upward coords n (up ∷ ms)
  rises : {n : ℕ} {h : ℤ} {ms : List Move} → n ≤ count_below coords h → Upward coords (moved coords n (to h)) ms → Upward coords n (to h ∷ ms)

more_below : (coords : List ℤ) (g h : ℤ) → g <ℤ h → count_below coords g ≤ count_below coords h
unfolding count_below below
more_below coords g h e =
    count_le (below coords g) (below coords h) (vertex_count coords)
    (λ v l p. sum_lower (z_of coords v) h (omega (arith, lower_sum (z_of coords v) g p, lower_sum g h (from_T (lt_z g h) e.lt))))

upward_from : (coords : List ℤ) (n : ℕ) (h : ℤ) (hs : List ℤ) → n ≤ count_below coords h → RisingHeights (h ∷ hs) → Upward coords n (map to (h ∷ hs))
unfolding moved
upward_from coords n h [] low above = rises low stays
upward_from coords n h (g ∷ hs) low above =
    rises low (upward_from coords (count_below coords h) g hs (more_below coords h g (above 0 (omega arith))) (λ i l. above (suc i) (omega arith)))

-- from a start none of them takes the plane down
pub rising_upward : (coords : List ℤ) (hs : List ℤ) → RisingHeights hs → Upward coords 0 (map to hs)
rising_upward coords [] above = stays
rising_upward coords (h ∷ hs) above = upward_from coords 0 h hs (omega arith) above

-- these moves, none refused
unfoldable pub unrefused : List Move → List (Move × Bool)
unrefused [] = []
unrefused (m ∷ ms) = (m, false) ∷ unrefused ms

-- calls that make these moves from n passed and ring table r, none refused
pub record MovesMade (m : OrderedMesh) (n : ℕ) (r : List ℕ) (ms : List Move) : Type 0 where
  pub calls : List Call
  pub passed : ℕ
  pub ring : List ℕ
  pub run : Run m n r calls passed ring
  pub all_made : fed calls ≡ unrefused ms

module _ (m : OrderedMesh) (right : None (right_tests m))
    -- the caller lends tables long enough
    (t : CutTables) (room : cut_room_for (length m.paired.mesh.corners) (lengths_of t) ≡ true) where
  abbrev vertices : ℕ
  vertices = vertex_count m.paired.mesh.coords

  -- what a call hands on, where it makes this move from position n
  abbrev Onward : ℕ → Move → List Move → Type 0
  Onward n move ms = (p : ℕ) (ring : List ℕ) → SweepKept m (moved m.paired.mesh.coords n move) p ring → MovesMade m p ring ms

  made_first : (p : ℕ) (ring : List ℕ) (c : Call) (ms : List Move) → refused c ≡ false → given c ≡ sweep m ring p
      → MovesMade m (passed_after c) (ring_after c) ms → MovesMade m p ring (move_of c ∷ ms)
  unfolding fed unrefused
  made_first p ring c ms e q rest =
      record {
        calls = c ∷ rest.calls;
        passed = rest.passed;
        ring = rest.ring;
        run = taken e q rest.run;
        all_made = λ i. (move_of c, e i) ∷ rest.all_made i;
      }

  made_call : (n p : ℕ) (ring : List ℕ) (c : Call) (ms : List Move) → refused c ≡ false → given c ≡ sweep m ring p → SweepKept m n p ring
      → Onward n (move_of c) ms → MovesMade m p ring (move_of c ∷ ms)
  made_call n p ring c ms e q k rest = made_first p ring c ms e q (rest (passed_after c) (ring_after c) (call_keeps m n p ring c e q k))

  few : (n p : ℕ) (ring : List ℕ) → SweepKept m n p ring → p ≤ vertices
  few n p ring k = subst (λ (i : ℕ). i ≤ vertices) (sym k.position) k.few

  made_step : (n p : ℕ) (ring : List ℕ) (ms : List Move) → SweepKept m n p ring → Onward n up ms → MovesMade m p ring (up ∷ ms)
  unfolding refused given move_of unless_refused
  made_step n p ring ms k rest = by (ltb p vertices) refl
    where
      relinks : List ℕ
      relinks = step_ring (sweep m ring p)

      none : verdict (step_tests m (length ring) p) ≡ fine
      none = step_fine m right (length ring) p (few n p ring k) k.table.long

      by : (b : Bool) → ltb p vertices ≡ b → MovesMade m p ring (up ∷ ms)
      by true e =
          let ok : Steps (sweep m ring p) (Ok (Some (at (suc p)))) relinks =
          does_give refl none (λ i. gives (cond (sym e i) (passes (suc p)) top)) (λ i. cond (sym e i) relinks ring) in
          made_call n p ring (step (sweep m ring p) (Ok (Some (at (suc p)))) relinks ok) ms refl refl k rest
      by false e =
          let ok : Steps (sweep m ring p) (Ok NoState) ring =
          does_give refl none (λ i. gives (cond (sym e i) (passes (suc p)) top)) (λ i. cond (sym e i) relinks ring) in
          made_call n p ring (step (sweep m ring p) (Ok NoState) ring ok) ms refl refl k rest

  made_rise : (n p : ℕ) (ring : List ℕ) (h : ℤ) (ms : List Move) → n ≤ count_below m.paired.mesh.coords h → SweepKept m n p ring → Onward n (to h) ms
      → MovesMade m p ring (to h ∷ ms)
  unfolding refused given move_of unless_refused
  made_rise n p ring h ms low k rest =
      let s = sweep m ring p in
      let rs = contours_of (risen_section s h) in
      let none : verdict (layering (s, h, t)).refusals ≡ fine = rise_fine m right ring p h t room (few n p ring k)
      (subst (λ (i : ℕ). RingAt (sweep m ring i)) (sym k.position) k.table)
      (subst (λ (i : ℕ). i ≤ count_below m.paired.mesh.coords h) (sym k.position) low) in
      let ok : Rises s h t (Ok (risen_at (risen_passed s h) (length rs) (length (names_of rs)))) (risen_table s h)
      (tables_after_cut m.paired.mesh h rs t fine) =
      does_give refl none refl refl in
      made_call n p ring
      (rise s h t (Ok (risen_at (risen_passed s h) (length rs) (length (names_of rs)))) (risen_table s h) (tables_after_cut m.paired.mesh h rs t fine) ok)
      ms refl refl k rest

  made : (n p : ℕ) (ring : List ℕ) (ms : List Move) → Upward m.paired.mesh.coords n ms → SweepKept m n p ring → MovesMade m p ring ms
  unfolding fed unrefused
  made n p ring ms stays k = record { calls = []; passed = p; ring = ring; run = done; all_made = refl }
  made n p ring ms (steps {ms = rest} c) k =
      made_step n p ring rest k (λ p' ring' k'. made (moved m.paired.mesh.coords n up) p' ring' rest c k')
  made n p ring ms (rises {h = h} {ms = rest} low c) k =
      made_rise n p ring h rest low k (λ p' ring' k'. made (moved m.paired.mesh.coords n (to h)) p' ring' rest c k')

  -- after an unrefused start every list of moves that never lowers the plane can be made
  pub every_climb : {ring : List ℕ} {start : Result State Refusal} {n : ℕ} {ring₀ : List ℕ} → Starts m.paired.mesh ring start ring₀ → tell_start start ≡ gives n
      → (ms : List Move) → Upward m.paired.mesh.coords 0 ms → MovesMade m n ring₀ ms
  every_climb {n = n} {ring₀ = ring₀} ok e ms c = made 0 n ring₀ ms c (start_keeps m ok e)

  -- so strictly rising heights can be climbed by Layer from a start
  pub layers_climb : {ring : List ℕ} {start : Result State Refusal} {n : ℕ} {ring₀ : List ℕ} → Starts m.paired.mesh ring start ring₀
      → tell_start start ≡ gives n
      → (hs : List ℤ) → RisingHeights hs → MovesMade m n ring₀ (map to hs)
  layers_climb ok e hs above = every_climb ok e (map to hs) (rising_upward m.paired.mesh.coords hs above)

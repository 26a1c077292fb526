-- What Start, Step and Layer promise: each refuses exactly if a listed condition holds, the first that fits, at its least place; gives its values exactly if
-- none does; and the outcome is the only one. Then what an unrefused call has tested, and what Start and Step give and leave by what their answers tell.
use Rattle.std.specs.Prelude.{ℕ, suc, ◌≤◌, ◌<◌, ◌≡◌, ◌↔◌, Bool, true, false, cond, List, ltb, get_or, ℤ, Option, Some, None as Absent, Result, Ok, Err}
use Rattle.std.proofs.Math.Path.{refl}
use Rattle.std.proofs.Common.{sym, ap, arith}
use Rattle.std.proofs.Math.Logic.{⊎_elim}
use Rattle.std.proofs.Math.Bool.{not}
use borrow.Author.Tests.{ltb-true, ltb-false, eqb-true, not-false}
use Rattle.std.proofs.Math.ListN.{length}
use Rattle.laws.specs.Booleans.{and_parts, split_lt}
use Rattle.laws.specs.LeastLaws.{some_none}
use Rattle.mesh.specs.Corners.{vertex_count}
use Rattle.mesh.specs.Meshes.{Mesh, OrderedMesh}
use Rattle.mesh.specs.Operation.{gives, refuses, fine, verdict}
use Rattle.mesh.specs.OperationLaws.{First, None, more, done, fine_none, Recovers, refused_exactly, given_exactly, only_outcome}
use Rattle.mesh.specs.OperationLaws.{given_verdict, left_given, left_refused}
use Rattle.mesh.specs.OrderTableLaws.{ordered_rank}
use Rattle.mesh.specs.Refusals.{Told}
use Rattle.mesh.specs.RefusalLaws.{refusal_of, refusal_once}
use Rattle.section.specs.Section.{below}
use Rattle.section.specs.RightLaws.{right_of}
use Rattle.cut.specs.Cut.{CutTables, Lengths}
use Rattle.cut.specs.Outlines.{Long}
use Rattle.cut.specs.OutlineLaws.{room_long}
use Rattle.mesh.specs.declared.Refusal.{Refusal}
use Rattle.sweep.specs.declared.Risen.{Risen}
use Rattle.sweep.specs.declared.State.{State}
use Rattle.sweep.specs.Sweep.{Sweep, mesh_of, RingAt, fresh_ring, step_ring}
use Rattle.sweep.specs.Operations.{at, unless_refused, linked_at, passed_high, start_tests, starting, tell_start, Starts}
use Rattle.sweep.specs.Operations.{step_tests, StepGives, passes, top, next_or_top, stepping, tell_step, Steps}
use Rattle.sweep.specs.Operations.{rise_tests, layering, tell_layer, Rises}
use Rattle.sweep.specs.Places.{StepTested, RiseTested}

-- ---- the cases of an answer, from what they tell

pub start_recovers : Recovers tell_start
start_recovers = record {
  back = elim [ gives n ↦ Ok (at n) | refuses r ↦ Err (refusal_of r) ];
  once = elim [ Ok s ↦ refl | Err r ↦ ap Err (refusal_once r) ];
}

step_of : StepGives → Option State
step_of (passes n) = Some (at n)
step_of top = Absent

step_once : (o : Option State) → step_of (next_or_top o) ≡ o
unfolding step_of
step_once (Some s) = refl
step_once Absent = refl

pub step_recovers : Recovers tell_step
step_recovers = record {
  back = elim [ gives g ↦ Ok (step_of g) | refuses r ↦ Err (refusal_of r) ];
  once = elim [ Ok o ↦ ap Ok (step_once o) | Err r ↦ ap Err (refusal_once r) ];
}

pub layer_recovers : Recovers tell_layer
layer_recovers = record {
  back = elim [
    | gives g ↦ Ok (record { state = at g.0; counts = record { contours = g.1.0; points = g.1.1 } })
    | refuses r ↦ Err (refusal_of r)
  ];
  once = elim [ Ok r ↦ refl | Err r ↦ ap Err (refusal_once r) ];
}

-- ---- refused exactly if, given exactly if, and one outcome only

module _ {m : Mesh} {ring ring' : List ℕ} {result : Result State Refusal} (d : Starts m ring result ring') where
  pub start_refused : (r : Told) → (tell_start result ≡ refuses r) ↔ First (starting (m, ring)).refusals r
  start_refused = refused_exactly d

  pub start_given : (tell_start result ≡ gives 0) ↔ None (starting (m, ring)).refusals
  start_given = given_exactly d

  pub start_only : {other : Result State Refusal} {ring'' : List ℕ} → Starts m ring other ring'' → (result ≡ other) × (ring' ≡ ring'')
  start_only = only_outcome start_recovers d

module _ {s : Sweep} {ring' : List ℕ} {result : Result (Option State) Refusal} (d : Steps s result ring') where
  pub step_refused : (r : Told) → (tell_step result ≡ refuses r) ↔ First (stepping s).refusals r
  step_refused = refused_exactly d

  pub step_given : (tell_step result ≡ gives (stepping s).values) ↔ None (stepping s).refusals
  step_given = given_exactly d

  pub step_only : {other : Result (Option State) Refusal} {ring'' : List ℕ} → Steps s other ring'' → (result ≡ other) × (ring' ≡ ring'')
  step_only = only_outcome step_recovers d

module _ {s : Sweep} {h : ℤ} {t t' : CutTables} {ring' : List ℕ} {result : Result Risen Refusal} (d : Rises s h t result ring' t') where
  pub layer_refused : (r : Told) → (tell_layer result ≡ refuses r) ↔ First (layering (s, h, t)).refusals r
  layer_refused = refused_exactly d

  pub layer_given : (tell_layer result ≡ gives (layering (s, h, t)).values) ↔ None (layering (s, h, t)).refusals
  layer_given = given_exactly d

  pub layer_only : {other : Result Risen Refusal} {ring'' : List ℕ} {t'' : CutTables} → Rises s h t other ring'' t''
      → (result ≡ other) × (ring' ≡ ring'') × (t' ≡ t'')
  layer_only e = let p = only_outcome layer_recovers d e in (p.0, (λ i. (p.1 i).0), (λ i. (p.1 i).1))

-- ---- what an unrefused call has tested

pub step_tested : (m : OrderedMesh) (ring n : ℕ) → verdict (step_tests m ring n) ≡ fine → StepTested m ring n
step_tested m ring n e = go (fine_none (step_tests m ring n) e)
  where
    go : None (step_tests m ring n) → StepTested m ring n
    go (more s (more r (more v (more t (more p (more o (more k (more l done)))))))) =
        record {
          placed = record {
            right = right_of m.paired (not-false _ (s 0 (omega arith))) r v t p;
            ranked = λ i h. ordered_rank m.paired.mesh.coords m.order i (not-false _ (o i h)) h;
            few = ltb-false _ _ (k 0 (omega arith));
          };
          long = ltb-false _ _ (l 0 (omega arith));
        }

module _ (s : Sweep) where
  ring_linked : ((c : ℕ) → c < length (mesh_of s).corners → linked_at s c ≡ true) → RingAt s
  unfolding linked_at
  ring_linked all =
      let corners = (mesh_of s).corners in
      let ring = s.ring in
      record {
        long = ⊎_elim
            (λ (l : length ring < length corners). let p : length ring < length ring = ltb-true _ _ (and_parts _ _ (all (length ring) l)).0 in omega arith)
            (λ l. l) (split_lt (length ring) (length corners));
        entries = λ c l. eqb-true _ _ (and_parts (ltb c (length ring)) _ (all c l)).1;
      }

  all_low : (h : ℤ) → passed_high (mesh_of s).coords s.ordered.order s.passed h ≡ false
      → (i : ℕ) → i < s.passed → below (mesh_of s).coords h (get_or s.ordered.order i 0) ≡ true
  unfolding passed_high
  all_low h e i l = not-false _ (some_none s.passed (λ k. not (below (mesh_of s).coords h (get_or s.ordered.order k 0))) e i l)

  module _ (h : ℤ) (l : Lengths) where
    pub rise_passed : verdict (rise_tests s h l) ≡ fine → RiseTested s h × Long (length (mesh_of s).corners) l
    rise_passed e = go (fine_none (rise_tests s h l) e)
      where
        go : None (rise_tests s h l) → RiseTested s h × Long (length (mesh_of s).corners) l
        go (more z (more u (more r (more v (more t (more p (more o (more k (more w (more a done)))))))))) = (
          record {
            placed = record {
              right = right_of s.ordered.paired (not-false _ (z 0 (omega arith))) r v t p;
              ranked = λ i q. ordered_rank (mesh_of s).coords s.ordered.order i (not-false _ (o i q)) q;
              few = ltb-false _ _ (k 0 (omega arith));
            };
            table = ring_linked (λ c q. not-false _ (w c q));
            low = all_low h (a 0 (omega arith));
          },
          room_long (length (mesh_of s).corners) l (not-false _ (u 0 (omega arith))),
        )

-- ---- Start and Step by what their answers tell

-- a Start that gave n
pub record FreshStart (m : Mesh) (ring : List ℕ) (n : ℕ) (ring' : List ℕ) : Type 0 where
  pub none_passed : n ≡ 0
  pub long : length m.corners ≤ length ring
  pub fresh : ring' ≡ fresh_ring m.corners ring

pub fresh_start : {m : Mesh} {ring ring' : List ℕ} {result : Result State Refusal} {n : ℕ} → Starts m ring result ring' → tell_start result ≡ gives n
    → FreshStart m ring n ring'
unfolding unless_refused
fresh_start {m} {ring} d e =
    let p = given_verdict d e in
    record { none_passed = p.1; long = go (fine_none (start_tests m (length ring)) p.0); fresh = left_given d e }
  where
    go : None (start_tests m (length ring)) → length m.corners ≤ length ring
    go (more z (more l done)) = ltb-false _ _ (l 0 (omega arith))

-- a Step that passed the next vertex, and gave n
pub record StepTaken (s : Sweep) (n : ℕ) (ring' : List ℕ) : Type 0 where
  pub tested : StepTested s.ordered (length s.ring) s.passed
  pub next : s.passed < vertex_count (mesh_of s).coords
  pub one_more_lem : n ≡ suc s.passed
  pub relinks : ring' ≡ step_ring s

-- a Step at the top
pub record StepTop (s : Sweep) (ring' : List ℕ) : Type 0 where
  pub tested : StepTested s.ordered (length s.ring) s.passed
  pub all_passed : vertex_count (mesh_of s).coords ≤ s.passed
  pub stays : ring' ≡ s.ring

same_count : {a b : ℕ} → passes a ≡ passes b → a ≡ b
same_count e = cc

count_top : {A : Type 0} {a : ℕ} → passes a ≡ top → A
count_top e = absurd (let z : ◌≡◌ {A = ℕ} 0 1 = cc in omega arith)

module _ {s : Sweep} {result : Result (Option State) Refusal} {ring' : List ℕ} (d : Steps s result ring') where
  pub step_taken : {n : ℕ} → tell_step result ≡ gives (passes n) → StepTaken s n ring'
  unfolding unless_refused
  step_taken {n} e = by (ltb s.passed (vertex_count (mesh_of s).coords)) refl p.1 (left_given d e)
    where
      p : (verdict (stepping s).refusals ≡ fine) × (passes n ≡ (stepping s).values)
      p = given_verdict d e

      by : (b : Bool) → ltb s.passed (vertex_count (mesh_of s).coords) ≡ b → passes n ≡ cond b (passes (suc s.passed)) top
          → ring' ≡ cond b (step_ring s) s.ring → StepTaken s n ring'
      by false x q r = count_top q
      by true x q r =
          record { tested = step_tested s.ordered (length s.ring) s.passed p.0; next = ltb-true _ _ x; one_more_lem = same_count q; relinks = r }

  pub step_top : tell_step result ≡ gives top → StepTop s ring'
  unfolding unless_refused
  step_top e = by (ltb s.passed (vertex_count (mesh_of s).coords)) refl p.1 (left_given d e)
    where
      p : (verdict (stepping s).refusals ≡ fine) × (top ≡ (stepping s).values)
      p = given_verdict d e

      by : (b : Bool) → ltb s.passed (vertex_count (mesh_of s).coords) ≡ b → top ≡ cond b (passes (suc s.passed)) top
          → ring' ≡ cond b (step_ring s) s.ring → StepTop s ring'
      by true x q r = count_top (sym q)
      by false x q r = record { tested = step_tested s.ordered (length s.ring) s.passed p.0; all_passed = ltb-false _ _ x; stays = r }

  -- a refused Step leaves the ring table
  pub unstepped_ring : {r : Told} → tell_step result ≡ refuses r → ring' ≡ s.ring
  unfolding unless_refused
  unstepped_ring e = left_refused d e

-- After an unrefused Check nothing that it tested refuses Cut, Start, Step, Layer or All layers.
use Rattle.std.specs.Prelude.{ℕ, ◌≤◌, ◌≡◌, true, not, List, [], ◌∷◌, ◌++◌, map, ◌⊎◌, length, ℤ, Result, Option}
use Rattle.std.proofs.Math.Path.{refl, subst}
use Rattle.std.proofs.Common.{sym, ap, ◌∙◌, inl, inr, ⊎_elim, arith, le-ltb}
use Rattle.laws.specs.Booleans.{clash, split_lt}
use Rattle.mesh.specs.Corners.{vertex_count}
use Rattle.mesh.specs.Meshes.{Mesh, OrderedMesh}
use Rattle.mesh.specs.Operation.{Answer, gives, refuses, Finding, fine, Condition, ◌then◌, verdict, Operation, Does}
use Rattle.mesh.specs.OperationLaws.{Nowhere, First, here, later, None, more, done, apart, same_refusal, fine_nowhere, refused_first, none_fine}
use Rattle.mesh.specs.OperationLaws.{verdict_join, join_next, given_exactly, refused_verdict}
use Rattle.mesh.specs.Refusals.{Told, refusal, numbered}
use Rattle.check_mesh.specs.Check.{CheckTables, checking, tell_check, Checks}
use Rattle.check_mesh.specs.CheckLaws.{check_promise}
use Rattle.mesh.specs.declared.Refusal.{Refusal}
use Rattle.sweep.specs.declared.Risen.{Risen}
use Rattle.sweep.specs.declared.State.{State}
use Rattle.cleaning.specs.declared.Profile.{Profile}
use Rattle.file_formats.specs.LayerFile.{most_layers}
use Rattle.cut.specs.Cut.{CutTables, lengths_of, cut_room_for, used}
use Rattle.sweep.specs.Sweep.{sweep, RingAt}
use Rattle.sweep.specs.Operations.{step_tests, tell_step, Steps, risen_section, rise_tests, tell_layer, Rises}
use Rattle.sweep.proofs.AnswerLaws.{rise_passed}
use Rattle.all_heights.specs.Heights.{heights_taken, too_many_heights, falling_height}
use Rattle.all_heights.specs.HeightLaws.{RisingHeights, rising_nowhere}
use Rattle.all_sweep.specs.AllLayers.{cut_file, swept_file, climbed, WorkTables, work_room_for, layers_tests, used_at, short_output, filing}
use Rattle.all_sweep.specs.ClimbLaws.{swept_is_cut, used_never}
use Rattle.all_sweep.specs.LayersLaws.{file_tested}
use Rattle.demand_three.specs.FileClaim.{right_tests}
use Rattle.demand_three.specs.ClaimLaws.{start_keeps, run_keeps}
use Rattle.demand_three.specs.RunLaws.{mesh_tested, start_tests_lem, step_fine, rise_fine, never_used}
use Rattle.demand_three.proofs.FileLaws.{cut_given_room, linked_none, work_parts}
use Rattle.composed.specs.Composed.{RefusedOnly, with_left, Composed, AfterCheck}
use Rattle.composed.specs.PairLaws.{another_corner}

-- ---- lists of refusals of which some fit nowhere

-- each condition fits nowhere, or tells only what P holds of
abbrev pub Either : (Told → Type 0) → List (Condition Told) → Type 0
Either P [] = Unit {0}
Either P (k ∷ ks) = (Nowhere k ⊎ ((i : ℕ) → P (k.tells i))) × Either P ks

module _ (P : Told → Type 0) where
  first_either : {ks : List (Condition Told)} {r : Told} → First ks r → Either P ks → P r
  first_either (here i l e f) ps = ⊎_elim (λ n. absurd (clash e (n i l))) (λ p. p i) ps.0
  first_either (later n f) ps = first_either f ps.1

  -- the answered refusal is one of the others
  pub refused_either : (ks : List (Condition Told)) {r : Told} → Either P ks → verdict ks ≡ refuses r → P r
  refused_either ks {r} ps e = first_either (refused_first ks r e) ps

  -- the same where the rest of the list is known once its beginning has passed
  pub join_either : (ks ls : List (Condition Told)) {r : Told} → Either P ks → (verdict ks ≡ fine → verdict ls ≡ refuses r → P r)
      → verdict (ks ++ ls) ≡ refuses r → P r
  unfolding ◌then◌
  join_either ks ls {r} ps rest e = by (verdict ks) refl (sym (verdict_join ks ls) ∙ e)
    where
      by : (v : Finding Told) → verdict ks ≡ v → (v then verdict ls) ≡ refuses r → P r
      by (gives tt) p q = rest p q
      by (refuses s) p q = subst P (same_refusal q) (refused_either ks ps p)

-- an answer whose refusals all have one of these numbers
pub only_of : {G : Type 0} (ns : List ℕ) (a : Answer Told G) → ((r : Told) → a ≡ refuses r → numbered ns r ≡ true) → RefusedOnly ns a
only_of ns (gives g) f = tt
only_of ns (refuses r) f = f r refl

module _ {I E G T : Type 0} {op : I → Operation Told G T} {tell : E → Answer Told G} {input : I} {result : E} {tables : T}
    (d : Does op tell input result tables) where
  -- an operation whose verdict is none but these
  pub only_verdict : (ns : List ℕ) → ((r : Told) → verdict (op input).refusals ≡ refuses r → numbered ns r ≡ true) → RefusedOnly ns (tell result)
  only_verdict ns f = only_of ns (tell result) (λ r e. f r (refused_verdict d e))

  -- an operation that nothing refuses
  pub only_given : verdict (op input).refusals ≡ fine → RefusedOnly [] (tell result)
  only_given v = only_verdict [] (λ r e. apart (sym e ∙ v))

-- ---- operations on a right mesh

module _ (m : OrderedMesh) (right : None (right_tests m)) where
  abbrev coords : List ℤ
  coords = m.paired.mesh.coords

  abbrev corners : List ℕ
  corners = m.paired.mesh.corners

  -- Step: 10 or 11
  step_left : {ring : List ℕ} {n : ℕ} {result : Result (Option State) Refusal} {ring' : List ℕ} → Steps (sweep m ring n) result ring'
      → RefusedOnly (10 ∷ 11 ∷ []) (tell_step result)
  step_left {ring} {n} d =
      only_verdict d (10 ∷ 11 ∷ []) (λ r. refused_either (λ r. numbered (10 ∷ 11 ∷ []) r ≡ true) (step_tests m (length ring) n) (go right))
    where
      go : None (right_tests m) → Either (λ r. numbered (10 ∷ 11 ∷ []) r ≡ true) (step_tests m (length ring) n)
      go (more s (more r (more v (more x (more p (more o done)))))) =
          (inl s, (inl r, (inl v, (inl x, (inl p, (inl o, (inr (λ i. refl), (inr (λ i. refl), tt))))))))

  -- Layer with room: 10, 11 or 12. Where these pass, so does 16
  rise_left : {ring : List ℕ} {n : ℕ} {h : ℤ} {u u' : CutTables} {result : Result Risen Refusal} {ring' : List ℕ} → Rises (sweep m ring n) h u result ring' u'
      → cut_room_for (length m.paired.mesh.corners) (lengths_of u) ≡ true → RefusedOnly (10 ∷ 11 ∷ 12 ∷ []) (tell_layer result)
  rise_left {ring} {n} {h} {u} d room =
      let s = sweep m ring n in
      only_verdict d (10 ∷ 11 ∷ 12 ∷ []) (λ r. join_either (λ r. numbered (10 ∷ 11 ∷ 12 ∷ []) r ≡ true)
      (rise_tests s h (lengths_of u)) (used (length corners) (risen_section s h) ∷ []) (go right)
      (λ v q. apart (sym q ∙ none_fine _ (more (never_used m right ring n h (rise_passed s h (lengths_of u) v).0) done))))
    where
      go : None (right_tests m) → Either (λ r. numbered (10 ∷ 11 ∷ 12 ∷ []) r ≡ true) (rise_tests (sweep m ring n) h (lengths_of u))
      go (more s (more r (more v (more x (more p (more o done)))))) =
          (inl s, (inl (λ i l. ap not room), (inl r, (inl v, (inl x, (inl p, (inl o, (inr (λ i. refl), (inr (λ i. refl), (inr (λ i. refl), tt))))))))))

  -- All layers with room: 1 for the heights, 12 or 14, of which some may fit nowhere
  module _ (profile : Profile) (heights : List ℤ) (w : WorkTables) (output : List ℕ)
      (room : work_room_for (length m.paired.mesh.corners) (lengths_of w.cut) (length w.ring) ≡ true) where
    abbrev hs : List ℤ
    hs = heights_taken coords heights

    abbrev file : List ℕ
    file = swept_file profile m w.ring (heights_taken m.paired.mesh.coords heights)

    filed_left : (P : Told → Type 0) → Nowhere (too_many_heights coords heights) ⊎ ((i : ℕ) → P (refusal 1 i))
        → Nowhere (falling_height hs) ⊎ ((i : ℕ) → P (refusal 12 i)) → Nowhere (short_output (length output) file) ⊎ ((i : ℕ) → P (refusal 14 i))
        → (r : Told) → verdict (filing (profile, m, heights, w, output)).refusals ≡ refuses r → P r
    filed_left P many falls short r =
        join_either P (layers_tests m heights (lengths_of w.cut) (length w.ring))
        (map used_at (climbed m w.ring hs) ++ (short_output (length output) file ∷ [])) (go right)
        (λ v q. refused_either P (short_output (length output) file ∷ []) (short, tt) (unused v ∙ q))
      where
        go : None (right_tests m) → Either P (layers_tests m heights (lengths_of w.cut) (length w.ring))
        go (more s (more r (more v (more x (more p (more o done)))))) =
            (inl s, (many, (inl (λ i l. ap not room), (inl r, (inl v, (inl x, (inl p, (inl o, (falls, tt)))))))))

        unused : verdict (layers_tests m heights (lengths_of w.cut) (length w.ring)) ≡ fine
            → verdict (short_output (length output) file ∷ []) ≡ verdict (map used_at (climbed m w.ring hs) ++ (short_output (length output) file ∷ []))
        unused v =
            let t = file_tested m heights w v in
            let placed = mesh_tested m right in
            join_next (map used_at (climbed m w.ring hs)) (short_output (length output) file ∷ [])
            (sym (used_never m w.ring placed.0 placed.1 t.ring_long hs t.rises)) refl refl

    few_nowhere : length hs ≤ most_layers → Nowhere (too_many_heights coords heights)
    few_nowhere few i l = le-ltb most_layers (length hs) few

    short_nowhere : RisingHeights hs → length (cut_file profile m.paired hs) ≤ length output → Nowhere (short_output (length output) file)
    short_nowhere above long i l =
        let placed = mesh_tested m right in
        let ring = (work_parts (length corners) (lengths_of w.cut) (length w.ring) room).1 in
        let same = swept_is_cut m w.ring placed.0 placed.1 ring profile hs above in
        le-ltb (length output) (length file) (omega (arith, ap length same))

-- ---- after Check

module _ {m : Mesh} {t t' : CheckTables} {checked : Result Unit Refusal} (c : Checks m t checked t') (e : tell_check checked ≡ gives tt) where
  -- the tests that Check and its tables pass
  pub checked_right : None (right_tests (with_left m t'))
  checked_right = go ((given_exactly c).0 e)
    where
      go : None (checking (m, t)).refusals → None (right_tests (with_left m t'))
      go (more s (more r (more x (more y (more z rest))))) =
          let p = check_promise c e in
          more s (more x (more y (more z (more (fine_nowhere _ (sym p.pairing_fine)) (more (fine_nowhere _ (sym p.order_fine)) done)))))

  pub composed : Composed m t'
  composed =
      let o = with_left m t' in
      let right = checked_right in
      record {
        pairs = another_corner m.corners t'.pairing (mesh_tested o right).0.linked;
        cut = λ h u u' result room d. only_given d (none_fine _ (cut_given_room o.paired (linked_none o right) h u room));
        start = λ ring ring' result long d. only_given d (start_tests_lem o right ring long);
        step = λ ring n result ring' d.
            record { only = step_left o right d; given = λ few long. only_given d (step_fine o right (length ring) n few long) };
        rise = λ ring n h u u' result ring' room d.
            record { only = rise_left o right d room; given = λ few table low. only_given d (rise_fine o right ring n h u room few table low) };
        onward = λ ring result u ring₀ d q calls n ring' run.
            let k = run_keeps o 0 run (start_keeps o d q) in (
              subst (λ (i : ℕ). i ≤ vertex_count m.coords) (sym k.position) k.few,
              subst (λ (i : ℕ). RingAt (sweep o ring' i)) (sym k.position) k.table,
            );
        filed = λ profile heights w w' output output' result room d.
            let left = filed_left o right profile heights w output room in
            let few-none = few_nowhere o right profile heights w output room in
            let hs = heights_taken m.coords heights in
            record {
              only = only_verdict d (1 ∷ 12 ∷ 14 ∷ [])
                  (left (λ r. numbered (1 ∷ 12 ∷ 14 ∷ []) r ≡ true) (inr (λ i. refl)) (inr (λ i. refl)) (inr (λ i. refl)));
              too_many_lem = λ place q. ⊎_elim (λ l. l)
                  (λ few. absurd (left (λ r. r.number ≡ 1 → ⊥) (inl (few-none few)) (inr (λ i x. omega arith)) (inr (λ i x. omega arith)) _
                  (refused_verdict d q) refl)) (split_lt most_layers (length hs));
              short = λ few above. only_verdict d (14 ∷ [])
                  (left (λ r. numbered (14 ∷ []) r ≡ true) (inl (few-none few)) (inl (rising_nowhere hs above)) (inr (λ i. refl)));
              given = λ few above long. only_verdict d []
                  (left (λ r. numbered [] r ≡ true) (inl (few-none few)) (inl (rising_nowhere hs above))
                  (inl (short_nowhere o right profile heights w output room above long)));
            };
      }

pub after_check : AfterCheck
after_check m t t' checked c e = composed c e

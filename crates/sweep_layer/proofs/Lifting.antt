-- Layer: what its tests establish, and what each return leaves, by the verdict of its tests.
use Prim.Native.Nat.{ℕ}
use Rattle.std.specs.Prelude.{Result, Ok, Err}
use mathlib.Core.Path.{◌≡◌, refl, sym, ap, ◌∙◌, subst}
use mathlib.Core.Bool.{Bool, false}
use mathlib.Core.List.{List, [], ◌∷◌}
use native.Mathlib.Omega.{arith}
use borrow.Author.Tests.{ltb-false, not-false}
use lib.ListN.{length, get_or}
use lib.IntN.{ℤ}
use mir.Syntax.{w32}
use mir.Val.{SFits, to_z, of_z}
use mir.ValLaws.{to_z-of_z}
use Rattle.laws.specs.Tables.{refill}
use Rattle.laws.specs.TableLaws.{refill_same, refill_at}
use Rattle.mesh.specs.Corners.{vertex_count}
use Rattle.mesh.specs.Meshes.{PairedMesh, OrderedMesh}
use Rattle.mesh.specs.Operation.{Condition, Finding, gives, refuses, fine, verdict}
use Rattle.mesh.specs.OperationLaws.{None, more, done, fine_none, join_stop, join_next, refused_every, does_refuse, does_give, does_last}
use Rattle.mesh.specs.OperationLaws.{apart, given_verdict, left_given, refused_verdict}
use Rattle.mesh.specs.OrderTableLaws.{ordered_rank}
use Rattle.mesh.specs.Refusals.{Told, numbered, told_of}
use Rattle.mesh.specs.declared.Refusal.{Refusal}
use Rattle.section.specs.Section.{under, ring_entry, Right}
use Rattle.section.proofs.SectionLaws.{below_under}
use Rattle.section.specs.RightLaws.{right_of}
use Rattle.section.specs.Contours.{Traced}
use Rattle.section.specs.Links.{trace_links}
use Rattle.polygons.specs.declared.LayerCounts.{LayerCounts}
use Rattle.cut.specs.Cut.{CutTables, lent, Lengths, lengths_of, cut_tests, used, section, contours_of, counts_of, tables_after_cut, tell_cut}
use Rattle.cut.specs.Outlines.{Long, Outlined, Traces}
use Rattle.cut.specs.OutlineLaws.{outlined, section_is, sliced, section_fine, layer_kept}
use Rattle.sweep.specs.declared.Risen.{Risen}
use Rattle.sweep.specs.Sweep.{Sweep, mesh_of, sweep_pairing}
use Rattle.sweep.specs.SweepLaws.{count_few, risen_is}
use Rattle.sweep.specs.Operations.{at, unless_refused, state_tests, risen_passed, risen_table, risen_section, rise_tests, tell_layer, Rises}
use Rattle.sweep.specs.Places.{Placed, RiseTested, Lifts}
use Rattle.sweep.proofs.AnswerLaws.{rise_passed}
use Rattle.sweep.proofs.RiseLaws.{rise_from}

-- what 8 and 10 establish on a right mesh
pub placed_of : (m : OrderedMesh) (n : ℕ) → Right m.paired → {f : Finding Told} → f ≡ verdict (state_tests m.paired.mesh.coords m.order n) → f ≡ fine
    → Placed m n
placed_of m n right e g = go (fine_none (state_tests m.paired.mesh.coords m.order n) (sym e ∙ g))
  where
    go : None (state_tests m.paired.mesh.coords m.order n) → Placed m n
    go (more o (more k done)) =
        record {
          right = right;
          ranked = λ i h. ordered_rank m.paired.mesh.coords m.order i (not-false _ (o i h)) h;
          few = ltb-false _ _ (k 0 (omega arith));
        }

-- what Cut's tests establish
pub right_tested : (m : PairedMesh) (l : Lengths) {f : Finding Told} → f ≡ verdict (cut_tests m l) → f ≡ fine → Right m
right_tested m l e g = go (fine_none (cut_tests m l) (sym e ∙ g))
  where
    go : None (cut_tests m l) → Right m
    go (more s (more k (more r (more x (more t (more p done)))))) = right_of m (not-false _ (s 0 (omega arith))) r x t p

-- ---- layer

module _ (s : Sweep) (h : ℤ) (t : CutTables) {f : Finding Told} (e : f ≡ verdict (rise_tests s h (lengths_of t))) where
  abbrev last : List (Condition Told)
  last = used (length (mesh_of s).corners) (risen_section s h) ∷ []

  pub liftable : f ≡ fine → RiseTested s h × Long (length (mesh_of s).corners) (lengths_of t)
  liftable g = rise_passed s h (lengths_of t) (sym e ∙ g)

  -- a test refuses
  pub rises_refused : {r : Refusal} {result : Result Risen Refusal} → f ≡ refuses (told_of r) → result ≡ Err r → Rises s h t result s.ring t
  unfolding unless_refused
  rises_refused {r} g a =
      does_refuse (join_stop (rise_tests s h (lengths_of t)) last e g) g (ap tell_layer a)
      (λ i. (s.ring, layer_kept (mesh_of s) h (contours_of (risen_section s h)) t (told_of r) other i))
    where
      other : numbered (16 ∷ []) (told_of r) ≡ false
      other =
          refused_every (λ q. numbered (16 ∷ []) q ≡ false) (rise_tests s h (lengths_of t)) (told_of r) (
            (λ i. refl),
            (
              (λ i. refl),
              ((λ i. refl), ((λ i. refl), ((λ i. refl), ((λ i. refl), ((λ i. refl), ((λ i. refl), ((λ i. refl), ((λ i. refl), tt)))))))),
            ),
          )
          (sym e ∙ g)

  -- none does
  pub rises_lifted : {result : Result Risen Refusal} {ring' : List ℕ} {t' : CutTables} → f ≡ fine → Lifts s h t result ring' t' → Rises s h t result ring' t'
  rises_lifted g d = does_last d (join_next (rise_tests s h (lengths_of t)) last e g refl) refl refl

-- ---- raise

module _ (s : Sweep) (h : ℤ) (r : RiseTested s h) where
  abbrev right : Right s.ordered.paired
  right = r.placed.right

  abbrev entry : ℕ → ℕ
  entry = ring_entry (under (mesh_of s).coords h 0) (mesh_of s).corners (sweep_pairing s)

  -- the ring table in one pass, and its copy in the marks
  module _ (marks : List ℕ) {ring₁ marks₁ : List ℕ}
      (er : ring₁ ≡ refill (length (mesh_of s).corners) (ring_entry (under (mesh_of s).coords h 0) (mesh_of s).corners (sweep_pairing s)) s.ring)
      (em : marks₁ ≡ refill (length (mesh_of s).corners) (λ c. get_or ring₁ c 0) marks) where
    copied : marks₁ ≡ refill (length (mesh_of s).corners) entry marks
    copied =
        em ∙ refill_same (length (mesh_of s).corners) (λ c. get_or ring₁ c 0) entry marks
        (λ c k. ap (λ (t : List ℕ). get_or t c 0) er ∙ refill_at (length (mesh_of s).corners) entry s.ring c 0 k)

    pub raise_outlined : Outlined (mesh_of s) h marks₁
    raise_outlined = outlined s.ordered.paired h right marks₁ marks copied

    risen : ring₁ ≡ risen_table s h
    risen =
        let coords = (mesh_of s).coords in
        let corners = (mesh_of s).corners in
        let ranked = r.placed.ranked in
        er ∙ ap (λ (p : ℕ → Bool). refill (length corners) (ring_entry p corners (sweep_pairing s)) s.ring) (sym (below_under coords h))
        ∙ sym (risen_is s.ordered ranked h right.linked right.named (vertex_count coords) s.passed s.ring r.table
        (rise_from s h r) (omega (arith, count_few coords s.ordered.order ranked h)))

    traced : section s.ordered.paired h ≡ risen_section s h
    traced = sym (section_is s.ordered.paired h right ring₁ s.ring er) ∙ ap (trace_links (length (mesh_of s).corners)) risen

    module _ {names : List ℕ} {points : List ℤ} {ends : List ℕ} {result : Result LayerCounts Refusal} {t' : CutTables}
        (d : Traces (trace_links (length (mesh_of s).corners) marks₁) (mesh_of s) h (lent names points ends marks₁) result t') where
      cut : Traces (section s.ordered.paired h) (mesh_of s) h (lent names points ends marks) result t'
      cut = sliced s.ordered.paired h right marks₁ marks copied d

      pub never_refused : {q : Refusal} → result ≡ Err q → ⊥
      never_refused {q} x = apart (sym (refused_verdict cut {r = told_of q} (ap tell_cut x)) ∙ section_fine s.ordered.paired h right)

      pub lifts : {p : ℕ} {v : LayerCounts} → result ≡ Ok v → p ≡ risen_passed s h
          → Lifts s h (lent names points ends marks) (Ok (record { state = at p; counts = v })) ring₁ t'
      unfolding unless_refused
      lifts {p} {v} x ep =
          let c = given_verdict cut {g = (v.contours, v.points)} (ap tell_cut x) in
          does_give refl
          (ap (λ (u : Traced). verdict (used (length (mesh_of s).corners) u ∷ [])) (sym traced) ∙ c.0)
          ((λ i. gives (ep i, c.1 i)) ∙ (λ i. gives (risen_passed s h, counts_of (contours_of (traced i)))))
          ((λ i. (risen i, left_given cut {g = (v.contours, v.points)} (ap tell_cut x) i))
          ∙ (λ i. (risen_table s h, tables_after_cut (mesh_of s) h (contours_of (traced i)) (lent names points ends marks) fine)))

-- ---- the height as the code holds it

module _ (s : Sweep) {h : ℤ} (f : SFits w32 h) where
  pub held_tested : RiseTested s h → RiseTested s (to_z w32 (of_z w32 h))
  held_tested = subst (RiseTested s) (sym (to_z-of_z w32 h f))

  pub at_height : {t t' : CutTables} {result : Result Risen Refusal} {ring' : List ℕ}
      → Lifts s (to_z w32 (of_z w32 h)) t result ring' t' → Lifts s h t result ring' t'
  at_height {t} {t'} {result} {ring'} = subst (λ (z : ℤ). Lifts s z t result ring' t') (to_z-of_z w32 h f)

  pub held_tests : (l : Lengths) {v : Finding Told} → v ≡ verdict (rise_tests s (to_z w32 (of_z w32 h)) l) → v ≡ verdict (rise_tests s h l)
  held_tests l e = e ∙ ap (λ (z : ℤ). verdict (rise_tests s z l)) (to_z-of_z w32 h f)

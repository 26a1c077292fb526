-- Start and Step: what each return leaves, by the verdict of its tests.
use Rattle.std.specs.Prelude.{Option, Some, None as Absent, Result, Ok, Err}
use Prim.Native.Nat.{ℕ, suc, ◌+◌, ◌≤◌, ◌<◌}
use mathlib.Core.Path.{◌≡◌, refl, sym, ap, ◌∙◌}
use mathlib.Core.Bool.{true, false, cond}
use mathlib.Core.List.{List}
use native.Mathlib.Omega.{arith}
use native.Mathlib.Numerals.{add-one}
use borrow.Author.Tests.{lt-ltb, le-ltb, ltb-false}
use lib.Dec.{ltb}
use lib.ListN.{length, get_or, replicate}
use lib.IntN.{ℤ}
use Rattle.laws.specs.Tables.{overwrite, refill}
use Rattle.laws.specs.TableLaws.{refill_same, tabulate_const}
use Rattle.mesh.specs.Corners.{vertex_count, triangle_of, z_of}
use Rattle.mesh.specs.Meshes.{Mesh}
use Rattle.mesh.specs.Operation.{Finding, gives, refuses, fine, verdict}
use Rattle.mesh.specs.OperationLaws.{None, more, done, fine_none, does_refuse, does_give}
use Rattle.mesh.specs.Order.{Ranked}
use Rattle.mesh.specs.Refusals.{Told, told_of}
use Rattle.mesh.specs.Tests.{pair_of}
use Rattle.mesh.specs.declared.Refusal.{Refusal}
use Rattle.section.specs.Section.{under, no_corner}
use Rattle.sweep.specs.declared.State.{State}
use Rattle.sweep.specs.Sweep.{Sweep, mesh_of, sweep_pairing, passed_at, fresh_ring, touches, relinked, step_ring}
use Rattle.sweep.specs.SweepLaws.{entry_same, passed_under}
use Rattle.sweep.specs.Operations.{at, unless_refused, start_tests, tell_start, Starts, step_tests, passes, top, tell_step, Steps}
use Rattle.sweep.specs.Places.{StepTested}
use Rattle.sweep.proofs.AnswerLaws.{step_tested}

-- ---- Start

module _ (m : Mesh) (ring : List ℕ) {f : Finding Told} (e : f ≡ verdict (start_tests m (length ring))) where
  pub starts_refused : {r : Refusal} {result : Result State Refusal} → f ≡ refuses (told_of r) → result ≡ Err r → Starts m ring result ring
  unfolding unless_refused
  starts_refused g a = does_refuse e g (ap tell_start a) refl

  pub start_long : f ≡ fine → length m.corners ≤ length ring
  start_long g = go (fine_none (start_tests m (length ring)) (sym e ∙ g))
    where
      go : None (start_tests m (length ring)) → length m.corners ≤ length ring
      go (more z (more l done)) = ltb-false _ _ (l 0 (omega arith))

  pub starts_fresh : {ring' : List ℕ} → f ≡ fine → ring' ≡ overwrite (replicate (length m.corners) no_corner) ring → Starts m ring (Ok (at 0)) ring'
  unfolding unless_refused fresh_ring
  starts_fresh g q = does_give e g refl (q ∙ ap (λ (l : List ℕ). overwrite l ring) (sym (tabulate_const (length m.corners) no_corner)))

-- ---- Step

module _ (s : Sweep) {f : Finding Told} (e : f ≡ verdict (step_tests s.ordered (length s.ring) s.passed)) where
  pub steps_refused : {r : Refusal} {result : Result (Option State) Refusal} → f ≡ refuses (told_of r) → result ≡ Err r → Steps s result s.ring
  unfolding unless_refused
  steps_refused g a = does_refuse e g (ap tell_step a) refl

  module _ (g : f ≡ fine) where
    pub step_passed : StepTested s.ordered (length s.ring) s.passed
    step_passed = step_tested s.ordered (length s.ring) s.passed (sym e ∙ g)

    pub steps_top : s.passed ≡ vertex_count (mesh_of s).coords → Steps s (Ok Absent) s.ring
    unfolding unless_refused
    steps_top q =
        let b : false ≡ ltb s.passed (vertex_count (mesh_of s).coords) = sym (le-ltb s.passed (vertex_count (mesh_of s).coords) (omega arith)) in
        does_give e g (λ i. gives (cond (b i) (passes (suc s.passed)) top)) (λ i. cond (b i) (step_ring s) s.ring)

    module _ (ne : s.passed ≡ vertex_count (mesh_of s).coords → ⊥) where
      pub next_there : s.passed < vertex_count (mesh_of s).coords
      next_there = omega (arith, step_passed.placed.few, ne)

      pub next_ranked : Ranked (mesh_of s).coords s.ordered.order s.passed
      next_ranked = step_passed.placed.ranked s.passed next_there

      abbrev w : ℕ
      w = get_or s.ordered.order s.passed 0

      -- the entries for the vertices before the place behind the next one are those for one more of the order
      relinked_is : {z : ℤ} {k v : ℕ} → v ≡ get_or s.ordered.order s.passed 0 → z ≡ z_of (mesh_of s).coords v → k ≡ v + 1
          → refill (length (mesh_of s).corners) (relinked (under (mesh_of s).coords z k) (mesh_of s).corners (sweep_pairing s) v s.ring) s.ring
          ≡ step_ring s
      unfolding step_ring relinked
      relinked_is {z} {k} {v} ev ez ek =
          let coords = (mesh_of s).coords in
          let corners = (mesh_of s).corners in
          let pairing = sweep_pairing s in
          let order = s.ordered.order in
          let right = step_passed.placed.right in
          let next = passed_at order (suc s.passed) in
          ap (λ (x : ℕ). refill (length corners) (relinked (under coords z k) corners pairing x s.ring) s.ring) ev
          ∙ refill_same (length corners) (relinked (under coords z k) corners pairing w s.ring) (relinked next corners pairing w s.ring) s.ring
          (λ c l. ap (λ (x : ℕ). cond (touches corners (triangle_of (pair_of pairing c)) w) x (get_or s.ring c 0))
          (entry_same (under coords z k) next coords corners pairing right.named right.linked
          (λ u m. (λ i. under coords ((ez ∙ ap (z_of coords) ev) i) ((ek ∙ ap (λ (x : ℕ). x + 1) ev) i) u)
          ∙ sym (passed_under coords order step_passed.placed.ranked s.passed u next_there m)) c l))

      pub steps_taken : {z : ℤ} {k v : ℕ} {ring' : List ℕ} → v ≡ get_or s.ordered.order s.passed 0 → z ≡ z_of (mesh_of s).coords v → k ≡ v + 1
          → ring' ≡ refill (length (mesh_of s).corners) (relinked (under (mesh_of s).coords z k) (mesh_of s).corners (sweep_pairing s) v s.ring) s.ring
          → Steps s (Ok (Some (at (s.passed + 1)))) ring'
      unfolding unless_refused
      steps_taken ev ez ek q =
          let b : true ≡ ltb s.passed (vertex_count (mesh_of s).coords) = sym (lt-ltb _ _ next_there) in
          does_give e g
          (ap (λ (n : ℕ). gives (passes n)) (add-one s.passed) ∙ (λ i. gives (cond (b i) (passes (suc s.passed)) top)))
          (q ∙ relinked_is ev ez ek ∙ (λ i. cond (b i) (step_ring s) s.ring))

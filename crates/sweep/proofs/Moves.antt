-- What the branches and loops of the sweep's parts say, in the definitions' terms.
use Prim.Native.Nat.{ℕ, zero, suc, ◌+◌, ◌-◌, ◌*◌, ◌/◌, ◌^◌, ◌≤◌, ◌<◌, min}
use mathlib.Core.Path.{◌≡◌, refl, sym, ap, ◌∙◌}
use mathlib.Core.Bool.{Bool, true, false, not, cond, ◌&&◌, ◌||◌}
use mathlib.Core.List.{List}
use mathlib.Core.Logic.{⊎_elim}
use native.Mathlib.Omega.{arith}
use borrow.Author.Tests.{lt-ltb, le-ltb, eq-eqb, ne_eqb, not-true}
use lib.Dec.{ltb, eqb}
use lib.ListN.{length, get_or, set}
use lib.IntN.{ℤ, negsuc, nat_abs}
use lib.Signed.{lt_z, mag}
use mir.Syntax.{w32}
use mir.Val.{SFits, to_z, of_z}
use mir.ValLaws.{to_z-of_z}
use Rattle.laws.specs.Booleans.{clash, is_false, split_lt}
use Rattle.laws.specs.Integers.{abs_is}
use Rattle.laws.specs.Least.{least}
use Rattle.laws.specs.LeastLaws.{Scanned, scan_hit, scan_end, least_same, some_of, some_at}
use Rattle.laws.specs.Machine.{same}
use Rattle.laws.specs.Tables.{refill}
use Rattle.laws.specs.TableLaws.{refill_more, refill_kept}
use Rattle.mesh.specs.Corners.{largest, vertex_count, triangle_of, start_of, z_of}
use Rattle.mesh.specs.Meshes.{OrderedMesh}
use Rattle.mesh.specs.Operation.{refuses, fine, test}
use Rattle.mesh.specs.OperationLaws.{test_refused, test_fine, whole_refused, whole_fine}
use Rattle.mesh.specs.Refusals.{refusal}
use Rattle.mesh.specs.Tests.{pair_of}
use Rattle.mesh.specs.RankLaws.{lower_sum}
use Rattle.section.specs.Section.{VertexSet, below, under, ring_entry}
use Rattle.section.specs.Contours.{member}
use Rattle.sweep.specs.Sweep.{Sweep, mesh_of, sweep_pairing, passed_at, touches, relinked}
use Rattle.sweep.specs.Operations.{linked_at, wrong_ring, passed_high, not_above}
use Rattle.sweep.specs.Places.{height_behind, number_behind, wrong_for, InOrder, Placed}
use Rattle.sweep.specs.SweepLaws.{entry_same, passed_under, earlier_below}

-- a signed argument as the code holds it
abbrev pub held : ℤ → ℤ
held z = to_z w32 (of_z w32 z)

pub back : {h : ℤ} → SFits w32 h → held h ≡ h
back {h} f = to_z-of_z w32 h f

-- a comparison of a call's result with an argument
pub got_lt : (z h : ℤ) {b : Bool} → mag z < 2 ^ 31 → SFits w32 h → lt_z (held z) (held h) ≡ b → lt_z z h ≡ b
got_lt z h fz fh e = (λ i. lt_z (sym (same w32 z fz) i) (sym (back fh) i)) ∙ e

-- ---- touched

module _ (corners : List ℕ) (t v : ℕ) where
  pub touches_1 : start_of corners (3 * t) ≡ v → true ≡ touches corners t v
  unfolding touches
  touches_1 p = simp (eq-eqb (start_of corners (3 * t)) v p)

  pub touches_2 : (start_of corners (3 * t) ≡ v → ⊥) → start_of corners (3 * t + 1) ≡ v → true ≡ touches corners t v
  unfolding touches
  touches_2 p q = simp (ne_eqb (start_of corners (3 * t)) v p, eq-eqb (start_of corners (3 * t + 1)) v q)

  pub touches_3 : (start_of corners (3 * t) ≡ v → ⊥) → (start_of corners (3 * t + 1) ≡ v → ⊥) → (x : ℕ) → x ≡ start_of corners (3 * t + 2)
      → eqb x v ≡ touches corners t v
  unfolding touches
  touches_3 p q x e = ap (λ (y : ℕ). eqb y v) e ∙ simp (ne_eqb (start_of corners (3 * t)) v p, ne_eqb (start_of corners (3 * t + 1)) v q)

-- ---- relink

module _ (passed : VertexSet) (corners pairing : List ℕ) (w : ℕ) (ring₀ ring : List ℕ) (c d : ℕ) (b : Bool)
    (so_far : ring ≡ refill c (relinked passed corners pairing w ring₀) ring₀) (room : c < length ring₀)
    (ed : d ≡ pair_of pairing c) (eb : b ≡ touches corners (d / 3) w) where
  flag : touches corners (triangle_of (pair_of pairing c)) w ≡ b
  flag = ap (λ (k : ℕ). touches corners (k / 3) w) (sym ed) ∙ sym eb

  pub relink_write : b ≡ true → (e : ℕ) → e ≡ ring_entry passed corners pairing c
      → set ring c e ≡ refill (c + 1) (relinked passed corners pairing w ring₀) ring₀
  relink_write t e ee =
      let x : relinked passed corners pairing w ring₀ c ≡ e = unfold relinked
      in (ap (λ (y : Bool). cond y (ring_entry passed corners pairing c) (get_or ring₀ c 0)) (flag ∙ t) ∙ sym ee) in
      (λ i. set (so_far i) c (sym x i)) ∙ refill_more c (relinked passed corners pairing w ring₀) ring₀ room

  pub relink_skip : b ≡ false → ring ≡ refill (c + 1) (relinked passed corners pairing w ring₀) ring₀
  relink_skip f =
      let x : relinked passed corners pairing w ring₀ c ≡ get_or ring₀ c 0 = unfold relinked
      in (ap (λ (y : Bool). cond y (ring_entry passed corners pairing c) (get_or ring₀ c 0)) (flag ∙ f)) in
      so_far ∙ refill_kept 0 c (relinked passed corners pairing w ring₀) ring₀ room x

-- ---- the place behind the first n

pub behind_none : (coords : List ℤ) (order : List ℕ) (n : ℕ) → n ≡ 0 → negsuc 1048575 ≡ height_behind coords order n
unfolding height_behind
behind_none coords order zero e = refl
behind_none coords order (suc n) e = absurd (omega arith)

pub behind_last : (coords : List ℤ) (order : List ℕ) (n w : ℕ) → (n ≡ 0 → ⊥) → w ≡ get_or order (n - 1) 0 → z_of coords w ≡ height_behind coords order n
unfolding height_behind
behind_last coords order zero w ne e = absurd (ne refl)
behind_last coords order (suc n) w ne e = let q : suc n - 1 ≡ n = omega arith in ap (z_of coords) (e ∙ ap (λ (i : ℕ). get_or order i 0) q)

pub number_none : (order : List ℕ) (n : ℕ) → n ≡ 0 → 0 ≡ number_behind order n
unfolding number_behind
number_none order zero e = refl
number_none order (suc n) e = absurd (omega arith)

pub number_last : (order : List ℕ) (n w : ℕ) → (n ≡ 0 → ⊥) → w ≡ get_or order (n - 1) 0 → w + 1 ≡ number_behind order n
unfolding number_behind
number_last order zero w ne e = absurd (ne refl)
number_last order (suc n) w ne e = let q : suc n - 1 ≡ n = omega arith in ap (λ (x : ℕ). x + 1) (e ∙ ap (λ (i : ℕ). get_or order i 0) q)

none_passed : (order : List ℕ) (v : ℕ) → passed_at order 0 v ≡ false
unfolding passed_at member
none_passed order v = refl

none_under : (coords : List ℤ) (v : ℕ) → nat_abs (z_of coords v) ≤ largest → under coords (negsuc 1048575) 0 v ≡ false
unfolding under
none_under coords v h =
    by (lt_z (z_of coords v) (negsuc 1048575)) (lt_z (negsuc 1048575) (z_of coords v)) (ltb v 0)
    (is_false _ (λ q. omega (arith, lower_sum (z_of coords v) (negsuc 1048575) q, abs_is (z_of coords v)))) (le-ltb v 0 (omega arith))
  where
    by : (a b c : Bool) → a ≡ false → c ≡ false → (a || (not b && c)) ≡ false
    by a true c p q = simp p
    by a false c p q = simp (p, q)

-- the vertices before it are the first n
pub passed_behind : (m : OrderedMesh) (n v : ℕ) → Placed m n → v < vertex_count m.paired.mesh.coords
    → under m.paired.mesh.coords (height_behind m.paired.mesh.coords m.order n) (number_behind m.order n) v ≡ passed_at m.order n v
unfolding height_behind number_behind
passed_behind m zero v p l = none_under m.paired.mesh.coords v (p.right.inside (3 * v + 2) (omega arith)) ∙ sym (none_passed m.order v)
passed_behind m (suc n) v p l = sym (passed_under m.paired.mesh.coords m.order p.ranked n v p.few l)

-- the order table has the first n, and the last of them is a vertex
pub placed_long : {m : OrderedMesh} {n : ℕ} → Placed m n → n ≤ length m.order
placed_long {n = zero} p = omega arith
placed_long {n = suc n} p = (p.ranked n p.few).there

pub placed_last : {m : OrderedMesh} {n : ℕ} → Placed m n → 0 < n → get_or m.order (n - 1) 0 < vertex_count m.paired.mesh.coords
placed_last {n = n} p l = (p.ranked (n - 1) (omega (arith, p.few))).vertex

-- ---- is_wrong and ring_test

module _ (passed : VertexSet) (corners pairing ring : List ℕ) (c : ℕ) where
  pub wrong_missing : length ring ≤ c → true ≡ wrong_for passed corners pairing ring c
  unfolding wrong_for
  wrong_missing h = simp (le-ltb c (length ring) h)

  -- none is wrong before a corner past which either table ends
  pub wrong_over : Scanned (length corners) (wrong_for passed corners pairing ring) c → min (length corners) (length ring) ≤ c
      → c ≡ least (length corners) (wrong_for passed corners pairing ring)
  wrong_over s h =
      ⊎_elim (λ l. scan_hit s l (sym (wrong_missing (omega (arith, l, h))))) (λ m. scan_end s m) (split_lt c (length corners))

  pub wrong_as : c < length ring → (e : ℕ) → e ≡ ring_entry passed corners pairing c → not (eqb (get_or ring c 0) e) ≡ wrong_for passed corners pairing ring c
  unfolding wrong_for
  wrong_as h e q = ap (λ (x : ℕ). not (eqb (get_or ring c 0) x)) q ∙ (let l = lt-ltb c (length ring) h in simp l)

module _ (s : Sweep) (p : Placed s.ordered s.passed) where
  -- the vertices before the place behind the passed ones
  abbrev behind : VertexSet
  behind = under (mesh_of s).coords (height_behind (mesh_of s).coords s.ordered.order s.passed) (number_behind s.ordered.order s.passed)

  least_is : least (length (mesh_of s).corners) (wrong_for behind (mesh_of s).corners (sweep_pairing s) s.ring)
      ≡ least (length (mesh_of s).corners) (wrong_ring s).fits
  least_is =
      least_same (length (mesh_of s).corners) (wrong_for behind (mesh_of s).corners (sweep_pairing s) s.ring) (wrong_ring s).fits
      (λ c l. unfold wrong_for linked_at in (ap (λ (x : ℕ). not (ltb c (length s.ring) && eqb (get_or s.ring c 0) x))
      (entry_same behind (passed_at s.ordered.order s.passed) (mesh_of s).coords (mesh_of s).corners (sweep_pairing s) p.right.named p.right.linked
      (λ v m. passed_behind s.ordered s.passed v p m) c l)))

  module _ {h : ℤ} {k c : ℕ} (eh : h ≡ height_behind (mesh_of s).coords s.ordered.order s.passed) (ek : k ≡ number_behind s.ordered.order s.passed)
      (ec : c ≡ least (length (mesh_of s).corners) (wrong_for (under (mesh_of s).coords h k) (mesh_of s).corners (sweep_pairing s) s.ring)) where
    found : c ≡ least (length (mesh_of s).corners) (wrong_ring s).fits
    found =
        ec ∙ (λ i. least (length (mesh_of s).corners) (wrong_for (under (mesh_of s).coords (eh i) (ek i)) (mesh_of s).corners (sweep_pairing s) s.ring))
        ∙ least_is

    pub ring_refused : c < length (mesh_of s).corners → refuses (refusal 11 c) ≡ test (wrong_ring s)
    ring_refused l = test_refused (wrong_ring s) c found l

    pub ring_fine : length (mesh_of s).corners ≤ c → fine ≡ test (wrong_ring s)
    ring_fine l = test_fine (wrong_ring s) c found l

-- ---- height_test

module _ (coords : List ℤ) (order : List ℕ) (h : ℤ) where
  -- a passed vertex that is not below h
  high_at : (n : ℕ) → passed_high coords order n h ≡ true → (i : ℕ) × ((i < n) × (below coords h (get_or order i 0) ≡ false))
  unfolding passed_high
  high_at n q =
      let s = some_at n (λ i. not (below coords h (get_or order i 0))) q in (least n (λ i. not (below coords h (get_or order i 0))), (s.0, not-true _ s.1))

  high_of_lem : (n i : ℕ) → i < n → below coords h (get_or order i 0) ≡ false → passed_high coords order n h ≡ true
  unfolding passed_high
  high_of_lem n i l e = some_of n (λ j. not (below coords h (get_or order j 0))) i l (ap not e)

  below_is : (v : ℕ) {b : Bool} → lt_z (z_of coords v) h ≡ b → below coords h v ≡ b
  unfolding below
  below_is v e = e

  pub none_high : (n : ℕ) → n ≡ 0 → fine ≡ test (not_above coords order n h)
  none_high n e = whole_fine (refusal 12) (passed_high coords order n h) (is_false _ (λ q. let z = (high_at n q).1.0 in omega arith))

  module _ (ranked : InOrder coords order) (n : ℕ) (few : n ≤ vertex_count coords) (ne : n ≡ 0 → ⊥) (z : ℤ) (is : z ≡ height_behind coords order n) where
    last : {b : Bool} → lt_z z h ≡ b → below coords h (get_or order (n - 1) 0) ≡ b
    last e = below_is (get_or order (n - 1) 0) (ap (λ (y : ℤ). lt_z y h) (behind_last coords order n (get_or order (n - 1) 0) ne refl ∙ sym is) ∙ e)

    -- the last passed vertex is below h, and so is every other
    pub low_last : lt_z z h ≡ true → fine ≡ test (not_above coords order n h)
    low_last e =
        whole_fine (refusal 12) (passed_high coords order n h)
        (is_false _ (λ q. let s = high_at n q in let l = s.1.0 in clash
        (earlier_below coords order ranked h s.0 (n - 1) (omega arith) (omega arith) (last e)) s.1.1))

    pub high_last : lt_z z h ≡ false → refuses (refusal 12 0) ≡ test (not_above coords order n h)
    high_last e = whole_refused (refusal 12) (passed_high coords order n h) (high_of_lem n (n - 1) (omega arith) (last e))

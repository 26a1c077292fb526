-- Laws of the tests: what the code's branches say of the conditions, and what passing them gives.
use Rattle.std.specs.Prelude.{ℕ, zero, suc, ◌+◌, ◌*◌, ◌/◌, ◌%◌, ◌^◌, ◌<◌, ◌≤◌, ◌≡◌, refl, Bool, true, false, not, List, ltb, leb, length, ℤ, nat_abs, ◌<ℤ◌}
use Rattle.std.specs.Prelude.{◌≤ℤ◌}
use Rattle.std.proofs.Math.Path.{sym, ap}
use Rattle.std.proofs.Common.{◌∙◌, subst, arith, to_z, of_z}
use borrow.Author.Tests.{ltb-true, ltb-false, leb-true, leb-false, eqb-true, eqb-false, lt-ltb, le-leb, lt-leb, eq-eqb, ne_eqb}
use Rattle.std.proofs.Math.Dec.{T, eqb}
use Rattle.std.proofs.Math.ListN.{get_or}
use Rattle.std.proofs.Math.IntN.{pos, negsuc}
use Rattle.std.specs.Int.Signed.{lt_z, mag, lt_z_yes, lt_z_no}
use mir.Syntax.{w32}
use Rattle.laws.specs.Booleans.{is_false, from_T, same_test, and_parts, and_of, or_parts}
use Rattle.laws.specs.Integers.{abs_is, one_zero, le_in, lt_in, lt_out}
use Rattle.laws.specs.Machine.{same}
use Rattle.mesh.specs.Corners.{most_vertices, most_triangles, largest, triangle_count, next_corner, start_of, end_of}
use Rattle.mesh.specs.Tests.{sizes_fit, WholeTriangles, out_of_range, names_none, names_twice, pair_of, reverse, paired_at, unpaired}
pub use Rattle.mesh.specs.Tests.{Paired}

-- ---- 1

module _ (a b : ℕ) where
  pub sizes_1 : (a % 3 ≡ 0 → ⊥) → false ≡ sizes_fit a b
  unfolding sizes_fit
  sizes_1 h = simp (ne_eqb (a % 3) 0 h)

  pub sizes_2 : a % 3 ≡ 0 → (b % 3 ≡ 0 → ⊥) → false ≡ sizes_fit a b
  unfolding sizes_fit
  sizes_2 g h = simp (eq-eqb (a % 3) 0 g, ne_eqb (b % 3) 0 h)

  pub sizes_3 : a % 3 ≡ 0 → b % 3 ≡ 0 → most_vertices < a / 3 → false ≡ sizes_fit a b
  unfolding sizes_fit
  sizes_3 g h k = simp (eq-eqb (a % 3) 0 g, eq-eqb (b % 3) 0 h, lt-leb (a / 3) most_vertices k)

  pub sizes_4 : a % 3 ≡ 0 → b % 3 ≡ 0 → a / 3 ≤ most_vertices → leb (b / 3) most_triangles ≡ sizes_fit a b
  unfolding sizes_fit
  sizes_4 g h k = simp (eq-eqb (a % 3) 0 g, eq-eqb (b % 3) 0 h, le-leb (a / 3) most_vertices k)

  pub sizes_parts : sizes_fit a b ≡ true → (a % 3 ≡ 0) × (b % 3 ≡ 0) × (a / 3 ≤ most_vertices) × (b / 3 ≤ most_triangles)
  unfolding sizes_fit
  sizes_parts e =
      let p = and_parts _ _ e in
      let q = and_parts _ _ p.0 in
      let r = and_parts _ _ q.0 in
      (eqb-true (a % 3) 0 r.0, eqb-true (b % 3) 0 r.1, leb-true (a / 3) most_vertices q.1, leb-true (b / 3) most_triangles p.1)

  pub sizes_whole : sizes_fit a b ≡ true → WholeTriangles b
  sizes_whole e = let p = sizes_parts e in record { threes = p.1; few = omega arith }

-- ---- 2

module _ (coords : List ℤ) (i : ℕ) (f : mag (get_or coords i (pos 0)) < 2 ^ 31) where
  abbrev z : ℤ
  z = get_or coords i (pos 0)

  low : {b : Bool} → lt_z (to_z w32 (of_z w32 z)) (negsuc 1048575) ≡ b → lt_z z (negsuc 1048575) ≡ b
  low e = ap (λ (y : ℤ). lt_z y (negsuc 1048575)) (sym (same w32 z f)) ∙ e

  pub range_low : lt_z (to_z w32 (of_z w32 z)) (negsuc 1048575) ≡ true → true ≡ out_of_range coords i
  unfolding out_of_range
  range_low e =
      let l : z <ℤ negsuc 1048575 = lt_z_yes (subst T (sym (low e)) tt) in
      sym (lt-ltb largest (nat_abs z) (omega (arith, lt_in l, abs_is z)))

  pub range_high : lt_z (to_z w32 (of_z w32 z)) (negsuc 1048575) ≡ false → lt_z (pos 1048576) (to_z w32 (of_z w32 z)) ≡ out_of_range coords i
  unfolding out_of_range
  range_high e =
      let l : negsuc 1048575 ≤ℤ z = lt_z_no (subst (λ (b : Bool). T (not b)) (sym (low e)) tt) in
      ap (λ (y : ℤ). lt_z (pos 1048576) y) (same w32 z f)
      ∙ same_test (lt_z (pos 1048576) z) (ltb largest (nat_abs z))
      (λ t. let m : pos 1048576 <ℤ z = lt_z_yes (subst T (sym t) tt) in lt-ltb largest (nat_abs z) (omega (arith, lt_in m, abs_is z)))
      (λ t. from_T (lt_z (pos 1048576) z) (lt_out {a = pos 1048576} {b = z} (omega (arith, ltb-true largest (nat_abs z) t, le_in l, abs_is z, one_zero z))).lt)

pub in_range_lem : (coords : List ℤ) (i : ℕ) → out_of_range coords i ≡ false → nat_abs (get_or coords i (pos 0)) ≤ largest
unfolding out_of_range
in_range_lem coords i e = ltb-false largest (nat_abs (get_or coords i (pos 0))) e

-- ---- 3

pub names_is : (vertices : ℕ) (corners : List ℕ) (c x : ℕ) → x ≡ get_or corners c 0 → leb vertices x ≡ names_none vertices corners c
unfolding names_none
names_is vertices corners c x e = ap (leb vertices) e

pub names_vertex : (vertices : ℕ) (corners : List ℕ) (c : ℕ) → names_none vertices corners c ≡ false → get_or corners c 0 < vertices
unfolding names_none
names_vertex vertices corners c e = leb-false vertices (get_or corners c 0) e

pub names_one : (vertices : ℕ) (corners : List ℕ) (c : ℕ) → get_or corners c 0 < vertices → names_none vertices corners c ≡ false
unfolding names_none
names_one vertices corners c l = lt-leb vertices (get_or corners c 0) l

-- ---- 4

module _ (corners : List ℕ) (t : ℕ) where
  abbrev va : ℕ
  va = get_or corners (3 * t) 0

  abbrev vb : ℕ
  vb = get_or corners (3 * t + 1) 0

  abbrev vc : ℕ
  vc = get_or corners (3 * t + 2) 0

  pub twice_1 : va ≡ vb → true ≡ names_twice corners t
  unfolding names_twice
  twice_1 h = simp (eq-eqb va vb h)

  pub twice_2 : (va ≡ vb → ⊥) → vb ≡ vc → true ≡ names_twice corners t
  unfolding names_twice
  twice_2 g h = simp (ne_eqb va vb g, eq-eqb vb vc h)

  pub twice_3 : (va ≡ vb → ⊥) → (vb ≡ vc → ⊥) → eqb vc va ≡ names_twice corners t
  unfolding names_twice
  twice_3 g h = simp (ne_eqb va vb g, ne_eqb vb vc h)

  three_vertices : names_twice corners t ≡ false → (va ≡ vb → ⊥) × (vb ≡ vc → ⊥) × (vc ≡ va → ⊥)
  unfolding names_twice
  three_vertices e =
      let p = or_parts _ _ e in
      let q = or_parts _ _ p.1 in
      (eqb-false _ _ p.0, eqb-false _ _ q.0, eqb-false _ _ q.1)

-- no corner's edge leads from a vertex to itself
pub proper_edge : (corners : List ℕ) → length corners % 3 ≡ 0 → ((t : ℕ) → t < triangle_count corners → names_twice corners t ≡ false)
    → (c : ℕ) → c < length corners → start_of corners c ≡ end_of corners c → ⊥
proper_edge corners w h c l e = by (c % 3) refl
  where
    at : {i j : ℕ} → i ≡ j → get_or corners i 0 ≡ get_or corners j 0
    at q = ap (λ (k : ℕ). get_or corners k 0) q

    p : (va corners (c / 3) ≡ vb corners (c / 3) → ⊥) × (vb corners (c / 3) ≡ vc corners (c / 3) → ⊥) × (vc corners (c / 3) ≡ va corners (c / 3) → ⊥)
    p = three_vertices corners (c / 3) (h (c / 3) (omega arith))

    by : (k : ℕ) → c % 3 ≡ k → ⊥
    by zero q = let a : c ≡ 3 * (c / 3) = omega arith in let b : next_corner c ≡ 3 * (c / 3) + 1 = omega arith in p.0 (at (sym a) ∙ e ∙ at b)
    by (suc zero) q = let a : c ≡ 3 * (c / 3) + 1 = omega arith in let b : next_corner c ≡ 3 * (c / 3) + 2 = omega arith in p.1 (at (sym a) ∙ e ∙ at b)
    by (suc (suc k)) q = let a : c ≡ 3 * (c / 3) + 2 = omega arith in let b : next_corner c ≡ 3 * (c / 3) = omega arith in p.2 (at (sym a) ∙ e ∙ at b)

-- ---- 7

pub next_below : (n c : ℕ) → n % 3 ≡ 0 → c < n → next_corner c < n
next_below n c w h = omega arith

module _ (corners : List ℕ) (c d : ℕ) where
  pub reverse_parts : reverse corners c d ≡ true → (start_of corners d ≡ end_of corners c) × (end_of corners d ≡ start_of corners c)
  unfolding reverse
  reverse_parts e = let p = and_parts _ _ e in (eqb-true _ _ p.0, eqb-true _ _ p.1)

  pub reverse_of : start_of corners d ≡ end_of corners c → end_of corners d ≡ start_of corners c → reverse corners c d ≡ true
  unfolding reverse
  reverse_of p q = and_of (eq-eqb _ _ p) (eq-eqb _ _ q)

  -- the code's two comparisons
  pub reverse_no : (i : ℕ) → i ≡ next_corner c → (get_or corners d 0 ≡ get_or corners i 0 → ⊥) → false ≡ reverse corners c d
  unfolding reverse
  reverse_no i e h = let g = ne_eqb (start_of corners d) (end_of corners c) (λ q. h (q ∙ ap (λ (k : ℕ). get_or corners k 0) (sym e))) in simp g

  pub reverse_as : (i j : ℕ) → i ≡ next_corner c → j ≡ next_corner d → get_or corners d 0 ≡ get_or corners i 0
      → eqb (get_or corners j 0) (get_or corners c 0) ≡ reverse corners c d
  unfolding reverse
  reverse_as i j e f h =
      let g = eq-eqb (start_of corners d) (end_of corners c) (h ∙ ap (λ (k : ℕ). get_or corners k 0) e) in
      rw g (ap (λ (k : ℕ). eqb (get_or corners k 0) (get_or corners c 0)) f)

module _ (corners pairing : List ℕ) (c : ℕ) where
  pub paired_of : paired_at corners pairing c ≡ true → Paired corners pairing c
  unfolding paired_at
  paired_of e =
      let p4 = and_parts _ _ e in
      let p3 = and_parts _ _ p4.0 in
      let p2 = and_parts _ _ p3.0 in
      let p1 = and_parts _ _ p2.0 in
      record {
        there = ltb-true _ _ p1.0;
        corner = ltb-true _ _ p1.1;
        turned = p2.1;
        back_there = ltb-true _ _ p3.1;
        back = eqb-true _ _ p4.1;
      }

  pub paired_at_of : Paired corners pairing c → paired_at corners pairing c ≡ true
  unfolding paired_at
  paired_at_of p = simp (lt-ltb _ _ p.there, lt-ltb _ _ p.corner, p.turned, lt-ltb _ _ p.back_there, eq-eqb _ _ p.back)

  -- a part of the rule that fails
  pub not_paired : (Paired corners pairing c → ⊥) → false ≡ paired_at corners pairing c
  not_paired h = sym (is_false (paired_at corners pairing c) (λ e. h (paired_of e)))

  -- all parts but the last hold
  pub paired_last : c < length pairing → pair_of pairing c < length corners → reverse corners c (pair_of pairing c) ≡ true → pair_of pairing c < length pairing
      → eqb (pair_of pairing (pair_of pairing c)) c ≡ paired_at corners pairing c
  unfolding paired_at
  paired_last a b s t = simp (lt-ltb _ _ a, lt-ltb _ _ b, s, lt-ltb _ _ t)

  pub unpaired_is : {b r : Bool} → r ≡ paired_at corners pairing c → not r ≡ b → unpaired corners pairing c ≡ b
  unpaired_is e q = ap not (sym e) ∙ q

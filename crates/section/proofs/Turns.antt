-- What the code's branches say, in the definitions' terms.
use Prim.Native.Nat.{ℕ, ◌+◌, ◌*◌, ◌%◌, ◌^◌, ◌≤◌, ◌<◌}
use mathlib.Core.Path.{◌≡◌, sym, ap, subst, ◌∙◌}
use mathlib.Core.Bool.{Bool, true, false, not, cond, ◌&&◌}
use mathlib.Core.List.{List}
use native.Mathlib.Omega.{arith}
use Rattle.std.proofs.Math.Bool.{and-not_self}
use lib.Dec.{ltb}
use lib.ListN.{length, set}
use lib.IntN.{ℤ}
use lib.Signed.{lt_z, mag}
use mir.Syntax.{w32}
use mir.Val.{SFits, to_z, of_z}
use mir.ValLaws.{to_z-of_z}
use Rattle.laws.specs.Machine.{same}
use Rattle.laws.specs.Tables.{refill}
use Rattle.laws.specs.TableLaws.{refill_more}
use Rattle.mesh.specs.Corners.{triangle_of, next_corner, start_of, z_of}
use Rattle.mesh.specs.Tests.{pair_of}
use Rattle.section.specs.Section.{VertexSet, under, rising, falling, Crossing, rising_in, successor, no_corner, ring_entry}
use Rattle.section.specs.Section.{Linked}
use Rattle.section.specs.Triangles.{Between, set_three}
use Rattle.section.proofs.SectionLaws.{beside_not, beside_passed, pair_falls}

-- a signed argument as the code holds it
abbrev pub held : ℤ → ℤ
held z = to_z w32 (of_z w32 z)

pub back : {h : ℤ} → SFits w32 h → held h ≡ h
back {h} f = to_z-of_z w32 h f

-- the vertices passed at the place (h, k), with the height as the code holds it
pub passed_held : (coords : List ℤ) (k : ℕ) {h : ℤ} → SFits w32 h → under coords (held h) k ≡ under coords h k
passed_held coords k f = ap (λ (z : ℤ). under coords z k) (back f)

pub crosses_held : (coords : List ℤ) (corners : List ℕ) {h : ℤ} (k : ℕ) {c : ℕ} → SFits w32 h
    → Crossing (under coords h k) corners c → Crossing (under coords (held h) k) corners c
crosses_held coords corners k {c} f = subst (λ (p : VertexSet). Crossing p corners c) (sym (passed_held coords k f))

-- ---- is_passed

module _ (coords : List ℤ) (h : ℤ) (k v : ℕ) (fz : mag (z_of coords v) < 2 ^ 31) (fh : SFits w32 h) where
  z_lt : {b : Bool} → lt_z (held (z_of coords v)) (held h) ≡ b → lt_z (z_of coords v) h ≡ b
  z_lt e = (λ i. lt_z (sym (same w32 (z_of coords v) fz) i) (sym (back fh) i)) ∙ e

  h_lt : {b : Bool} → lt_z (held h) (held (z_of coords v)) ≡ b → lt_z h (z_of coords v) ≡ b
  h_lt e = (λ i. lt_z (sym (back fh) i) (sym (same w32 (z_of coords v) fz) i)) ∙ e

  pub passed_low : lt_z (held (z_of coords v)) (held h) ≡ true → true ≡ under coords h k v
  unfolding under
  passed_low p = simp (z_lt p)

  pub passed_high_lem : lt_z (held (z_of coords v)) (held h) ≡ false → lt_z (held h) (held (z_of coords v)) ≡ true → false ≡ under coords h k v
  unfolding under
  passed_high_lem p q = simp (z_lt p, h_lt q)

  pub passed_level : lt_z (held (z_of coords v)) (held h) ≡ false → lt_z (held h) (held (z_of coords v)) ≡ false → ltb v k ≡ under coords h k v
  unfolding under
  passed_level p q = simp (z_lt p, h_lt q)

-- ---- is_rising

pub rises_is : (passed : VertexSet) (corners : List ℕ) (c : ℕ) {n u v : ℕ} {r : Bool} → n ≡ next_corner c → u ≡ start_of corners c
    → v ≡ start_of corners n → r ≡ (passed u && not (passed v)) → r ≡ rising passed corners c
unfolding rising
rises_is passed corners c is-n is-u is-v is_r =
    is_r ∙ (λ i. passed (is-u i) && not (passed ((is-v ∙ ap (start_of corners) is-n) i)))

-- ---- rising_beside

-- what is known of a falling corner d: the two corners after it, and whether the vertex of the second is passed
pub record ThirdSeen (passed : VertexSet) (corners : List ℕ) (d e f : ℕ) (r : Bool) : Type 0 where
  pub falls : falling passed corners d ≡ true
  pub is_e : e ≡ next_corner d
  pub is_f : f ≡ next_corner (next_corner d)
  pub is_r : r ≡ passed (start_of corners f)

module _ {passed : VertexSet} {corners : List ℕ} {d e f : ℕ} {r : Bool} (s : ThirdSeen passed corners d e f r) where
  third : passed (start_of corners (next_corner (next_corner d))) ≡ r
  third = sym (s.is_r ∙ ap (λ (i : ℕ). passed (start_of corners i)) s.is_f)

  pub second_rises : r ≡ true → f ≡ rising_in passed corners (triangle_of d)
  second_rises t = s.is_f ∙ beside_passed passed corners d s.falls (third ∙ t)

  pub first_rises : r ≡ false → e ≡ rising_in passed corners (triangle_of d)
  first_rises t = s.is_e ∙ beside_not passed corners d s.falls (third ∙ t)

module _ (passed : VertexSet) (corners : List ℕ) (t : ℕ) where
  pub rising_in_bound : rising_in passed corners t ≤ 3 * t + 2
  unfolding rising_in
  rising_in_bound = by (rising passed corners (3 * t)) (rising passed corners (3 * t + 1))
    where
      by : (a b : Bool) → cond a (3 * t) (cond b (3 * t + 1) (3 * t + 2)) ≤ 3 * t + 2
      by true b = omega arith
      by false true = omega arith
      by false false = omega arith

-- ---- link_of and entry_of

module _ (passed : VertexSet) (corners pairing : List ℕ) (c : ℕ) where
  pub entry_rises : {s d : ℕ} → rising passed corners c ≡ true → d ≡ pair_of pairing c → s ≡ rising_in passed corners (triangle_of d)
      → s ≡ ring_entry passed corners pairing c
  unfolding ring_entry successor
  entry_rises p is-d is-s = rw p (is-s ∙ ap (λ (k : ℕ). rising_in passed corners (triangle_of k)) is-d)

  pub entry_none : rising passed corners c ≡ false → no_corner ≡ ring_entry passed corners pairing c
  unfolding ring_entry
  entry_none p = simp p

module _ (passed : VertexSet) {corners pairing : List ℕ} {c d : ℕ} (l : Linked corners pairing) (x : Crossing passed corners c)
    (is-d : d ≡ pair_of pairing c) where
  pub pair_inside : d < length corners
  pair_inside = rw is-d (l.each c x.below).corner

  pub pair_falling : falling passed corners d ≡ true
  pair_falling = rw is-d (pair_falls passed corners pairing l c x)

  -- the entry fits in 32 bits
  pub entry_fits : {s : ℕ} → s ≡ rising_in passed corners (triangle_of d) → s < 2 ^ 32
  entry_fits e =
      omega (arith, e, pair_inside, l.whole.few, l.whole.threes, rising_in_bound passed corners (triangle_of d))

-- ---- link

module _ (f : ℕ → ℕ) (c : ℕ) {t : List ℕ} (t₀ : List ℕ) (is : t ≡ refill c f t₀) where
  pub link_more : {e : ℕ} → c < length t₀ → e ≡ f c → set t c e ≡ refill (c + 1) f t₀
  link_more h is_e = (λ i. set (is i) c (is_e i)) ∙ refill_more c f t₀ h

-- ---- entry_between

module _ (passed : VertexSet) (corners pairing : List ℕ) {c : ℕ} {start end : Bool} (b : Between passed corners c start end) where
  pub between_rises : {r : Bool} → (start && not end) ≡ r → rising passed corners c ≡ r
  unfolding rising
  between_rises e = (λ i. b.start_is i && not (b.end_is i)) ∙ e

  pub between_level : start ≡ end → no_corner ≡ ring_entry passed corners pairing c
  between_level e = entry_none passed corners pairing c (between_rises (ap (λ (s : Bool). s && not end) e ∙ and-not_self end))

-- ---- link_triangle

-- whether the three vertices of a triangle are passed
pub record TrianglePassed (passed : VertexSet) (corners : List ℕ) (c : ℕ) (p q r : Bool) : Type 0 where
  pub first : c % 3 ≡ 0
  pub inside : c + 2 < length corners
  pub p_is : p ≡ passed (start_of corners c)
  pub q_is : q ≡ passed (start_of corners (c + 1))
  pub r_is : r ≡ passed (start_of corners (c + 2))

module _ {passed : VertexSet} {corners : List ℕ} {c : ℕ} {p q r : Bool} (s : TrianglePassed passed corners c p q r) where
  from : {a b : Bool} (d e : ℕ) → d < length corners → next_corner d ≡ e → a ≡ passed (start_of corners d) → b ≡ passed (start_of corners e)
      → Between passed corners d a b
  from d e l n x y = record { corner = l; start_is = sym x; end_is = ap (λ (j : ℕ). passed (start_of corners j)) n ∙ sym y }

  pub between_1 : Between passed corners c p q
  between_1 = from c (c + 1) (omega (arith, s.inside)) (omega (arith, s.first)) s.p_is s.q_is

  pub between_2 : Between passed corners (c + 1) q r
  between_2 = from (c + 1) (c + 2) (omega (arith, s.inside)) (omega (arith, s.first)) s.q_is s.r_is

  pub between_3 : Between passed corners (c + 2) r p
  between_3 = from (c + 2) c s.inside (omega (arith, s.first)) s.r_is s.p_is

pub three_are : (f : ℕ → ℕ) (c : ℕ) (t : List ℕ) {x y z : ℕ} → x ≡ f c → y ≡ f (c + 1) → z ≡ f (c + 2)
    → set (set (set t c x) (c + 1) y) (c + 2) z ≡ set_three f c t
three_are f c t ex ey ez = λ i. set (set (set t c (ex i)) (c + 1) (ey i)) (c + 2) (ez i)

-- where all three vertices are passed, or none is, no corner of the triangle is a crossing
pub three_level : {passed : VertexSet} {corners : List ℕ} {c : ℕ} {p q r : Bool} (pairing t : List ℕ) → TrianglePassed passed corners c p q r
    → p ≡ q → q ≡ r → set (set (set t c no_corner) (c + 1) no_corner) (c + 2) no_corner ≡ set_three (ring_entry passed corners pairing) c t
three_level {passed} {corners} {c} pairing t s e f =
    three_are (ring_entry passed corners pairing) c t
    (between_level _ _ pairing (between_1 s) e)
    (between_level _ _ pairing (between_2 s) f)
    (between_level _ _ pairing (between_3 s) (sym (e ∙ f)))

-- ---- link_at

pub link_three : (f : ℕ → ℕ) (c : ℕ) {t : List ℕ} (t₀ : List ℕ) → t ≡ refill c f t₀ → c + 2 < length t₀
    → set_three f c t ≡ refill (c + 3) f t₀
link_three f c t₀ is h =
    ap (set_three f c) is
    ∙ ap (λ (l : List ℕ). set (set l (c + 1) (f (c + 1))) (c + 2) (f (c + 2))) (refill_more c f t₀ (omega arith))
    ∙ ap (λ (l : List ℕ). set l (c + 2) (f (c + 2))) (refill_more (c + 1) f t₀ (omega arith))
    ∙ ap (λ (j : ℕ). set (refill j f t₀) (c + 2) (f (c + 2))) (omega arith)
    ∙ refill_more (c + 2) f t₀ h
    ∙ ap (λ (j : ℕ). refill j f t₀) (omega arith)

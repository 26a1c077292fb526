-- Laws of the section: a triangle has none of either or one of each (SECTION-3), and the
-- successor leads every crossing round a ring (SECTION-6) of at least two (SECTION-7).
use Rattle.std.specs.Prelude.{ℕ, ◌+◌, ◌*◌, ◌/◌, ◌%◌, ◌<◌, ◌≡◌, ◌⊎◌, Bool, not, ◌&&◌, ◌||◌, List, ltb, length, get_or, ℤ}
use Rattle.std.proofs.Math.Path.{refl, ap, fun_ext}
use Rattle.std.proofs.Common.{sym, ◌∙◌, subst, inl, inr, ⊎_elim, le-ltb}
use Rattle.std.proofs.Math.Bool.{true, false, cond}
use native.Mathlib.Omega.{arith}
use Rattle.std.proofs.Math.Decide.{ℕ_discrete}
use Rattle.std.specs.Int.Signed.{lt_z}
use Rattle.laws.specs.Booleans.{clash, is_false}
use Rattle.mesh.specs.Corners.{triangle_of, next_corner, start_of, end_of, z_of}
use Rattle.mesh.specs.Tests.{pair_of}
use Rattle.mesh.specs.TestLaws.{next_below, reverse_parts}
use Rattle.section.specs.Section.{VertexSet, below, under, rising, falling, rising_in, successor, Crossing, Linked}
use Rattle.section.specs.Rings.{Ring}
use Rattle.section.specs.RingLaws.{ring_of_lem}

-- the set of a height is that of the place before its first vertex
pub below_under : (coords : List ℤ) (h : ℤ) → below coords h ≡ under coords h 0
below_under coords h = fun_ext (λ v. at v)
  where
    none : (a b c : Bool) → c ≡ false → a ≡ (a || (not b && c))
    none true b c e = refl
    none false true c e = refl
    none false false c e = sym e

    at : (v : ℕ) → below coords h v ≡ under coords h 0 v
    at v = unfold below under in (none (lt_z (z_of coords v) h) (lt_z h (z_of coords v)) (ltb v 0) (le-ltb v 0 (omega arith)))

-- ---- corners of a triangle

pub next_triangle : (c : ℕ) → triangle_of (next_corner c) ≡ triangle_of c
next_triangle c = omega arith

pub next_thrice : (c : ℕ) → next_corner (next_corner (next_corner c)) ≡ c
next_thrice c =
    back c (next_corner (next_corner c))
    (next_triangle (next_corner c) ∙ next_triangle c)
    (two (next_corner c) c (next_mod c) ∙ omega arith)
  where
    next_mod : (d : ℕ) → next_corner d % 3 ≡ (d + 1) % 3
    next_mod d = omega arith

    two : (d e : ℕ) → d % 3 ≡ (e + 1) % 3 → next_corner d % 3 ≡ (e + 2) % 3
    two d e h = omega (arith, next_mod d)

    back : (e d : ℕ) → d / 3 ≡ e / 3 → d % 3 ≡ (e + 2) % 3 → next_corner d ≡ e
    back e d h k = omega arith

pub same_triangle : (c d : ℕ) → triangle_of c ≡ triangle_of d → (d ≡ c) ⊎ ((d ≡ next_corner c) ⊎ (d ≡ next_corner (next_corner c)))
same_triangle c d e = by (ℕ_discrete d c) (ℕ_discrete d (next_corner c))
  where
    by : Dec (d ≡ c) → Dec (d ≡ next_corner c) → (d ≡ c) ⊎ ((d ≡ next_corner c) ⊎ (d ≡ next_corner (next_corner c)))
    by (yes q) r = inl q
    by (no q) (yes r) = inr (inl r)
    by (no q) (no r) = inr (inr (omega arith))

-- ---- tests

pub and_not : (a b : Bool) → (a && not b) ≡ true → (a ≡ true) × (b ≡ false)
and_not true true e = absurd (clash e refl)
and_not true false e = (refl, refl)
and_not false b e = absurd (clash e refl)

pub and_not_of : (a b : Bool) → a ≡ true → b ≡ false → (a && not b) ≡ true
and_not_of a b p q = simp (p, q)

module _ (passed : VertexSet) (corners : List ℕ) where
  pub rising_parts : (c : ℕ) → rising passed corners c ≡ true → (passed (start_of corners c) ≡ true) × (passed (end_of corners c) ≡ false)
  unfolding rising
  rising_parts c e = and_not (passed (start_of corners c)) (passed (end_of corners c)) e

  pub falling_parts : (c : ℕ) → falling passed corners c ≡ true → (passed (end_of corners c) ≡ true) × (passed (start_of corners c) ≡ false)
  unfolding falling
  falling_parts c e = and_not (passed (end_of corners c)) (passed (start_of corners c)) e

  pub rising_of : (c : ℕ) → passed (start_of corners c) ≡ true → passed (end_of corners c) ≡ false → rising passed corners c ≡ true
  unfolding rising
  rising_of c p q = and_not_of _ _ p q

  pub falling_of : (c : ℕ) → passed (end_of corners c) ≡ true → passed (start_of corners c) ≡ false → falling passed corners c ≡ true
  unfolding falling
  falling_of c p q = and_not_of _ _ p q

  -- ---- a triangle has none of either or one of each

  end_last : (c : ℕ) → end_of corners (next_corner (next_corner c)) ≡ start_of corners c
  end_last c = ap (λ (k : ℕ). get_or corners k 0) (next_thrice c)

  pub rising_unique : (c d : ℕ) → triangle_of c ≡ triangle_of d → rising passed corners c ≡ true → rising passed corners d ≡ true → c ≡ d
  rising_unique c d t p q =
      ⊎_elim (λ e. sym e)
      (⊎_elim
      (λ e. absurd (clash (rising_parts _ (subst (λ (k : ℕ). rising passed corners k ≡ true) e q)).0 (rising_parts c p).1))
      (λ e. absurd (clash (rising_parts c p).0 (ap passed (sym (end_last c)) ∙ (rising_parts _ (subst (λ (k : ℕ). rising passed corners k ≡ true) e q)).1))))
      (same_triangle c d t)

  pub falling_unique : (c d : ℕ) → triangle_of c ≡ triangle_of d → falling passed corners c ≡ true → falling passed corners d ≡ true → c ≡ d
  falling_unique c d t p q =
      ⊎_elim (λ e. sym e)
      (⊎_elim
      (λ e. absurd (clash (falling_parts c p).0 (falling_parts _ (subst (λ (k : ℕ). falling passed corners k ≡ true) e q)).1))
      (λ e. absurd (clash (ap passed (sym (end_last c)) ∙ (falling_parts _ (subst (λ (k : ℕ). falling passed corners k ≡ true) e q)).0) (falling_parts c p).1)))
      (same_triangle c d t)

  -- the third vertex is passed or not: one of the two other corners goes the other way
  pub rise_with : (d : ℕ) → falling passed corners d ≡ true → (r : ℕ) × (triangle_of r ≡ triangle_of d) × (rising passed corners r ≡ true)
  rise_with d f = by (passed (end_of corners (next_corner d))) refl
    where
      by : (b : Bool) → passed (end_of corners (next_corner d)) ≡ b → (r : ℕ) × (triangle_of r ≡ triangle_of d) × (rising passed corners r ≡ true)
      by false e = (next_corner d, next_triangle d, rising_of (next_corner d) (falling_parts d f).0 e)
      by true e =
          (next_corner (next_corner d), omega arith, rising_of (next_corner (next_corner d)) e (ap passed (end_last d) ∙ (falling_parts d f).1))

  pub fall_with : (d : ℕ) → rising passed corners d ≡ true → (r : ℕ) × (triangle_of r ≡ triangle_of d) × (falling passed corners r ≡ true)
  fall_with d f = by (passed (end_of corners (next_corner d))) refl
    where
      by : (b : Bool) → passed (end_of corners (next_corner d)) ≡ b → (r : ℕ) × (triangle_of r ≡ triangle_of d) × (falling passed corners r ≡ true)
      by true e = (next_corner d, next_triangle d, falling_of (next_corner d) e (rising_parts d f).1)
      by false e =
          (next_corner (next_corner d), omega arith, falling_of (next_corner (next_corner d)) (ap passed (end_last d) ∙ (rising_parts d f).0) e)

  -- the rising corner of a triangle that has one
  pub rising_in_is : (r : ℕ) → rising passed corners r ≡ true → rising_in passed corners (triangle_of r) ≡ r
  unfolding rising_in
  rising_in_is r h = by (rising passed corners (3 * (r / 3))) (rising passed corners (3 * (r / 3) + 1)) refl refl
    where
      by : (a b : Bool) → rising passed corners (3 * (r / 3)) ≡ a → rising passed corners (3 * (r / 3) + 1) ≡ b
          → cond a (3 * (r / 3)) (cond b (3 * (r / 3) + 1) (3 * (r / 3) + 2)) ≡ r
      by true b p q = rising_unique (3 * (r / 3)) r (omega arith) p h
      by false true p q = rising_unique (3 * (r / 3) + 1) r (omega arith) q h
      by false false p q = last (ℕ_discrete r (3 * (r / 3))) (ℕ_discrete r (3 * (r / 3) + 1))
        where
          last : Dec (r ≡ 3 * (r / 3)) → Dec (r ≡ 3 * (r / 3) + 1) → 3 * (r / 3) + 2 ≡ r
          last (yes e) d = absurd (clash h (ap (rising passed corners) e ∙ p))
          last (no ne) (yes e) = absurd (clash h (ap (rising passed corners) e ∙ q))
          last (no ne) (no ne2) = omega arith

  -- beside a falling corner: the one after it, unless the third vertex is passed too
  pub beside_not : (d : ℕ) → falling passed corners d ≡ true → passed (start_of corners (next_corner (next_corner d))) ≡ false
      → next_corner d ≡ rising_in passed corners (triangle_of d)
  beside_not d f e =
      sym (ap (rising_in passed corners) (sym (next_triangle d)) ∙ rising_in_is (next_corner d) (rising_of (next_corner d) (falling_parts d f).0 e))

  pub beside_passed : (d : ℕ) → falling passed corners d ≡ true → passed (start_of corners (next_corner (next_corner d))) ≡ true
      → next_corner (next_corner d) ≡ rising_in passed corners (triangle_of d)
  beside_passed d f e =
      let t : triangle_of d ≡ triangle_of (next_corner (next_corner d)) = omega arith in
      sym (ap (rising_in passed corners) t ∙ rising_in_is (next_corner (next_corner d))
      (rising_of (next_corner (next_corner d)) e (ap passed (end_last d) ∙ (falling_parts d f).1)))

-- ---- the successor

module _ (passed : VertexSet) (corners pairing : List ℕ) (linked : Linked corners pairing) where
  -- a corner's pair has the reverse edge
  pub turned : (c : ℕ) → c < length corners
      → (start_of corners (pair_of pairing c) ≡ end_of corners c) × (end_of corners (pair_of pairing c) ≡ start_of corners c)
  turned c l = reverse_parts corners c (pair_of pairing c) (linked.each c l).turned

  -- the pair of a crossing falls
  pub pair_falls : (c : ℕ) → Crossing passed corners c → falling passed corners (pair_of pairing c) ≡ true
  pair_falls c x =
      falling_of passed corners (pair_of pairing c)
      (ap passed (turned c x.below).1 ∙ (rising_parts passed corners c x.upward).0)
      (ap passed (turned c x.below).0 ∙ (rising_parts passed corners c x.upward).1)

  pub successor_is : (c : ℕ) (x : Crossing passed corners c)
      → successor passed corners pairing c ≡ (rise_with passed corners (pair_of pairing c) (pair_falls c x)).0
  unfolding successor
  successor_is c x =
      let r = rise_with passed corners (pair_of pairing c) (pair_falls c x) in
      ap (rising_in passed corners) (sym r.1) ∙ rising_in_is passed corners r.0 r.2

  pub successor_triangle : (c : ℕ) → Crossing passed corners c → triangle_of (successor passed corners pairing c) ≡ triangle_of (pair_of pairing c)
  successor_triangle c x = ap triangle_of (successor_is c x) ∙ (rise_with passed corners (pair_of pairing c) (pair_falls c x)).1

  pub successor_crosses : (c : ℕ) → Crossing passed corners c → Crossing passed corners (successor passed corners pairing c)
  successor_crosses c x = record {
    below = omega (arith, successor_triangle c x, (linked.each c x.below).corner, linked.whole.threes);
    upward = ap (rising passed corners) (successor_is c x) ∙ (rise_with passed corners (pair_of pairing c) (pair_falls c x)).2;
  }

  pub successor_injective : (c d : ℕ) → Crossing passed corners c → Crossing passed corners d
      → successor passed corners pairing c ≡ successor passed corners pairing d → c ≡ d
  successor_injective c d x y e =
      sym (linked.each c x.below).back
      ∙ ap (pair_of pairing)
      (falling_unique passed corners (pair_of pairing c) (pair_of pairing d)
      (sym (successor_triangle c x) ∙ ap triangle_of e ∙ successor_triangle d y)
      (pair_falls c x) (pair_falls d y))
      ∙ (linked.each d y.below).back

  -- every crossing lies on a ring: its successors lead back to it, and meet no crossing twice on the way
  pub crossing_ring : (c : ℕ) → Crossing passed corners c → Ring (successor passed corners pairing) (length corners) c
  crossing_ring =
      ring_of_lem (successor passed corners pairing) (length corners) (Crossing passed corners) (λ c x. x.below) successor_crosses successor_injective

  -- a ring has at least two crossings
  pub two_crossings : (c : ℕ) → Crossing passed corners c → successor passed corners pairing c ≡ c → ⊥
  two_crossings c x e =
      ⊎_elim
      (λ q. clash (rising_parts passed corners c x.upward).0
      (ap (λ (k : ℕ). passed (start_of corners k)) (sym q) ∙ (falling_parts passed corners _ (pair_falls c x)).1))
      (⊎_elim
      (λ q. linked.proper (next_corner (next_corner c))
      (next_below (length corners) (next_corner c) linked.whole.threes (next_below (length corners) c linked.whole.threes x.below))
      (sym (ap (end_of corners) q) ∙ (turned c x.below).1 ∙ sym (end_last passed corners c)))
      (λ q. linked.proper (next_corner c) (next_below (length corners) c linked.whole.threes x.below)
      (sym (turned c x.below).0 ∙ ap (start_of corners) q)))
      (same_triangle c (pair_of pairing c) (sym (ap triangle_of e) ∙ successor_triangle c x))

  -- of a corner and its pair, one rises where the other falls
  pub pair_rises : (c : ℕ) → c < length corners → falling passed corners c ≡ true → rising passed corners (pair_of pairing c) ≡ true
  pair_rises c l f =
      rising_of passed corners (pair_of pairing c)
      (ap passed (turned c l).0 ∙ (falling_parts passed corners c f).0)
      (ap passed (turned c l).1 ∙ (falling_parts passed corners c f).1)

-- ---- none of either or one of each

pub data Crossed (passed : VertexSet) (corners : List ℕ) (t : ℕ) : Type 0 where
  neither : ((c : ℕ) → triangle_of c ≡ t → (rising passed corners c ≡ false) × (falling passed corners c ≡ false)) → Crossed passed corners t
  one_each : (r f : ℕ) → triangle_of r ≡ t → triangle_of f ≡ t → rising passed corners r ≡ true → falling passed corners f ≡ true
      → ((c : ℕ) → triangle_of c ≡ t → (rising passed corners c ≡ true → c ≡ r) × (falling passed corners c ≡ true → c ≡ f)) → Crossed passed corners t

pub triangle_crossed : (passed : VertexSet) (corners : List ℕ) (t : ℕ) → Crossed passed corners t
triangle_crossed passed corners t =
    by (rising passed corners (3 * t)) (rising passed corners (3 * t + 1)) (rising passed corners (3 * t + 2)) refl refl refl
  where
    with_one : (r : ℕ) → triangle_of r ≡ t → rising passed corners r ≡ true → Crossed passed corners t
    with_one r e h =
        let f = fall_with passed corners r h in
        one_each r f.0 e (f.1 ∙ e) h f.2
        (λ c q. (λ p. rising_unique passed corners c r (q ∙ sym e) p h, λ p. falling_unique passed corners c f.0 (q ∙ sym e ∙ sym f.1) p f.2))

    no_rise : rising passed corners (3 * t) ≡ false → rising passed corners (3 * t + 1) ≡ false → rising passed corners (3 * t + 2) ≡ false
        → (c : ℕ) → triangle_of c ≡ t → rising passed corners c ≡ true → ⊥
    no_rise p q r c e h = at (ℕ_discrete c (3 * t)) (ℕ_discrete c (3 * t + 1))
      where
        at : Dec (c ≡ 3 * t) → Dec (c ≡ 3 * t + 1) → ⊥
        at (yes m) d = clash h (ap (rising passed corners) m ∙ p)
        at (no m) (yes m2) = clash h (ap (rising passed corners) m2 ∙ q)
        at (no m) (no m2) = clash h (ap (rising passed corners) (omega arith) ∙ r)

    by : (a b d : Bool) → rising passed corners (3 * t) ≡ a → rising passed corners (3 * t + 1) ≡ b → rising passed corners (3 * t + 2) ≡ d
        → Crossed passed corners t
    by true b d p q r = with_one (3 * t) (omega arith) p
    by false true d p q r = with_one (3 * t + 1) (omega arith) q
    by false false true p q r = with_one (3 * t + 2) (omega arith) r
    by false false false p q r =
        neither (λ c e. (is_false _ (no_rise p q r c e), is_false _ (λ f. let w = rise_with passed corners c f in no_rise p q r w.0 (w.1 ∙ e) w.2)))

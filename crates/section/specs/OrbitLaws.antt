-- Walks along a ring: they close, and have its places and no others; membership and lists without repeats.
use Prim.Native.Nat.{ℕ, zero, suc, ◌+◌, ◌-◌, ◌≤◌, ◌<◌}
use Rattle.std.specs.Prelude.{◌≡◌, ◌⊎◌, Bool, true, ◌||◌, length, get_or}
use Rattle.std.proofs.Math.Path.{refl, ap, subst}
use Rattle.std.proofs.Common.{sym, ◌∙◌, inl, inr, not-suc-le-zero, le_of_suc-le-suc}
use Rattle.std.proofs.Math.Bool.{false}
use mathlib.Core.List.{List, [], ◌∷◌, ◌++◌, append-nil}
use native.Mathlib.Omega.{arith}
use Rattle.std.proofs.Math.Decide.{ℕ_discrete, dec_lt}
use borrow.Author.Tests.{eqb-true, eq-eqb, ne_eqb}
use Rattle.std.proofs.Math.Dec.{eqb}
use Rattle.std.proofs.Math.ListN.{get_or-append}
use Rattle.std.proofs.Math.Seq.{append_snoc}
use Rattle.std.proofs.lemmas.List.{get_or_at}
use Rattle.laws.specs.Booleans.{clash, or_left, or_right, or_cases}
use Rattle.laws.specs.TableLaws.{length_snoc}
use Rattle.section.specs.Rings.{iterate, Ring}
use Rattle.section.specs.RingLaws.{pigeonhole}
use Rattle.section.specs.Contours.{member, closed, walk}
use Rattle.section.specs.Layers.{Distinct}

-- ---- membership

pub or_none : (a b : Bool) → a ≡ false → b ≡ false → (a || b) ≡ false
or_none a b p q = simp (p, q)

pub member_none : (v : ℕ) → member v [] ≡ true → ⊥
unfolding member
member_none v e = clash e refl

pub member_join : (v : ℕ) (xs ys : List ℕ) → member v (xs ++ ys) ≡ (member v xs || member v ys)
unfolding member
member_join v [] ys = refl
member_join v (x ∷ xs) ys = ap (λ (b : Bool). eqb v x || b) (member_join v xs ys) ∙ assoc (eqb v x)
  where
    assoc : (a : Bool) → (a || (member v xs || member v ys)) ≡ ((a || member v xs) || member v ys)
    assoc true = refl
    assoc false = refl

pub member_one : (v x : ℕ) → member v (x ∷ []) ≡ eqb v x
unfolding member
member_one v x = by (eqb v x)
  where
    by : (b : Bool) → (b || false) ≡ b
    by true = refl
    by false = refl

pub at_member : (l : List ℕ) (i : ℕ) → i < length l → member (get_or l i 0) l ≡ true
unfolding member
at_member [] i h = absurd (not-suc-le-zero h)
at_member (x ∷ xs) zero h = or_left (eqb x x) (member x xs) (eq-eqb x x refl)
at_member (x ∷ xs) (suc i) h = or_right (eqb (get_or xs i 0) x) (member (get_or xs i 0) xs) (at_member xs i (le_of_suc-le-suc h))

-- ---- one name more

module _ (l : List ℕ) (x : ℕ) (new : member x l ≡ false) where
  pub distinct_snoc : Distinct l → Distinct (l ++ (x ∷ []))
  distinct_snoc d i j lt lj q = by (dec_lt j (length l))
    where
      old : (k : ℕ) → k < length l → get_or (l ++ (x ∷ [])) k 0 ≡ get_or l k 0
      old k h = get_or-append l (x ∷ []) 0 k h

      by : Dec (j < length l) → ⊥
      by (yes m) = d i j lt m (sym (old i (omega arith)) ∙ q ∙ old j m)
      by (no m) =
          let z : length l ≡ j = omega (arith, length_snoc l x) in
          clash (subst (λ (y : ℕ). member y l ≡ true) (sym (old i (omega arith)) ∙ q ∙ get_or_at l x [] 0 j z) (at_member l i (omega arith))) new

-- names below n without repeats are at most n
pub distinct_few : (n : ℕ) (l : List ℕ) → Distinct l → ((i : ℕ) → i < length l → get_or l i 0 < n) → length l ≤ n
distinct_few n l d b = by (dec_lt n (length l))
  where
    by : Dec (n < length l) → length l ≤ n
    by (no m) = omega arith
    by (yes m) =
        let r = pigeonhole n (λ i. get_or l i 0) (λ i h. b i (omega arith)) in
        absurd (d r.first r.second r.order (omega (arith, r.bound)) r.equal)

-- ---- the places of a walk: c, f c, f (f c), ..: n of them

unfoldable pub orbit : (ℕ → ℕ) → ℕ → ℕ → List ℕ
orbit f zero c = []
orbit f (suc n) c = c ∷ orbit f n (f c)

pub iterate_shift : (f : ℕ → ℕ) (c i : ℕ) → iterate f i (f c) ≡ iterate f (suc i) c
unfolding iterate
iterate_shift f c zero = refl
iterate_shift f c (suc i) = ap f (iterate_shift f c i)

pub iterate_add : (f : ℕ → ℕ) (m j c : ℕ) → iterate f m (iterate f j c) ≡ iterate f (m + j) c
unfolding iterate
iterate_add f zero j c = let e : j ≡ zero + j = omega arith in ap (λ (k : ℕ). iterate f k c) e
iterate_add f (suc m) j c = let e : suc (m + j) ≡ suc m + j = omega arith in ap f (iterate_add f m j c) ∙ ap (λ (k : ℕ). iterate f k c) e

pub length_orbit : (f : ℕ → ℕ) (n c : ℕ) → length (orbit f n c) ≡ n
unfolding orbit
length_orbit f zero c = refl
length_orbit f (suc n) c = ap suc (length_orbit f n (f c))

pub get_d_orbit : (f : ℕ → ℕ) (n c i : ℕ) → i < n → get_or (orbit f n c) i 0 ≡ iterate f i c
unfolding orbit iterate
get_d_orbit f zero c i l = absurd (not-suc-le-zero l)
get_d_orbit f (suc n) c zero l = refl
get_d_orbit f (suc n) c (suc i) l = get_d_orbit f n (f c) i (omega arith) ∙ iterate_shift f c i

pub orbit_snoc : (f : ℕ → ℕ) (k c : ℕ) → orbit f (suc k) c ≡ orbit f k c ++ (iterate f k c ∷ [])
unfolding orbit iterate
orbit_snoc f zero c = refl
orbit_snoc f (suc k) c = ap (λ (l : List ℕ). c ∷ l) (orbit_snoc f k (f c) ∙ ap (λ (x : ℕ). orbit f k (f c) ++ (x ∷ [])) (iterate_shift f c k))

-- a member is one of the places, and each place is a member
pub orbit_at : (f : ℕ → ℕ) (v n c : ℕ) → member v (orbit f n c) ≡ true → (i : ℕ) × (i < n) × (v ≡ iterate f i c)
unfolding orbit member iterate
orbit_at f v zero c e = absurd (clash e refl)
orbit_at f v (suc n) c e = by (or_cases (eqb v c) (member v (orbit f n (f c))) e) (orbit_at f v n (f c))
  where
    by : (eqb v c ≡ true) ⊎ (member v (orbit f n (f c)) ≡ true) → (member v (orbit f n (f c)) ≡ true → (i : ℕ) × (i < n) × (v ≡ iterate f i (f c)))
        → (i : ℕ) × (i < suc n) × (v ≡ iterate f i c)
    by (inl q) k = (0, omega arith, eqb-true v c q)
    by (inr q) k = let x = k q in (suc x.0, omega (arith, x.1), x.2 ∙ iterate_shift f c x.0)

pub at_orbit : (f : ℕ → ℕ) (n i c : ℕ) → i < n → member (iterate f i c) (orbit f n c) ≡ true
at_orbit f n i c l =
    subst (λ (x : ℕ). member x (orbit f n c) ≡ true) (get_d_orbit f n c i l)
    (at_member (orbit f n c) i (omega (arith, length_orbit f n c)))

-- ---- a walk along a ring

module _ (f : ℕ → ℕ) (n start : ℕ) (r : Ring f n start) where
  pub walk_orbit : (m d i : ℕ) (used : List ℕ) → i + suc d ≡ r.steps → suc d ≤ m
      → ((j : ℕ) → i ≤ j → j < r.steps → member (iterate f j start) used ≡ false)
      → walk f start m (iterate f i start) used ≡ closed (orbit f (suc d) (iterate f i start))
  unfolding walk iterate orbit member
  walk_orbit zero d i used e l h = absurd (not-suc-le-zero l)
  walk_orbit (suc m) zero i used e l h =
      let last : suc i ≡ r.steps = omega arith in
      let x : f (iterate f i start) ≡ start = ap (λ (k : ℕ). iterate f k start) last ∙ r.returns in
      let y = eq-eqb (f (iterate f i start)) start x in
      rw y
  walk_orbit (suc m) (suc d) i used e l h =
      let y : eqb (f (iterate f i start)) start ≡ false = ne_eqb _ _ (λ q. r.once 0 (suc i) (omega arith) (omega arith) (sym q)) in
      let z : eqb (f (iterate f i start)) (iterate f i start) ≡ false = ne_eqb _ _ (λ q. r.once i (suc i) (omega arith) (omega arith) (sym q)) in
      let u : member (f (iterate f i start)) used ≡ false = h (suc i) (omega arith) (omega arith) in
      let ih = walk_orbit m d (suc i) (iterate f i start ∷ used) (omega arith) (omega arith)
      (λ j lo hi. or_none _ _ (ne_eqb _ _ (λ q. r.once i j (omega arith) hi (sym q))) (h j (omega arith) hi)) in
      rw (y, z, u, ih)

  -- a walk that meets nothing used goes round the ring: refusal 16 does not arise
  pub walk_closes : (used : List ℕ) → ((j : ℕ) → j < r.steps → member (iterate f j start) used ≡ false)
      → walk f start n start used ≡ closed (orbit f r.steps start)
  unfolding iterate
  walk_closes used h =
      walk_orbit n (r.steps - 1) 0 used (omega (arith, r.some_step)) (omega (arith, r.some_step, r.few)) (λ j lo hi. h j hi)
      ∙ ap (λ (k : ℕ). closed (orbit f k start)) (omega (arith, r.some_step))

  -- the successor of a place of the ring is a place of the ring
  pub next_in_lem : (i : ℕ) → i < r.steps → member (f (iterate f i start)) (orbit f r.steps start) ≡ true
  next_in_lem i l = by (ℕ_discrete (suc i) r.steps)
    where
      by : Dec (suc i ≡ r.steps) → member (f (iterate f i start)) (orbit f r.steps start) ≡ true
      by (yes e) =
          let back : f (iterate f i start) ≡ start = unfold iterate in (ap (λ (k : ℕ). iterate f k start) e ∙ r.returns) in
          rw back (unfold iterate in (at_orbit f r.steps 0 start r.some_step))
      by (no e) = unfold iterate in (at_orbit f r.steps (suc i) start (omega arith))

  -- a ring none of whose places is among the names adds no repeats
  pub distinct_orbit : (d i : ℕ) (l : List ℕ) → i + d ≡ r.steps → Distinct l → ((j : ℕ) → i ≤ j → j < r.steps → member (iterate f j start) l ≡ false)
      → Distinct (l ++ orbit f d (iterate f i start))
  unfolding orbit
  distinct_orbit zero i l e o h = subst (λ (k : List ℕ). Distinct k) (sym (append-nil l)) o
  distinct_orbit (suc d) i l e o h =
      let x = iterate f i start in
      let next : f x ≡ iterate f (suc i) start = unfold iterate in refl in
      subst (λ (k : List ℕ). Distinct k) (append_snoc l x (orbit f d (f x)))
      (subst (λ (y : ℕ). Distinct ((l ++ (x ∷ [])) ++ orbit f d y)) (sym next)
      (distinct_orbit d (suc i) (l ++ (x ∷ [])) (omega arith) (distinct_snoc l x (h i (omega arith) (omega arith)) o)
      (λ j lo hi. other j lo hi (h j (omega arith) hi))))
    where
      other : (j : ℕ) → suc i ≤ j → j < r.steps → member (iterate f j start) l ≡ false → member (iterate f j start) (l ++ (iterate f i start ∷ [])) ≡ false
      other j lo hi q =
          member_join (iterate f j start) l (iterate f i start ∷ [])
          ∙ or_none _ _ q (member_one _ _ ∙ ne_eqb _ _ (λ z. r.once i j (omega arith) hi (sym z)))

  pub distinct_ring : (l : List ℕ) → Distinct l → ((j : ℕ) → j < r.steps → member (iterate f j start) l ≡ false) → Distinct (l ++ orbit f r.steps start)
  unfolding iterate
  distinct_ring l o h = distinct_orbit r.steps 0 l (omega arith) o (λ j lo hi. h j hi)

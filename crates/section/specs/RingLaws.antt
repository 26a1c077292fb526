-- A function that maps a finite set into itself and is injective on it leads every member round a ring.
use Prim.Native.Nat.{ℕ, zero, suc, ◌+◌, ◌-◌, ◌≤◌, ◌<◌, min}
use Rattle.std.specs.Prelude.{◌≡◌, ◌⊎◌}
use Rattle.std.proofs.Common.{sym, ap, ◌∙◌, subst, inl, inr, ⊎_elim, arith, not-suc-le-zero}
use Rattle.std.proofs.Math.Decide.{ℕ_discrete, dec_lt}
use Rattle.std.proofs.Math.Nat.{zero-add, suc-add}
use Rattle.section.specs.Rings.{iterate, Ring}

-- an i below n at which g is v, or none
data Hit (g : ℕ → ℕ) (n v : ℕ) : Type 0 where
  hit : (i : ℕ) → i < n → g i ≡ v → Hit g n v
  miss : ((i : ℕ) → i < n → g i ≡ v → ⊥) → Hit g n v

look_for : (g : ℕ → ℕ) (n v : ℕ) → Hit g n v
look_for g zero v = miss (λ i h e. not-suc-le-zero h)
look_for g (suc n) v = more (look_for g n v) (ℕ_discrete (g n) v)
  where
    more : Hit g n v → Dec (g n ≡ v) → Hit g (suc n) v
    more (hit i h e) d = hit i (omega arith) e
    more (miss no_one) (yes e) = hit n (omega arith) e
    more (miss no_one) (no ne) = miss (λ i h e. at i h e (ℕ_discrete i n))
      where
        at : (i : ℕ) → i < suc n → g i ≡ v → Dec (i ≡ n) → ⊥
        at i h e (yes q) = ne (subst (λ (j : ℕ). g j ≡ v) q e)
        at i h e (no q) = no_one i (omega arith) e

pub record Repeat (g : ℕ → ℕ) (n : ℕ) : Type 0 where
  pub first : ℕ
  pub second : ℕ
  pub order : first < second
  pub bound : second ≤ n
  pub equal : g first ≡ g second

-- the numbers without v, closed up: those above v move down by one
squeeze : ℕ → ℕ → ℕ
squeeze v x = x - min 1 (x - v)

squeeze_lt : (n v x : ℕ) → v < suc n → x < suc n → (x ≡ v → ⊥) → squeeze v x < n
unfolding squeeze
squeeze_lt n v x hv hx ne = omega arith

squeeze_cases : (v x : ℕ) → (x ≡ v → ⊥) → ((x < v) × (squeeze v x ≡ x)) ⊎ ((v < x) × (suc (squeeze v x) ≡ x))
unfolding squeeze
squeeze_cases v x ne = by (dec_lt x v)
  where
    by : Dec (x < v) → ((x < v) × (squeeze v x ≡ x)) ⊎ ((v < x) × (suc (squeeze v x) ≡ x))
    by (yes l) = inl (l, omega arith)
    by (no l) = inr (omega arith, omega arith)

squeeze_inj : (v x y : ℕ) → (x ≡ v → ⊥) → (y ≡ v → ⊥) → squeeze v x ≡ squeeze v y → x ≡ y
squeeze_inj v x y nx ny e =
    ⊎_elim
    (λ p. ⊎_elim (λ q. omega arith) (λ q. omega arith) (squeeze_cases v y ny))
    (λ p. ⊎_elim (λ q. omega arith) (λ q. omega arith) (squeeze_cases v y ny))
    (squeeze_cases v x nx)

-- n + 1 numbers below n: two are equal
pub pigeonhole : (n : ℕ) (g : ℕ → ℕ) → ((i : ℕ) → i ≤ n → g i < n) → Repeat g n
pigeonhole zero g h = absurd (not-suc-le-zero (h 0 (omega arith)))
pigeonhole (suc n) g h = split (look_for g (suc n) (g (suc n)))
    (λ free. pigeonhole n (λ i. squeeze (g (suc n)) (g i))
    (λ i l. squeeze_lt n (g (suc n)) (g i) (h (suc n) (omega arith)) (h i (omega arith)) (free i (omega arith))))
  where
    free_of : Type 0
    free_of = (i : ℕ) → i < suc n → g i ≡ g (suc n) → ⊥

    lift : free_of → Repeat (λ i. squeeze (g (suc n)) (g i)) n → Repeat g (suc n)
    lift free r = record {
      first = r.first;
      second = r.second;
      order = r.order;
      bound = omega (arith, r.bound);
      equal = squeeze_inj (g (suc n)) (g r.first) (g r.second) (free r.first (omega (arith, r.order, r.bound)))
          (free r.second (omega (arith, r.bound))) r.equal;
    }

    split : Hit g (suc n) (g (suc n)) → (free_of → Repeat (λ i. squeeze (g (suc n)) (g i)) n) → Repeat g (suc n)
    split (hit i l e) k = record { first = i; second = suc n; order = l; bound = omega arith; equal = e }
    split (miss free) k = lift free (k free)

-- the least number below n that has the property, or none
data Least (P : ℕ → Type 0) (n : ℕ) : Type 0 where
  least : (i : ℕ) → i < n → P i → ((j : ℕ) → j < i → P j → ⊥) → Least P n
  never : ((j : ℕ) → j < n → P j → ⊥) → Least P n

look_least : (P : ℕ → Type 0) → ((i : ℕ) → Dec (P i)) → (n : ℕ) → Least P n
look_least P d zero = never (λ j h p. not-suc-le-zero h)
look_least P d (suc n) = more (look_least P d n) (d n)
  where
    more : Least P n → Dec (P n) → Least P (suc n)
    more (least i h p below) d = least i (omega arith) p below
    more (never none) (yes p) = least n (omega arith) p none
    more (never none) (no np) = never (λ j h p. at j h p (ℕ_discrete j n))
      where
        at : (j : ℕ) → j < suc n → P j → Dec (j ≡ n) → ⊥
        at j h p (yes q) = np (subst P q p)
        at j h p (no q) = none j (omega arith) p

module _ (f : ℕ → ℕ) (n : ℕ) (In : ℕ → Type 0) (below : (c : ℕ) → In c → c < n) (stays : (c : ℕ) → In c → In (f c))
    (injective : (c d : ℕ) → In c → In d → f c ≡ f d → c ≡ d) where
  pub iterate_in : (k c : ℕ) → In c → In (iterate f k c)
  unfolding iterate
  iterate_in zero c h = h
  iterate_in (suc k) c h = stays (iterate f k c) (iterate_in k c h)

  -- equal places stay equal when both are walked back
  walk_back : (i k c : ℕ) → In c → iterate f i c ≡ iterate f (i + k) c → c ≡ iterate f k c
  unfolding iterate
  walk_back zero k c h e = rw zero-add at e
  walk_back (suc i) k c h e =
      walk_back i k c h
      (injective (iterate f i c) (iterate f (i + k) c) (iterate_in i c h) (iterate_in (i + k) c h) (rw suc-add at e))

  pub ring_of_lem : (c : ℕ) → In c → Ring f n c
  ring_of_lem c h = found (look_least Back (λ k. ℕ_discrete (iterate f (suc k) c) c) n)
    where
      Back : ℕ → Type 0
      Back k = iterate f (suc k) c ≡ c

      back_of : (i j : ℕ) → i < j → iterate f i c ≡ iterate f j c → Back (j - i - 1)
      back_of i j l e = sym (walk_back i (suc (j - i - 1)) c h (e ∙ ap (λ (m : ℕ). iterate f m c) (omega arith)))

      some_back : Repeat (λ i. iterate f i c) n → (k : ℕ) × (k < n) × Back k
      some_back r = (r.second - r.first - 1, omega (arith, r.order, r.bound), back_of r.first r.second r.order r.equal)

      found : Least Back n → Ring f n c
      found (least k l b before) = record {
        steps = suc k;
        some_step = omega arith;
        few = l;
        returns = b;
        once = λ i j lo hi e. before (j - i - 1) (omega arith) (back_of i j lo e);
      }
      found (never none) = let s = some_back (pigeonhole n (λ i. iterate f i c) (λ i l. below (iterate f i c) (iterate_in i c h))) in
          absurd (none s.0 s.1 s.2)

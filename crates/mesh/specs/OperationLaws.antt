-- What holds of every operation: it refuses exactly if a listed condition holds, the first in order, at its
-- least place; it gives its values exactly if none does (RESULT-4); and the outcome that its contract allows
-- is the only one (WRONG-1). Below them the laws by which a function that runs tests in order meets a verdict.
use Rattle.std.specs.Prelude.{ℕ, ◌≤◌, ◌<◌, ◌≡◌, Bool, ◌↔◌, replicate}
use Rattle.std.proofs.Math.Path.{refl, sym, ap, subst}
use Rattle.std.proofs.Common.{◌∙◌, arith, lt-ltb, le-ltb}
use Rattle.std.proofs.Math.Bool.{true, false, cond}
use mathlib.Core.List.{List, [], ◌∷◌, ◌++◌}
use Rattle.laws.specs.Least.{least, some}
use Rattle.laws.specs.LeastLaws.{least_before, least_is, least_none, some_at, some_none}
use Rattle.laws.specs.Tables.{overwrite}
pub use Rattle.mesh.specs.Operation.{Nowhere}
use Rattle.mesh.specs.Operation.{Answer, gives, refuses, Finding, fine, Condition, whole, test, ◌then◌, verdict, after, Operation, Does}

-- ---- what it is that a condition, or a list of them, fits

-- a refusal is the first of the list that fits, at the least place that fits it
pub data First {R : Type 0} : List (Condition R) → R → Type 0 where
  here : {k : Condition R} {ks : List (Condition R)} (i : ℕ) → i < k.places → k.fits i ≡ true → ((j : ℕ) → j < i → k.fits j ≡ false)
      → First (k ∷ ks) (k.tells i)
  later : {k : Condition R} {ks : List (Condition R)} {r : R} → Nowhere k → First ks r → First (k ∷ ks) r

-- no condition of the list fits anywhere
pub data None {R : Type 0} : List (Condition R) → Type 0 where
  done : None []
  more : {k : Condition R} {ks : List (Condition R)} → Nowhere k → None ks → None (k ∷ ks)

module _ {R : Type 0} where
  -- ---- one condition

  pub apart : {A G : Type 0} {r : R} {v : G} → refuses r ≡ gives v → A
  apart e = absurd (let z : ◌≡◌ {A = ℕ} 0 1 = cc in omega arith)

  pub same_refusal : {G : Type 0} {r q : R} → ◌≡◌ {A = Answer R G} (refuses r) (refuses q) → r ≡ q
  same_refusal e = cc

  pub same_values : {G : Type 0} {v w : G} → ◌≡◌ {A = Answer R G} (gives v) (gives w) → v ≡ w
  same_values e = cc

  -- what a search that ended at i answers
  pub test_refused : (k : Condition R) (i : ℕ) → i ≡ least k.places k.fits → i < k.places → refuses (k.tells i) ≡ test k
  unfolding test some
  test_refused k i e h =
      ap (λ (j : ℕ). refuses (k.tells j)) e
      ∙ ap (λ (b : Bool). cond b (refuses (k.tells (least k.places k.fits))) fine) (sym (lt-ltb (least k.places k.fits) k.places (omega arith)))

  pub test_fine : (k : Condition R) (i : ℕ) → i ≡ least k.places k.fits → k.places ≤ i → fine ≡ test k
  unfolding test some
  test_fine k i e h =
      ap (λ (b : Bool). cond b (refuses (k.tells (least k.places k.fits))) fine) (sym (le-ltb (least k.places k.fits) k.places (omega arith)))

  pub whole_refused : (tells : ℕ → R) (b : Bool) → b ≡ true → refuses (tells 0) ≡ test (whole tells b)
  whole_refused tells b e = test_refused (whole tells b) 0 (sym (least_is 1 (λ i. b) 0 (omega arith) e (λ k l. absurd (omega arith)))) (omega arith)

  pub whole_fine : (tells : ℕ → R) (b : Bool) → b ≡ false → fine ≡ test (whole tells b)
  whole_fine tells b e = test_fine (whole tells b) 1 (sym (least_none 1 (λ i. b) (λ i l. e))) (omega arith)

  pub nowhere_fine : (k : Condition R) → Nowhere k → fine ≡ test k
  nowhere_fine k h = test_fine k k.places (sym (least_none k.places k.fits h)) (omega arith)

  pub fine_nowhere : (k : Condition R) → test k ≡ fine → Nowhere k
  unfolding test
  fine_nowhere k e = some_none k.places k.fits (by (some k.places k.fits) e)
    where
      by : (b : Bool) → cond b (refuses (k.tells (least k.places k.fits))) fine ≡ fine → b ≡ false
      by true q = apart q
      by false q = refl

  -- a refusal by one condition has its place
  pub record Fits (k : Condition R) (r : R) : Type 0 where
    pub at : ℕ
    pub below : at < k.places
    pub fit : k.fits at ≡ true
    pub least_one : (j : ℕ) → j < at → k.fits j ≡ false
    pub is : k.tells at ≡ r

  pub refused_fits : (k : Condition R) (r : R) → test k ≡ refuses r → Fits k r
  unfolding test
  refused_fits k r e = by (some k.places k.fits) refl e
    where
      by : (b : Bool) → some k.places k.fits ≡ b → cond b (refuses (k.tells (least k.places k.fits))) fine ≡ refuses r → Fits k r
      by true p q =
          let s = some_at k.places k.fits p in
          record { at = least k.places k.fits; below = s.0; fit = s.1; least_one = least_before k.places k.fits; is = same_refusal q }
      by false p q = apart (sym q)

  pub fits_refused : (k : Condition R) (i : ℕ) → i < k.places → k.fits i ≡ true → ((j : ℕ) → j < i → k.fits j ≡ false) → refuses (k.tells i) ≡ test k
  fits_refused k i l e f = test_refused k i (sym (least_is k.places k.fits i l e f)) l

  -- ---- tests in order

  -- one found a refusal, or the rest decides
  pub then_refused : {G : Type 0} {f : Finding R} {r : R} (a : Answer R G) → f ≡ refuses r → refuses r ≡ (f then a)
  unfolding ◌then◌
  then_refused a e = ap (λ (g : Finding R). g then a) (sym e)

  pub then_fine : {G : Type 0} {f : Finding R} {a : Answer R G} → f ≡ fine → a ≡ (f then a)
  unfolding ◌then◌
  then_fine {G} {f} {a} e = ap (λ (g : Finding R). g then a) (sym e)

  pub verdict_join : (ks ls : List (Condition R)) → verdict (ks ++ ls) ≡ (verdict ks then verdict ls)
  unfolding verdict ◌then◌
  verdict_join [] ls = refl
  verdict_join (k ∷ ks) ls = ap (λ (v : Finding R). test k then v) (verdict_join ks ls) ∙ assoc (test k)
    where
      assoc : (v : Finding R) → (v then (verdict ks then verdict ls)) ≡ ((v then verdict ks) then verdict ls)
      assoc (gives _) = refl
      assoc (refuses r) = refl

  pub verdict_one : (k : Condition R) → test k ≡ verdict (k ∷ [])
  unfolding verdict ◌then◌
  verdict_one k = by (test k)
    where
      by : (v : Finding R) → v ≡ (v then fine)
      by (gives tt) = refl
      by (refuses r) = refl

  -- what the code knows after the first test of a list
  module _ (k : Condition R) (ks : List (Condition R)) {f : Finding R} (e : f ≡ test k) where
    pub verdict_stop : {r : R} → f ≡ refuses r → f ≡ verdict (k ∷ ks)
    unfolding verdict
    verdict_stop h = h ∙ then_refused _ h ∙ ap (λ (u : Finding R). u then verdict ks) e

    pub verdict_next : {g : Finding R} → f ≡ fine → g ≡ verdict ks → g ≡ verdict (k ∷ ks)
    unfolding verdict
    verdict_next h q = q ∙ then_fine h ∙ ap (λ (u : Finding R). u then verdict ks) e

  -- the same after the first tests of a list
  module _ (ks ls : List (Condition R)) {f : Finding R} (e : f ≡ verdict ks) where
    pub join_stop : {r : R} → f ≡ refuses r → f ≡ verdict (ks ++ ls)
    join_stop h = h ∙ then_refused _ h ∙ ap (λ (u : Finding R). u then verdict ls) e ∙ sym (verdict_join ks ls)

    pub join_next : {g : Finding R} → f ≡ fine → g ≡ verdict ls → g ≡ verdict (ks ++ ls)
    join_next h q = q ∙ then_fine h ∙ ap (λ (u : Finding R). u then verdict ls) e ∙ sym (verdict_join ks ls)

  -- where a list refuses nothing its beginning does not
  pub join_fine : (ks ls : List (Condition R)) → verdict (ks ++ ls) ≡ fine → verdict ks ≡ fine
  unfolding ◌then◌
  join_fine ks ls e = by (verdict ks) (sym (verdict_join ks ls) ∙ e)
    where
      by : (v : Finding R) → (v then verdict ls) ≡ fine → v ≡ fine
      by (gives tt) q = refl
      by (refuses r) q = q

  -- ---- a verdict: refused exactly if a listed condition holds

  pub first_refused : (ks : List (Condition R)) (r : R) → First ks r → verdict ks ≡ refuses r
  unfolding verdict ◌then◌
  first_refused ks r (here {k = k} {ks = ls} i l e f) = ap (λ (v : Finding R). v then verdict ls) (sym (fits_refused k i l e f))
  first_refused ks r (later {k = k} {ks = ls} h rest) = ap (λ (v : Finding R). v then verdict ls) (sym (nowhere_fine k h)) ∙ first_refused ls r rest

  pub refused_first : (ks : List (Condition R)) (r : R) → verdict ks ≡ refuses r → First ks r
  unfolding verdict ◌then◌
  refused_first [] r e = apart (sym e)
  refused_first (k ∷ ks) r e = by (test k) refl e (refused_first ks r)
    where
      by : (v : Finding R) → test k ≡ v → (v then verdict ks) ≡ refuses r → (verdict ks ≡ refuses r → First ks r) → First (k ∷ ks) r
      by (gives tt) p q rest = later (fine_nowhere k p) (rest q)
      by (refuses s) p q rest =
          let f = refused_fits k s p in
          subst (First (k ∷ ks)) (f.is ∙ same_refusal q) (here f.at f.below f.fit f.least_one)

  pub none_fine : (ks : List (Condition R)) → None ks → verdict ks ≡ fine
  unfolding verdict ◌then◌
  none_fine ks done = refl
  none_fine ks (more {k = k} {ks = ls} h rest) = ap (λ (v : Finding R). v then verdict ls) (sym (nowhere_fine k h)) ∙ none_fine ls rest

  pub fine_none : (ks : List (Condition R)) → verdict ks ≡ fine → None ks
  unfolding verdict ◌then◌
  fine_none [] e = done
  fine_none (k ∷ ks) e = by (test k) refl e (fine_none ks)
    where
      by : (v : Finding R) → test k ≡ v → (v then verdict ks) ≡ fine → (verdict ks ≡ fine → None ks) → None (k ∷ ks)
      by (gives tt) p q rest = more (fine_nowhere k p) (rest q)
      by (refuses s) p q rest = apart q

  -- what holds of every refusal of the list holds of the one that is answered
  abbrev pub Every : (R → Type 0) → List (Condition R) → Type 0
  Every P [] = Unit {0}
  Every P (k ∷ ks) = ((i : ℕ) → P (k.tells i)) × Every P ks

  first_every : (P : R → Type 0) (ks : List (Condition R)) (r : R) → Every P ks → First ks r → P r
  first_every P ks r every (here i l e f) = every.0 i
  first_every P ks r every (later {ks = ls} h rest) = first_every P ls r every.1 rest

  pub refused_every : (P : R → Type 0) (ks : List (Condition R)) (r : R) → Every P ks → verdict ks ≡ refuses r → P r
  refused_every P ks r every e = first_every P ks r every (refused_first ks r e)

  -- ---- a lent table

  module _ {A : Type 0} (clears : R → Bool) (filled : List A) (n : ℕ) (zero : A) (table : List A) where
    pub after_fine : overwrite filled table ≡ after clears fine filled n zero table
    unfolding after
    after_fine = refl

    pub after_kept : (r : R) → clears r ≡ false → table ≡ after clears (refuses r) filled n zero table
    unfolding after
    after_kept r h = ap (λ (b : Bool). cond b (overwrite (replicate n zero) table) table) (sym h)

    pub after_cleared : (r : R) → clears r ≡ true → overwrite (replicate n zero) table ≡ after clears (refuses r) filled n zero table
    unfolding after
    after_cleared r h = ap (λ (b : Bool). cond b (overwrite (replicate n zero) table) table) (sym h)

-- ---- every operation

-- the cases of an enum of answers can be had back from what they tell
pub record Recovers {E R G : Type 0} (tell : E → Answer R G) : Type 0 where
  pub back : Answer R G → E
  pub once : (e : E) → back (tell e) ≡ e

pub recovered : {E R G : Type 0} {tell : E → Answer R G} → Recovers tell → {a b : E} → tell a ≡ tell b → a ≡ b
recovered k {a} {b} e = sym (k.once a) ∙ ap k.back e ∙ k.once b

module _ {I E R G T : Type 0} {op : I → Operation R G T} {tell : E → Answer R G} {input : I} where
  -- the returns of a function that has tested all: a refusal, or values
  module _ {f : Finding R} (e : f ≡ verdict (op input).refusals) {result : E} {t : T} where
    pub does_refuse : {r : R} → f ≡ refuses r → tell result ≡ refuses r → t ≡ (op input).leaves (refuses r) → Does op tell input result t
    does_refuse h a l = record { answers = a ∙ then_refused _ (sym e ∙ h); leaves = l ∙ ap (op input).leaves (sym h ∙ e) }

    pub does_give : f ≡ fine → tell result ≡ gives (op input).values → t ≡ (op input).leaves fine → Does op tell input result t
    does_give h a l = record { answers = a ∙ then_fine (sym e ∙ h); leaves = l ∙ ap (op input).leaves (sym h ∙ e) }

  -- what another operation, whose last tests are these, does
  pub does_last : {J : Type 0} {whole : J → Operation R G T} {j : J} {result : E} {t : T} → Does op tell input result t
      → verdict (op input).refusals ≡ verdict (whole j).refusals
      → (op input).values ≡ (whole j).values → (op input).leaves ≡ (whole j).leaves → Does whole tell j result t
  does_last d v g l = record { answers = d.answers ∙ (λ i. v i then gives (g i)); leaves = d.leaves ∙ (λ i. l i (v i)) }

  module _ {result : E} {t : T} (d : Does op tell input result t) where
    -- a refusal, and values, by the verdict
    pub refused_verdict : {r : R} → tell result ≡ refuses r → verdict (op input).refusals ≡ refuses r
    unfolding ◌then◌
    refused_verdict {r} e = by (verdict (op input).refusals) (sym d.answers ∙ e)
      where
        by : (f : Finding R) → (f then gives (op input).values) ≡ refuses r → f ≡ refuses r
        by (gives tt) q = apart (sym q)
        by (refuses s) q = ap refuses (same_refusal q)

    pub given_verdict : {g : G} → tell result ≡ gives g → (verdict (op input).refusals ≡ fine) × (g ≡ (op input).values)
    unfolding ◌then◌
    given_verdict {g} e = by (verdict (op input).refusals) (sym d.answers ∙ e)
      where
        by : (f : Finding R) → (f then gives (op input).values) ≡ gives g → (f ≡ fine) × (g ≡ (op input).values)
        by (gives tt) q = (refl, sym (same_values q))
        by (refuses s) q = apart q

    -- refused exactly if a listed condition holds, the first in order, at its least place
    pub refused_exactly : (r : R) → (tell result ≡ refuses r) ↔ First (op input).refusals r
    refused_exactly r = (
      (λ e. refused_first (op input).refusals r (refused_verdict e)),
      (λ f. d.answers ∙ sym (then_refused _ (first_refused (op input).refusals r f))),
    )

    -- given exactly if none holds
    pub given_exactly : (tell result ≡ gives (op input).values) ↔ None (op input).refusals
    given_exactly = (
      (λ e. fine_none (op input).refusals (given_verdict e).0),
      (λ n. d.answers ∙ sym (then_fine (none_fine (op input).refusals n))),
    )

    -- what it left
    pub left_given : {g : G} → tell result ≡ gives g → t ≡ (op input).leaves fine
    left_given e = d.leaves ∙ ap (op input).leaves (given_verdict e).0

    pub left_refused : {r : R} → tell result ≡ refuses r → t ≡ (op input).leaves (refuses r)
    left_refused e = d.leaves ∙ ap (op input).leaves (refused_verdict e)

  -- the only outcome: two that the contract allows for one input are equal, the answer's case and every table
  pub only_outcome : Recovers tell → {a b : E} {t u : T} → Does op tell input a t → Does op tell input b u → (a ≡ b) × (t ≡ u)
  only_outcome k p q = (recovered k (p.answers ∙ sym q.answers), p.leaves ∙ sym q.leaves)

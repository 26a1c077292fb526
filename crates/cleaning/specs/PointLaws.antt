-- Laws of equal points, and of each step of cleaning at one point.
use Rattle.std.specs.Prelude.{◌≡◌, Bool, true, false, ◌⊎◌, ℕ, ℤ, pos, negsuc}
use Rattle.std.proofs.Math.Path.{refl, ap}
use Rattle.std.proofs.Common.{sym, ◌∙◌, inl, inr, arith, eqb-true}
use Rattle.std.proofs.Math.Bool.{cond}
use mathlib.Core.List.{List, [], ◌∷◌}
use Rattle.laws.specs.Booleans.{clash, is_false, and_parts, and_of}
use Rattle.laws.specs.Integers.{eq_z, eq_z_refl}
use Rattle.polygons.specs.Flat.{Point}
use Rattle.cleaning.specs.Cleaning.{same_point, unrepeated, trimmed, kept_before}

eq_z_true : (a b : ℤ) → eq_z a b ≡ true → a ≡ b
eq_z_true (pos a) (pos b) e = ap pos (eqb-true a b e)
eq_z_true (pos a) (negsuc b) e = absurd (clash e refl)
eq_z_true (negsuc a) (pos b) e = absurd (clash e refl)
eq_z_true (negsuc a) (negsuc b) e = ap negsuc (eqb-true a b e)

pub same_refl : (p : Point) → same_point p p ≡ true
unfolding same_point
same_refl p = and_of (eq_z_refl p.x) (eq_z_refl p.y)

pub same_is : (p q : Point) → same_point p q ≡ true → p ≡ q
unfolding same_point
same_is p q e =
    let h = and_parts (eq_z p.x q.x) (eq_z p.y q.y) e in
    λ i. record { x = eq_z_true p.x q.x h.0 i; y = eq_z_true p.y q.y h.1 i }

pub same_eq : {p q : Point} → p ≡ q → same_point p q ≡ true
same_eq {p} {q} e = ap (same_point p) (sym e) ∙ same_refl p

-- points that differ, either way round
pub same_turned : (p q : Point) → same_point p q ≡ false → same_point q p ≡ false
same_turned p q e = is_false (same_point q p) (λ t. clash (same_eq (sym (same_is q p t))) e)

-- a test is true or false, with what it says
pub decide : (b : Bool) → (b ≡ true) ⊎ (b ≡ false)
decide true = inl refl
decide false = inr refl

-- ---- a point that is not the first

pub cons_apart : {A : Type 0} {a : A} {l : List A} → a ∷ l ≡ [] → ⊥
cons_apart e = let z : ◌≡◌ {A = ℕ} 0 1 = cc in omega arith

module _ (p q : Point) (c : List Point) where
  -- it equals the one before it, or not
  pub unrepeated_same : same_point p q ≡ true → unrepeated p (q ∷ c) ≡ unrepeated p c
  unfolding unrepeated
  unrepeated_same e = ap (λ (b : Bool). cond b (unrepeated p c) (q ∷ unrepeated q c)) e

  pub unrepeated_new : same_point p q ≡ false → unrepeated p (q ∷ c) ≡ q ∷ unrepeated q c
  unfolding unrepeated
  unrepeated_new e = ap (λ (b : Bool). cond b (unrepeated p c) (q ∷ unrepeated q c)) e

  -- it goes from the end, or stays
  pub data Trims : Type 0 where
    goes : trimmed p c ≡ [] → same_point p q ≡ true → trimmed p (q ∷ c) ≡ [] → Trims
    stays : (same_point p q ≡ true → trimmed p c ≡ [] → ⊥) → trimmed p (q ∷ c) ≡ q ∷ trimmed p c → Trims

  pub trims : Trims
  unfolding trimmed
  trims = by (trimmed p c) refl (decide (same_point p q))
    where
      by : (t : List Point) → trimmed p c ≡ t → (same_point p q ≡ true) ⊎ (same_point p q ≡ false) → Trims
      by [] e (inl s) = goes e s (ap (kept_before p q) e ∙ ap (λ (b : Bool). cond b [] (q ∷ [])) s)
      by [] e (inr s) = stays (λ t n. clash t s) (ap (kept_before p q) e ∙ ap (λ (b : Bool). cond b [] (q ∷ [])) s ∙ ap (λ (d : List Point). q ∷ d) (sym e))
      by (r ∷ d) e s = stays (λ t n. cons_apart (sym e ∙ n)) (ap (kept_before p q) e ∙ ap (λ (d : List Point). q ∷ d) (sym e))

-- Identities of a commutative ring over ℤ, decided: `ring ρ e f tt` proves  eval ρ e ≡ eval ρ f  where the polynomial of e - f, computed, has no term left.
-- An expression is written with  x 0, x 1, ..  for the integers of the list ρ, and  ⊕ ⊖ ⊗ ⊝ #  for the operations and a literal.
-- Assumes nothing.
use Rattle.std.specs.Prelude.{◌≡◌, refl, Bool, true, false, cond, ◌&&◌, List, [], ◌∷◌, ℕ, zero, suc, T, ltb, leb, eqb, ℤ, pos, negsuc, neg_ℤ, ◌+ℤ◌, ◌-ℤ◌, ◌*ℤ◌}
use Rattle.std.proofs.Common.{sym, ap, ◌∙◌, arith, eqb→eq}
use Rattle.std.proofs.Math.IntN.{+ℤ_idl, +ℤ_idr, +ℤ_assoc, zero-*ℤ, *ℤ_comm, neg_ℤ-+ℤ}
use Rattle.laws.specs.Integers.{diff, ext, eq_in, add_mul, mul_add, mul_assoc, mul_left_comm}
use Rattle.laws.specs.Integers.{add_left_comm, neg_mul, one_mul, mul_one}

infixl 6 ◌⊕◌ ◌⊖◌
infixl 7 ◌⊗◌
pub data Ex : Type 0 where
  x : ℕ → Ex
  # : ℤ → Ex
  ⊝ : Ex → Ex
  ◌⊕◌ ◌⊖◌ ◌⊗◌ : Ex → Ex → Ex

abbrev pub atom_at : List ℤ → ℕ → ℤ
atom_at [] n = pos 0
atom_at (a ∷ ρ) zero = a
atom_at (a ∷ ρ) (suc n) = atom_at ρ n

abbrev pub eval : List ℤ → Ex → ℤ
eval ρ (x n) = atom_at ρ n
eval ρ (# z) = z
eval ρ (⊝ a) = neg_ℤ (eval ρ a)
eval ρ (a ⊕ b) = eval ρ a +ℤ eval ρ b
eval ρ (a ⊖ b) = eval ρ a -ℤ eval ρ b
eval ρ (a ⊗ b) = eval ρ a *ℤ eval ρ b

-- a polynomial: terms, each a coefficient and the sorted list of its variables, sorted
pub data Poly : Type 0 where
  none : Poly
  term : ℤ → List ℕ → Poly → Poly

abbrev ins_v : ℕ → List ℕ → List ℕ
ins_v n [] = n ∷ []
ins_v n (k ∷ m) = cond (leb n k) (n ∷ k ∷ m) (k ∷ ins_v n m)

abbrev merge : List ℕ → List ℕ → List ℕ
merge [] m = m
merge (n ∷ l) m = ins_v n (merge l m)

abbrev eq_m : List ℕ → List ℕ → Bool
eq_m [] [] = true
eq_m [] (k ∷ m) = false
eq_m (n ∷ l) [] = false
eq_m (n ∷ l) (k ∷ m) = eqb n k && eq_m l m

abbrev lt_m : List ℕ → List ℕ → Bool
lt_m [] [] = false
lt_m [] (k ∷ m) = true
lt_m (n ∷ l) [] = false
lt_m (n ∷ l) (k ∷ m) = cond (eqb n k) (lt_m l m) (ltb n k)

abbrev ins_t : ℤ → List ℕ → Poly → Poly
ins_t c m none = term c m none
ins_t c m (term d l p) = cond (eq_m m l) (term (c +ℤ d) l p) (cond (lt_m m l) (term c m (term d l p)) (term d l (ins_t c m p)))

abbrev add_p : Poly → Poly → Poly
add_p none q = q
add_p (term c m p) q = ins_t c m (add_p p q)

-- c m p + q
abbrev mul_t : ℤ → List ℕ → Poly → Poly → Poly
mul_t c m none q = q
mul_t c m (term d l p) q = ins_t (c *ℤ d) (merge m l) (mul_t c m p q)

abbrev mul_p : Poly → Poly → Poly
mul_p none q = none
mul_p (term c m p) q = mul_t c m q (mul_p p q)

abbrev neg_p : Poly → Poly
neg_p none = none
neg_p (term c m p) = term (neg_ℤ c) m (neg_p p)

abbrev pub norm : Ex → Poly
norm (x n) = term (pos 1) (n ∷ []) none
norm (# z) = term z [] none
norm (⊝ a) = neg_p (norm a)
norm (a ⊕ b) = add_p (norm a) (norm b)
norm (a ⊖ b) = add_p (norm a) (neg_p (norm b))
norm (a ⊗ b) = mul_p (norm a) (norm b)

abbrev zero_z : ℤ → Bool
zero_z (pos zero) = true
zero_z (pos (suc n)) = false
zero_z (negsuc n) = false

abbrev pub zero_p : Poly → Bool
zero_p none = true
zero_p (term c m p) = zero_z c && zero_p p

-- ---- what a polynomial is worth
and_0 : (a b : Bool) → T (a && b) → T a
and_0 true b t = tt
and_0 false b t = t

and_1 : (a b : Bool) → T (a && b) → T b
and_1 true b t = t
and_1 false b t = absurd t

cond_ind {ℓ} : {X : Type ℓ} (c : Bool) (a b : X) (P : X → Type 0) → (T c → P a) → P b → P (cond c a b)
cond_ind true a b P f g = f tt
cond_ind false a b P f g = g

eq_m→ : (l m : List ℕ) → T (eq_m l m) → l ≡ m
eq_m→ [] [] t = refl
eq_m→ [] (k ∷ m) t = absurd t
eq_m→ (n ∷ l) [] t = absurd t
eq_m→ (n ∷ l) (k ∷ m) t = λ i. eqb→eq n k (and_0 (eqb n k) (eq_m l m) t) i ∷ eq_m→ l m (and_1 (eqb n k) (eq_m l m) t) i

module _ (ρ : List ℤ) where
  abbrev eval_m : List ℕ → ℤ
  eval_m [] = pos 1
  eval_m (n ∷ m) = atom_at ρ n *ℤ eval_m m

  abbrev eval_p : Poly → ℤ
  eval_p none = pos 0
  eval_p (term c m p) = c *ℤ eval_m m +ℤ eval_p p

  ins_v_is : (n : ℕ) (m : List ℕ) → eval_m (ins_v n m) ≡ atom_at ρ n *ℤ eval_m m
  ins_v_is n [] = refl
  ins_v_is n (k ∷ m) =
      cond_ind (leb n k) (n ∷ k ∷ m) (k ∷ ins_v n m) (λ l. eval_m l ≡ atom_at ρ n *ℤ (atom_at ρ k *ℤ eval_m m)) (λ t. refl)
      (ap (λ (z : ℤ). atom_at ρ k *ℤ z) (ins_v_is n m) ∙ mul_left_comm (atom_at ρ k) (atom_at ρ n) (eval_m m))

  merge_is : (l m : List ℕ) → eval_m (merge l m) ≡ eval_m l *ℤ eval_m m
  merge_is [] m = sym (one_mul (eval_m m))
  merge_is (n ∷ l) m = ins_v_is n (merge l m) ∙ ap (λ (z : ℤ). atom_at ρ n *ℤ z) (merge_is l m) ∙ sym (mul_assoc (atom_at ρ n) (eval_m l) (eval_m m))

  ins_t_is : (c : ℤ) (m : List ℕ) (p : Poly) → eval_p (ins_t c m p) ≡ c *ℤ eval_m m +ℤ eval_p p
  ins_t_is c m none = refl
  ins_t_is c m (term d l p) =
      cond_ind (eq_m m l) (term (c +ℤ d) l p) (cond (lt_m m l) (term c m (term d l p)) (term d l (ins_t c m p)))
      (λ q. eval_p q ≡ c *ℤ eval_m m +ℤ (d *ℤ eval_m l +ℤ eval_p p))
      (λ t. ap (λ (z : ℤ). z +ℤ eval_p p) (add_mul c d (eval_m l)) ∙ +ℤ_assoc (c *ℤ eval_m l) (d *ℤ eval_m l) (eval_p p)
      ∙ ap (λ (l' : List ℕ). c *ℤ eval_m l' +ℤ (d *ℤ eval_m l +ℤ eval_p p)) (sym (eq_m→ m l t)))
      (cond_ind (lt_m m l) (term c m (term d l p)) (term d l (ins_t c m p)) (λ q. eval_p q ≡ c *ℤ eval_m m +ℤ (d *ℤ eval_m l +ℤ eval_p p)) (λ t. refl)
      (ap (λ (z : ℤ). d *ℤ eval_m l +ℤ z) (ins_t_is c m p) ∙ add_left_comm (d *ℤ eval_m l) (c *ℤ eval_m m) (eval_p p)))

  add_p_is : (p q : Poly) → eval_p (add_p p q) ≡ eval_p p +ℤ eval_p q
  add_p_is none q = sym (+ℤ_idl (eval_p q))
  add_p_is (term c m p) q = ins_t_is c m (add_p p q) ∙ ap (λ (z : ℤ). c *ℤ eval_m m +ℤ z) (add_p_is p q) ∙ sym (+ℤ_assoc (c *ℤ eval_m m) (eval_p p) (eval_p q))

  mul_t_step : (c d m l p q : ℤ) → (c *ℤ d) *ℤ (m *ℤ l) +ℤ ((c *ℤ m) *ℤ p +ℤ q) ≡ (c *ℤ m) *ℤ (d *ℤ l +ℤ p) +ℤ q
  mul_t_step c d m l p q =
      ap (λ (z : ℤ). z +ℤ ((c *ℤ m) *ℤ p +ℤ q)) swap ∙ sym (+ℤ_assoc ((c *ℤ m) *ℤ (d *ℤ l)) ((c *ℤ m) *ℤ p) q)
      ∙ ap (λ (z : ℤ). z +ℤ q) (sym (mul_add (c *ℤ m) (d *ℤ l) p))
    where
      swap : (c *ℤ d) *ℤ (m *ℤ l) ≡ (c *ℤ m) *ℤ (d *ℤ l)
      swap = mul_assoc c d (m *ℤ l) ∙ ap (λ (z : ℤ). c *ℤ z) (mul_left_comm d m l) ∙ sym (mul_assoc c m (d *ℤ l))

  mul_t_is : (c : ℤ) (m : List ℕ) (p q : Poly) → eval_p (mul_t c m p q) ≡ (c *ℤ eval_m m) *ℤ eval_p p +ℤ eval_p q
  mul_t_is c m none q = sym (ap (λ (z : ℤ). z +ℤ eval_p q) (*ℤ_comm (c *ℤ eval_m m) (pos 0) ∙ zero-*ℤ (c *ℤ eval_m m)) ∙ +ℤ_idl (eval_p q))
  mul_t_is c m (term d l p) q =
      ins_t_is (c *ℤ d) (merge m l) (mul_t c m p q)
      ∙ (λ i. (c *ℤ d) *ℤ merge_is m l i +ℤ mul_t_is c m p q i)
      ∙ mul_t_step c d (eval_m m) (eval_m l) (eval_p p) (eval_p q)

  mul_p_is : (p q : Poly) → eval_p (mul_p p q) ≡ eval_p p *ℤ eval_p q
  mul_p_is none q = sym (zero-*ℤ (eval_p q))
  mul_p_is (term c m p) q =
      mul_t_is c m q (mul_p p q) ∙ ap (λ (z : ℤ). (c *ℤ eval_m m) *ℤ eval_p q +ℤ z) (mul_p_is p q) ∙ sym (add_mul (c *ℤ eval_m m) (eval_p p) (eval_p q))

  neg_p_is : (p : Poly) → eval_p (neg_p p) ≡ neg_ℤ (eval_p p)
  neg_p_is none = refl
  neg_p_is (term c m p) = (λ i. neg_mul c (eval_m m) i +ℤ neg_p_is p i) ∙ sym (neg_ℤ-+ℤ (c *ℤ eval_m m) (eval_p p))

  norm_is : (e : Ex) → eval_p (norm e) ≡ eval ρ e
  norm_is (x n) = +ℤ_idr _ ∙ one_mul _ ∙ mul_one _
  norm_is (# z) = +ℤ_idr _ ∙ mul_one z
  norm_is (⊝ a) = neg_p_is (norm a) ∙ ap neg_ℤ (norm_is a)
  norm_is (a ⊕ b) = add_p_is (norm a) (norm b) ∙ (λ i. norm_is a i +ℤ norm_is b i)
  norm_is (a ⊖ b) = add_p_is (norm a) (neg_p (norm b)) ∙ (λ i. norm_is a i +ℤ (neg_p_is (norm b) ∙ ap neg_ℤ (norm_is b)) i)
  norm_is (a ⊗ b) = mul_p_is (norm a) (norm b) ∙ (λ i. norm_is a i *ℤ norm_is b i)

  zero_z_is : (c : ℤ) → T (zero_z c) → c ≡ pos 0
  zero_z_is (pos zero) t = refl
  zero_z_is (pos (suc n)) t = absurd t
  zero_z_is (negsuc n) t = absurd t

  zero_p_is : (p : Poly) → T (zero_p p) → eval_p p ≡ pos 0
  zero_p_is none t = refl
  zero_p_is (term c m p) t =
      (λ i. zero_z_is c (and_0 (zero_z c) (zero_p p) t) i *ℤ eval_m m +ℤ zero_p_is p (and_1 (zero_z c) (zero_p p) t) i)
      ∙ +ℤ_idr _ ∙ zero-*ℤ (eval_m m)

  zero_diff : (a b : ℤ) → a -ℤ b ≡ pos 0 → a ≡ b
  zero_diff a b h = omega (arith, ext, eq_in, diff a b)

  pub ring : (e f : Ex) → T (zero_p (norm (e ⊖ f))) → eval ρ e ≡ eval ρ f
  ring e f t = zero_diff (eval ρ e) (eval ρ f) (sym (norm_is (e ⊖ f)) ∙ zero_p_is (norm (e ⊖ f)) t)

-- Tests of signed numbers: what they tell, and what decides them; sums in order.
use Rattle.std.specs.Prelude.{◌≡◌, Bool, true, false, not, T, ℤ, ◌+ℤ◌, ◌-ℤ◌, ◌≤ℤ◌, ◌<ℤ◌}
use Rattle.std.proofs.Common.{sym, ap, ◌∙◌, subst, arith}
use Rattle.std.proofs.lemmas.Bool.{not-true}
use Rattle.std.specs.Int.Signed.{le_z, lt_z, le_z_yes, lt_z_yes, lt_z_no}
use Rattle.laws.specs.Booleans.{from_T, same_test}
use Rattle.laws.specs.Integers.{up, dn, sum, diff, le_in, lt_in, le_out, lt_out, eq_in, lt_not_le}

-- ---- the order

module _ {a b : ℤ} where
  pub le_same : a ≡ b → a ≤ℤ b
  le_same e = le_out (omega (arith, eq_in e))

  pub le_weak : a <ℤ b → a ≤ℤ b
  le_weak h = le_out (omega (arith, lt_in h))

  pub le_via : {c : ℤ} → a ≤ℤ b → b ≤ℤ c → a ≤ℤ c
  le_via h k = le_out (omega (arith, le_in h, le_in k))

pub sums_le : (a b c d : ℤ) → a ≤ℤ b → c ≤ℤ d → (a +ℤ c) ≤ℤ (b +ℤ d)
sums_le a b c d h k = le_out (omega (arith, le_in h, le_in k, sum a c, sum b d))

pub sums_lt : (a b c d : ℤ) → a <ℤ b → c ≤ℤ d → (a +ℤ c) <ℤ (b +ℤ d)
sums_lt a b c d h k = lt_out (omega (arith, lt_in h, le_in k, sum a c, sum b d))

-- ---- its tests

module _ (a b : ℤ) where
  pub le_z_true : le_z a b ≡ true → a ≤ℤ b
  le_z_true e = le_z_yes (subst T (sym e) tt)

  pub lt_z_true : lt_z a b ≡ true → a <ℤ b
  lt_z_true e = lt_z_yes (subst T (sym e) tt)

  pub lt_z_false : lt_z a b ≡ false → b ≤ℤ a
  lt_z_false e = lt_z_no (subst (λ (t : Bool). T (not t)) (sym e) tt)

  pub le_z_of : a ≤ℤ b → le_z a b ≡ true
  le_z_of h = from_T (le_z a b) h.le

  pub lt_z_of : a <ℤ b → lt_z a b ≡ true
  lt_z_of h = from_T (lt_z a b) h.lt

module _ (a b : ℤ) where
  pub le_z_false : le_z a b ≡ false → b <ℤ a
  le_z_false e = lt_z_true b a (lt_not_le b a ∙ ap not e)

  pub lt_z_not : b ≤ℤ a → lt_z a b ≡ false
  lt_z_not h = lt_not_le a b ∙ ap not (le_z_of b a h)

  pub le_z_not : b <ℤ a → le_z a b ≡ false
  le_z_not h = not-true (le_z a b) (sym (lt_not_le b a) ∙ lt_z_of b a h)

-- equal differences, one order
pub lt_shift : (a b c d : ℤ) → b -ℤ a ≡ d -ℤ c → lt_z a b ≡ lt_z c d
lt_shift a b c d e =
    same_test (lt_z a b) (lt_z c d)
    (λ t. lt_z_of c d (lt_out (omega (arith, lt_in (lt_z_true a b t), diff b a, diff d c, ap up e, ap dn e))))
    (λ t. lt_z_of a b (lt_out (omega (arith, lt_in (lt_z_true c d t), diff b a, diff d c, ap up e, ap dn e))))

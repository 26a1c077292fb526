-- What `layer_charge` computes: its products are small, and it charges what the formula says.
use Prim.Native.Nat.{ℕ, ◌+◌, ◌*◌, ◌/◌, ◌%◌, ◌≤◌, ◌^◌}
use mathlib.Core.Path.{◌≡◌, sym, ap, ◌∙◌}
use native.Mathlib.Omega.{arith}
use native.Mathlib.Nat.{mul-le-mul}
use lib.IntN.{ℤ, nat_abs}
use Rattle.std.specs.Int.{div_ceil}
use mir.Syntax.{w64}
use mir.Val.{Fits, to_z, of_z}
use Rattle.laws.specs.SignLaws.{Negative, NonNegative}
use Rattle.ink.specs.Charges.{doubled_nanolitre, divided_up, layer_charge}
use Rattle.ink.specs.ChargeLaws.{charge_negative, charge_split}
use Rattle.ink.specs.Inking.{most_thickness}

-- products and their sums have less than 64 bits
module _ (t : ℕ) (h : t ≤ most_thickness) where
  product_small : {x : ℕ} → x ≤ 2 ^ 52 → x * t ≤ 2 ^ 52 * most_thickness
  product_small k = mul-le-mul k h

  pub product_fits : (x : ℕ) → x ≤ 2 ^ 52 → Fits w64 (x * t)
  product_fits x k = omega (arith, product_small k)

  pub parts_fit : (x y : ℕ) → x ≤ 2 ^ 52 → y ≤ 2 ^ 52 → {d : ℕ} → d ≡ div_ceil (y * t) doubled_nanolitre → Fits w64 (x * t + d)
  parts_fit x y k l e = omega (arith, product_small k, product_small l, e)

-- what the code computes of an area that is not negative
abbrev charge_parts : ℕ → ℕ → ℕ → ℕ
charge_parts s t d = s / doubled_nanolitre * t + d

rounds_up : (n : ℕ) → div_ceil n doubled_nanolitre ≡ divided_up n doubled_nanolitre
rounds_up n = omega arith

module _ (t : ℕ) {area : ℤ} where
  pub none_charged : Negative area → 0 ≡ layer_charge t area
  none_charged b = sym (charge_negative t b.k) ∙ ap (layer_charge t) (sym b.from)

  -- with d nanolitres for what is left over
  pub charged : NonNegative area → {d : ℕ} → d ≡ div_ceil (nat_abs (to_z w64 (of_z w64 area)) % doubled_nanolitre * t) doubled_nanolitre
      → charge_parts (nat_abs (to_z w64 (of_z w64 area))) t d ≡ layer_charge t area
  charged b {d} e =
      let rest : d ≡ divided_up (b.k % doubled_nanolitre * t) doubled_nanolitre =
      e ∙ rounds_up _ ∙ ap (λ (z : ℤ). divided_up (nat_abs z % doubled_nanolitre * t) doubled_nanolitre) b.is in
      ap (λ (z : ℤ). charge_parts (nat_abs z) t d) b.is ∙ ap (charge_parts b.k t) rest ∙ sym (charge_split t b.k) ∙ ap (layer_charge t) (sym b.from)

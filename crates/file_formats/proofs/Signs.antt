-- Signed numbers of 64 bits: what lies below zero, and what -1 - z is.
use mathlib.Core.Path.{◌≡◌, sym, ap, ◌∙◌, subst}
use Prim.Native.Nat.{ℕ, ◌+◌, ◌*◌, ◌/◌, ◌%◌, ◌<◌, ◌^◌}
use native.Mathlib.Omega.{arith}
use lib.IntN.{ℤ, pos, negsuc, ◌-ℤ◌}
use mir.Syntax.{w64}
use mir.Val.{SFits, to_z, of_z}
use mir.ValLaws.{to_z-of_z, to_z_pos}
use Rattle.laws.specs.Integers.{ext, diff}
use Rattle.laws.specs.SignLaws.{Negative, NonNegative}
use Rattle.file_formats.specs.Numbers.{zigzag, unzigzag}
use Rattle.file_formats.specs.NumberLaws.{unzigzag_even, unzigzag_odd}

-- -1 - n of a number that was cast
cast_minus : (n : ℕ) → n < 2 ^ 63 → negsuc 0 -ℤ to_z w64 n ≡ negsuc n
cast_minus n h = ap (λ (z : ℤ). negsuc 0 -ℤ z) (to_z_pos w64 n h) ∙ (let e : negsuc 0 -ℤ pos n ≡ negsuc n = omega (arith, ext, diff (negsuc 0) (pos n)) in e)

pub minus_fits : (n : ℕ) → n < 2 ^ 63 → SFits w64 (negsuc 0 -ℤ to_z w64 n)
minus_fits n h = subst (SFits w64) (sym (cast_minus n h)) (record { sfits = h })

pub even : (m : ℕ) → m / 2 < 2 ^ 63 → m % 2 ≡ 0 → to_z w64 (m / 2) ≡ unzigzag m
even m h e = to_z_pos w64 (m / 2) h ∙ sym (unzigzag_even m e)

pub odd : (m : ℕ) → m / 2 < 2 ^ 63 → (m % 2 ≡ 0 → ⊥) → to_z w64 (of_z w64 (negsuc 0 -ℤ to_z w64 (m / 2))) ≡ unzigzag m
odd m h e = to_z-of_z w64 (negsuc 0 -ℤ to_z w64 (m / 2)) (minus_fits (m / 2) h) ∙ cast_minus (m / 2) h ∙ sym (unzigzag_odd m e)

pub zigzag_negative : {z : ℤ} (b : Negative z) → zigzag z ≡ 2 * b.k + 1
zigzag_negative b = ap zigzag b.from

pub zigzag_non_negative : {z : ℤ} (b : NonNegative z) → zigzag z ≡ 2 * b.k
zigzag_non_negative b = ap zigzag b.from

-- Two's complement: the word of a signed number, and a height of 32 bits cast to 64.
use Prim.Native.Nat.{suc, ◌-◌, ◌^◌, ◌<◌}
use mathlib.Core.Path.{◌≡◌, refl, sym, ◌∙◌, subst}
use native.Mathlib.Omega.{arith}
use lib.IntN.{ℤ, pos, negsuc}
use lib.Signed.{mag}
use mir.Syntax.{w32, w64}
use mir.Val.{SFits, to_z, of_z}
use mir.ValLaws.{to_z-of_z}
use Rattle.laws.specs.Machine.{same}
use Rattle.out_words.specs.Words.{word_of}

-- what 64 bits hold of a signed number
pub complement : (z : ℤ) → of_z w64 z ≡ word_of z
unfolding word_of
complement (pos n) = refl
complement (negsuc n) = let e : 18446744073709551616 - suc n ≡ 18446744073709551615 - n = omega arith in e

module _ (z : ℤ) (f : mag z < 2 ^ 31) where
  pub wide_fits : SFits w64 (to_z w32 (of_z w32 z))
  wide_fits = subst (SFits w64) (sym (same w32 z f)) (record { sfits = omega arith })

  pub wide_held : to_z w64 (of_z w64 (to_z w32 (of_z w32 z))) ≡ z
  wide_held = to_z-of_z w64 _ wide_fits ∙ same w32 z f

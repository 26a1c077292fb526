-- A signed number of 32 bits, cast from 64 bits.
use mathlib.Core.Path.{◌≡◌, sym, ◌∙◌, subst}
use Prim.Native.Nat.{ℕ, ◌<◌, ◌≤◌, ◌^◌}
use lib.IntN.{ℤ}
use lib.Signed.{mag}
use mir.Syntax.{w32, w64}
use mir.Val.{SFits, to_z, of_z}
use mir.ValLaws.{to_z-of_z}
use Rattle.laws.specs.Machine.{same}
use Rattle.file_formats.specs.Numbers.{largest_word, unzigzag}
use Rattle.file_formats.specs.NumberLaws.{sent_word, zigzag_unzigzag}

module _ (m : ℕ) (low : m ≤ largest_word) where
  pub word_fits : SFits w32 (unzigzag m)
  word_fits = record { sfits = sent_word (unzigzag m) (rw (zigzag_unzigzag m) low) }

  module _ (z : ℤ) (ok : mag z < 2 ^ 63) (is : z ≡ unzigzag m) where
    wide : to_z w64 (of_z w64 z) ≡ unzigzag m
    wide = same w64 z ok ∙ is

    pub narrow_ok : SFits w32 (to_z w64 (of_z w64 z))
    narrow_ok = subst (SFits w32) (sym wide) word_fits

    pub narrow : to_z w32 (of_z w32 (to_z w64 (of_z w64 z))) ≡ unzigzag m
    narrow = to_z-of_z w32 (to_z w64 (of_z w64 z)) narrow_ok ∙ wide

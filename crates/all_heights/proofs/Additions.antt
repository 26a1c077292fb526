-- The default height that the code adds up, and the heights given.
use Prim.Native.Nat.{ℕ, ◌+◌, ◌*◌, ◌^◌, ◌≤◌, ◌<◌}
use mathlib.Core.Path.{◌≡◌, refl, sym, ◌∙◌, subst}
use mathlib.Core.List.{List, [], ◌∷◌}
use native.Mathlib.Omega.{arith}
use lib.ListN.{length, get_or}
use lib.IntN.{ℤ, pos, nat_abs, ◌+ℤ◌}
use lib.Signed.{mag, nat_abs-le}
use mir.Syntax.{w32, w64}
use mir.Val.{SFits, to_z, of_z}
use mir.ValLaws.{to_z-of_z, to_z_pos}
use Rattle.laws.specs.Integers.{abs_is, sum}
use Rattle.laws.specs.Machine.{Rd, fit, got, add, same}
use Rattle.file_formats.specs.Numbers.{Word}
use Rattle.all_heights.specs.Heights.{first_offset, spacing}
use Rattle.all_heights.specs.Taking.{height_at, Takable}

-- a height given
pub given_is : (low : ℤ) (heights : List ℤ) (k : ℕ) → 0 < length heights → Word (get_or heights k (pos 0))
    → to_z w32 (of_z w32 (get_or heights k (pos 0))) ≡ height_at low heights k
unfolding height_at
given_is low [] k h f = absurd (omega arith)
given_is low (z ∷ zs) k h f = same w32 (get_or (z ∷ zs) k (pos 0)) f

default_is : (low : ℤ) (heights : List ℤ) (k : ℕ) → length heights ≡ 0 → low +ℤ pos (first_offset + spacing * k) ≡ height_at low heights k
unfolding height_at
default_is low [] k e = refl
default_is low (z ∷ zs) k e = absurd (omega arith)

module _ {low : ℤ} {heights : List ℤ} {k : ℕ} (f : SFits w32 low) (t : Takable low heights k) (none : length heights ≡ 0) where
  abbrev above : ℕ
  above = first_offset + spacing * k

  -- how far a height of 32 bits can be above another
  pub above_small : above ≤ 2 ^ 32
  above_small =
      let h : nat_abs (low +ℤ pos above) ≤ 2 ^ 31 = nat_abs-le (low +ℤ pos above) (t.fits none) in
      let l : nat_abs low ≤ 2 ^ 31 = nat_abs-le low f.sfits in
      omega (arith, abs_is (low +ℤ pos above), abs_is low, sum low (pos above))

  -- the locals, as the code makes them: `wide` is the lowest z in 64 bits
  module _ {wide : ℤ} (w : mag wide < 2 ^ 63) (e : wide ≡ low) where
    abbrev low_held : Rd w64 low (2 ^ 31)
    low_held = got w e (fit f).le

    abbrev above_held : Rd w64 (pos above) (2 ^ 32)
    above_held = record { n = above; is = to_z_pos w64 above (omega (arith, above_small)); le = above_small }

    abbrev height_held : Rd w64 (low +ℤ pos above) (2 ^ 31 + 2 ^ 32)
    height_held = add low_held above_held tt

    pub height_fits : SFits w32 (to_z w64 height_held.n)
    height_fits = subst (SFits w32) (sym height_held.is) (record { sfits = t.fits none })

    pub height_is : to_z w32 (of_z w32 (to_z w64 height_held.n)) ≡ height_at low heights k
    height_is = to_z-of_z w32 (to_z w64 height_held.n) height_fits ∙ height_held.is ∙ default_is low heights k none

-- Floats that are whole numbers. `lib.Ieee`'s `fin s m e` is m * 2 ^ e, negative where s is true, and 2 ^ e is the fraction up e / down e.
use Rattle.std.specs.Prelude.{◌≡◌, ℕ, ◌*◌, ◌/◌, ◌%◌, Bool, true, false, ◌&&◌, ℤ, pos, ◌*ℤ◌, neg_ℤ, ◌==◌, nat_le, Float}
use Rattle.std.specs.Float.{nan, inf, fin, binary32}
use Rattle.std.specs.Float.Ieee.{up, down, of_int}
use Rattle.mesh.specs.Corners.{largest}

-- n, negative where s is true
abbrev pub with_sign : Bool → ℕ → ℤ
with_sign false n = pos n
with_sign true n = neg_ℤ (pos n)

-- The float is finite and is the number z, no more and no less: ± m * up e / down e = z. Both zeros, 0.0 and −0.0, are the number 0.
abbrev pub FloatIs : Float → ℤ → Type 0
FloatIs nan z = ⊥
FloatIs (inf s) z = ⊥
FloatIs (fin s m e) z = with_sign s (m * up e) ≡ z *ℤ pos (down e)

-- a float that is finite, has no fraction, and is at most 1,048,576 in size
unfoldable pub is_whole : Float → Bool
is_whole nan = false
is_whole (inf s) = false
is_whole (fin s m e) = m * up e % down e == 0 && nat_le (m * up e / down e) largest

-- the number that a float without a fraction is
unfoldable pub value_of : Float → ℤ
value_of nan = pos 0
value_of (inf s) = pos 0
value_of (fin s m e) = with_sign s (m * up e / down e)

-- the f32 nearest to a whole number
abbrev pub float : ℤ → Float
float z = of_int binary32 z

-- −0.0
abbrev pub minus_zero : Float → Bool
minus_zero nan = false
minus_zero (inf s) = false
minus_zero (fin s m e) = s && m == 0

-- a drawn number: the float is exactly it, and zero is +0.0
abbrev pub ExactFloat : Float → ℤ → Type 0
ExactFloat x z = FloatIs x z × (minus_zero x ≡ false)

-- What the casts of `is_whole` and `drawn_point` ask.
use Rattle.std.proofs.Common.{◌≡◌, ◌+◌, ◌*◌, ◌^◌, ◌≤◌, Bool, true, false, ◌||◌, T, ltb, ℤ, pos, negsuc, nat_abs, sym, ap, ◌∙◌, subst, arith, le→leb, lt→ltb}
use lib.Ieee.{Float, nan, inf, fin, binary32, up, down, of_bits, le, lt, eq, to_signed, in_float}
use lib.Ieee.Fits.{down_pos}
use Rattle.mesh.specs.Corners.{largest}
use Rattle.laws.specs.Booleans.{clash, is_false}
use Rattle.preview_floats.specs.WholeFloats.{is_whole, value_of, float}
use Rattle.preview_floats.specs.WholeTestLaws.{Within, whole_within, within_low, within_high, within_of, within_cut, within_small, within_whole}

pub small_float : (z : ℤ) → nat_abs z ≤ largest → T (in_float binary32 z)
unfolding in_float
small_float (pos n) h = le→leb n (2 ^ 24) (omega arith)
small_float (negsuc n) h = lt→ltb n (2 ^ 24) (omega arith)

-- the number that a cast reads is the parameter
pub read_float : (z read : ℤ) → read ≡ z → nat_abs z ≤ largest → T (in_float binary32 read)
read_float z read e h = subst (λ (y : ℤ). T (in_float binary32 y)) (sym e) (small_float z h)

or_l : (a b : Bool) → T a → T (a || b)
or_l true b t = tt
or_l false b t = absurd t

-- a float of coordinate range may be cut to an i64
pub within_i64 : (x : Float) → Within x → T (le (fin true 1 (pos 63)) x) × T (lt x (fin false 1 (pos 63)))
unfolding le lt
within_i64 nan w = absurd w
within_i64 (inf s) w = absurd w
within_i64 (fin false m e) w =
    let size = m * up e * 1 in
    let limit = 2 ^ 63 * down e in
    (or_l (ltb 0 (limit + size)) _ (lt→ltb 0 (limit + size) (omega (arith, down_pos e))), lt→ltb size limit (omega (arith, down_pos e)))
within_i64 (fin true m e) w =
    let size = m * up e * 1 in
    let limit = 2 ^ 63 * down e in
    (or_l (ltb size limit) _ (lt→ltb size limit (omega (arith, down_pos e))), lt→ltb 0 (size + limit) (omega (arith, down_pos e)))

-- ---- the two tests of `is_whole`, whose limits are these patterns

abbrev pub top : Float
top = of_bits binary32 0x49800000

abbrev pub bottom : Float
bottom = of_bits binary32 0xC9800000

pub inside : (x : Float) → le bottom x ≡ true → le x top ≡ true → Within x
unfolding of_bits
inside x a b = within_of x a b

pub too_low : (x : Float) → le bottom x ≡ false → false ≡ is_whole x
unfolding of_bits
too_low x a = sym (is_false (is_whole x) (λ t. clash (within_low x (whole_within x t)) a))

pub too_high : (x : Float) → le x top ≡ false → false ≡ is_whole x
unfolding of_bits
too_high x a = sym (is_false (is_whole x) (λ t. clash (within_high x (whole_within x t)) a))

-- what was cut, cast back and compared
pub back_again : (x : Float) (cut : ℤ) → Within x → cut ≡ to_signed 63 x → eq (float cut) x ≡ is_whole x
back_again x cut w e = ap (λ (z : ℤ). eq (float z) x) (e ∙ within_cut x w) ∙ within_whole x w

pub cut_float : (x : Float) (cut : ℤ) → Within x → cut ≡ to_signed 63 x → T (in_float binary32 cut)
cut_float x cut w e = subst (λ (z : ℤ). T (in_float binary32 z)) (sym (e ∙ within_cut x w)) (small_float (value_of x) (within_small x w))

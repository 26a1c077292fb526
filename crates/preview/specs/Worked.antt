-- Worked values, by computation: the calls of part P's layer at height 5, with the origin (100, -7), and origins that are refused.
use Rattle.std.specs.Prelude.{◌≡◌, refl, true, false, pos, negsuc}
use mathlib.Core.List.{[], ◌∷◌, flatten}
use Rattle.std.specs.Float.{binary32}
use Rattle.std.specs.Float.Ieee.{of_bits, of_int}
use Rattle.polygons.specs.Flat.{FlatLayer, flat, point, contours_in, points_in}
use Rattle.preview_floats.specs.WholeFloats.{is_whole, value_of, float}
use Rattle.preview_floats.specs.DrawnPoints.{origin_at}
use Rattle.preview.specs.declared.PathCall.TheVariants.{Move, Line, Close}
use Rattle.preview.specs.Calls.{move, line, close, contour_strokes, strokes_of, calls_of}

-- (5, 0), (0, 5), (0, 0)
abbrev five : FlatLayer
five = flat (pos 5 ∷ pos 0 ∷ pos 0 ∷ pos 5 ∷ pos 0 ∷ pos 0 ∷ []) (3 ∷ [])

strokes : strokes_of (contours_in five.points 0 five.ends)
    ≡ move (point (pos 5) (pos 0)) ∷ line (point (pos 0) (pos 5)) ∷ line (point (pos 0) (pos 0)) ∷ close ∷ []
unfolding strokes_of contour_strokes contours_in points_in flatten
strokes = refl

-- drawn after the origin
calls : calls_of (origin_at (float (pos 100)) (float (negsuc 6))) five
    ≡ Move (float (pos 105)) (float (negsuc 6)) ∷ Line (float (pos 100)) (float (negsuc 1)) ∷ Line (float (pos 100)) (float (negsuc 6)) ∷ Close ∷ []
unfolding calls_of strokes_of contour_strokes contours_in points_in flatten value_of of_int
calls = refl

-- by bit patterns: no number, infinity, a half, one step beyond the range, and the limits, both zeros
no_number : is_whole (of_bits binary32 0x7FC00000) ≡ false
unfolding is_whole of_bits
no_number = refl

infinite : is_whole (of_bits binary32 0xFF800000) ≡ false
unfolding is_whole of_bits
infinite = refl

half : is_whole (of_bits binary32 0x3F000000) ≡ false
unfolding is_whole of_bits
half = refl

beyond : is_whole (of_bits binary32 0x49800001) ≡ false
unfolding is_whole of_bits
beyond = refl

limit : is_whole (of_bits binary32 0xC9800000) ≡ true
unfolding is_whole of_bits
limit = refl

minus_zero_lem : is_whole (of_bits binary32 0x80000000) ≡ true
unfolding is_whole of_bits
minus_zero_lem = refl

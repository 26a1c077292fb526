-- What an exact call is (PREVIEW-3).
use Rattle.std.specs.Prelude.{◌+ℤ◌, Float}
use Rattle.polygons.specs.Flat.{Point}
use Rattle.preview_floats.specs.declared.Origin.{Origin}
use Rattle.preview_floats.specs.WholeFloats.{ExactFloat, value_of}
use Rattle.preview.specs.declared.PathCall.{PathCall}
use Rattle.preview.specs.declared.PathCall.TheVariants.{Move, Line, Close}
use Rattle.preview.specs.Calls.{Stroke, move, line, close}

-- x and y are exactly point plus origin
abbrev pub ExactSums : Origin → Point → Float → Float → Type 0
ExactSums o p x y = ExactFloat x (p.x +ℤ value_of o.x) × ExactFloat y (p.y +ℤ value_of o.y)

-- the call is of the stroke's kind, its floats the exact sums
abbrev pub Draws : Origin → Stroke → PathCall → Type 0
Draws o (move p) (Move x y) = ExactSums o p x y
Draws o (line p) (Line x y) = ExactSums o p x y
Draws o close Close = Unit {0}
Draws o (move p) (Line x y) = ⊥
Draws o (move p) Close = ⊥
Draws o (line p) (Move x y) = ⊥
Draws o (line p) Close = ⊥
Draws o close (Move x y) = ⊥
Draws o close (Line x y) = ⊥

-- Reading calls (PREVIEW-4): the origin is taken off, and the contours are read off the calls alone.
use Rattle.std.specs.Prelude.{List, [], ◌∷◌, ◌++◌, map}
use Rattle.std.specs.Float.{binary32}
use Rattle.std.specs.Float.Ieee.{sub}
use Rattle.polygons.specs.Flat.{Point, point}
use Rattle.preview_floats.specs.declared.Origin.{Origin}
use Rattle.preview_floats.specs.WholeFloats.{value_of}
use Rattle.preview.specs.declared.PathCall.{PathCall}
use Rattle.preview.specs.declared.PathCall.TheVariants.{Move, Line, Close}
use Rattle.preview.specs.Calls.{Stroke, move, line, close}

-- the origin taken off a call, by the subtraction of f32
abbrev pub call_off : Origin → PathCall → PathCall
call_off o (Move x y) = Move (sub binary32 x o.x) (sub binary32 y o.y)
call_off o (Line x y) = Line (sub binary32 x o.x) (sub binary32 y o.y)
call_off o Close = Close

-- the whole numbers that its floats are
abbrev pub stroke_of : PathCall → Stroke
stroke_of (Move x y) = move (point (value_of x) (value_of y))
stroke_of (Line x y) = line (point (value_of x) (value_of y))
stroke_of Close = close

-- the contours that strokes draw; the points of c came since the last close
unfoldable pub contours_drawn : List Point → List Stroke → List (List Point)
contours_drawn c [] = []
contours_drawn c (move p ∷ strokes) = contours_drawn (c ++ (p ∷ [])) strokes
contours_drawn c (line p ∷ strokes) = contours_drawn (c ++ (p ∷ [])) strokes
contours_drawn c (close ∷ strokes) = c ∷ contours_drawn [] strokes

-- the contours that calls show, after this origin
unfoldable pub contours_read : Origin → List PathCall → List (List Point)
contours_read o calls = contours_drawn [] (map (λ c. stroke_of (call_off o c)) calls)

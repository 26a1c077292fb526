-- The calls that draw a layer: over whole numbers (PREVIEW-1), and as drawn after an origin (PREVIEW-2, PREVIEW-3).
use mathlib.Core.List.{List, [], ◌∷◌, ◌++◌, map, flatten}
use Rattle.polygons.specs.Flat.{Point, FlatLayer, polygons_of}
use Rattle.preview_floats.specs.declared.Origin.{Origin}
use Rattle.preview_floats.specs.DrawnPoints.{drawn_at}
use Rattle.preview.specs.declared.PathCall.{PathCall}
use Rattle.preview.specs.declared.PathCall.TheVariants.{Move, Line, Close}

-- ---- over whole numbers

-- a call before the origin is added: move to a point, line to a point, close
pub data Stroke : Type 0 where
  move : Point → Stroke
  line : Point → Stroke
  close : Stroke

-- those of a contour: a move to its first point, a line to each later one, a close; a contour without points, which no layer has, is a close
unfoldable pub contour_strokes : List Point → List Stroke
contour_strokes [] = close ∷ []
contour_strokes (p ∷ c) = move p ∷ (map line c ++ (close ∷ []))

-- those of a layer, contour after contour (PREVIEW-1)
unfoldable pub strokes_of : List (List Point) → List Stroke
strokes_of cs = flatten (map contour_strokes cs)

-- ---- as drawn

-- with the origin added (PREVIEW-2)
abbrev pub drawn_call : Origin → Stroke → PathCall
drawn_call o (move p) = Move (drawn_at o p).x (drawn_at o p).y
drawn_call o (line p) = Line (drawn_at o p).x (drawn_at o p).y
drawn_call o close = Close

-- the calls of a layer that is handed in as two tables
unfoldable pub calls_of : Origin → FlatLayer → List PathCall
calls_of o t = map (drawn_call o) (strokes_of (polygons_of t))

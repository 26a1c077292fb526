-- Origins (PREVIEW-7), and where a point is drawn (PREVIEW-2).
use Rattle.std.specs.Prelude.{Bool, ◌&&◌, ◌+ℤ◌, Float}
use Rattle.polygons.specs.Flat.{Point}
use Rattle.preview_floats.specs.declared.Origin.{Origin}
use Rattle.preview_floats.specs.declared.DrawnPoint.{DrawnPoint}
use Rattle.preview_floats.specs.WholeFloats.{is_whole, value_of, float}

abbrev pub origin_at : Float → Float → Origin
origin_at x y = record { x = x; y = y }

-- both coordinates are whole numbers in range
abbrev pub whole_origin : Origin → Bool
whole_origin o = is_whole o.x && is_whole o.y

-- point plus origin, as whole numbers, each then as an f32
abbrev pub drawn_at : Origin → Point → DrawnPoint
drawn_at o p = record { x = float (p.x +ℤ value_of o.x); y = float (p.y +ℤ value_of o.y) }

-- The extent of a contour, by which most points are told not to lie in it.
use Rattle.std.specs.Prelude.{ℕ, ◌<◌, Bool, ◌&&◌, List, length, ◌≤ℤ◌}
use Rattle.std.specs.Int.Signed.{le_z, lt_z}
use Rattle.polygons.specs.Flat.{Point, nth_point}
use Rattle.inside.specs.declared.ContourExtent.{ContourExtent}

-- a point is not left of, right of, below or above an extent
pub record InExtent (e : ContourExtent) (p : Point) : Type 0 where
  pub from_left : e.left ≤ℤ p.x
  pub to_right : p.x ≤ℤ e.right
  pub from_low : e.low ≤ℤ p.y
  pub to_high : p.y ≤ℤ e.high

-- nor are the first m points of a contour
abbrev pub SpansTo : List Point → ℕ → ContourExtent → Type 0
SpansTo c m e = (i : ℕ) → i < m → InExtent e (nth_point c i)

-- nor is any
abbrev pub Spans : List Point → ContourExtent → Type 0
Spans c e = SpansTo c (length c) e

-- a point is within an extent: not left of it, nor on its right side or past it, not below it, nor on its upper side or past it
unfoldable pub within : ContourExtent → Point → Bool
within e p = le_z e.left p.x && lt_z p.x e.right && le_z e.low p.y && lt_z p.y e.high

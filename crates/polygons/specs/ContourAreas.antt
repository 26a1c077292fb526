-- The doubled signed area of a contour as a list of points (AREA-1, the shoelace
-- formula), by recursion along its points, and the sum of a layer's (INK-2).
use Rattle.std.specs.Prelude.{ℕ, ◌*◌, List, [], ◌∷◌, ℤ, pos, ◌+ℤ◌, ◌-ℤ◌, ◌*ℤ◌}
use Rattle.mesh.specs.Corners.{largest}
use Rattle.polygons.specs.Flat.{Point}

-- x × y' − x' × y of two points
unfoldable pub cross_points : Point → Point → ℤ
cross_points p q = p.x *ℤ q.y -ℤ q.x *ℤ p.y

-- the sum from point p on, over each point and the next, the last leading back to the first
unfoldable pub area_from : Point → Point → List Point → ℤ
area_from first p [] = cross_points p first
area_from first p (q ∷ c) = cross_points p q +ℤ area_from first q c

-- the doubled area of a contour, closed round
unfoldable pub contour_area : List Point → ℤ
contour_area [] = pos 0
contour_area (p ∷ c) = area_from p p c

-- the sum of the doubled areas of a layer's contours, in which holes count negative (INK-2, CLEAN-12)
unfoldable pub layer_area : List (List Point) → ℤ
layer_area [] = pos 0
layer_area (c ∷ cs) = contour_area c +ℤ layer_area cs

-- the largest cross product of two points in range
abbrev pub largest_cross : ℕ
largest_cross = 2 * (largest * largest)

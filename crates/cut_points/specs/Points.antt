-- Points (POINT-1 to POINT-3): where an edge meets the height h, exactly and as a point.
use Rattle.std.specs.Prelude.{ℕ, suc, ◌+◌, ◌*◌, ◌/◌, List, map, ℤ, pos, negsuc, neg_ℤ, nat_abs, ◌+ℤ◌, ◌-ℤ◌, ◌*ℤ◌}
use Rattle.mesh.specs.Corners.{start_of, end_of, coord_of, z_of}
use Rattle.mesh.specs.Meshes.{Mesh}
use Rattle.polygons.specs.Flat.{Point}
unfoldable pub use Rattle.polygons.specs.Flat.{numbers_of}

-- on an edge from u0 at height z0 up to u1 at height z1 the exact x (or y) at height h is numerator / denominator,
-- which is u0 + (u1 − u0) (h − z0) / (z1 − z0) (POINT-1)
unfoldable pub numerator : ℤ → ℤ → ℤ → ℤ → ℤ → ℤ
numerator u0 u1 z0 z1 h = u0 *ℤ (z1 -ℤ z0) +ℤ (u1 -ℤ u0) *ℤ (h -ℤ z0)

-- and this, above 0 as the edge goes up
unfoldable pub denominator : ℤ → ℤ → ℤ
denominator z0 z1 = z1 -ℤ z0

-- n / d rounded to the nearest whole number, halves up, which is away from zero, for d above 0
abbrev pub nearest : ℕ → ℕ → ℕ
nearest n d = (2 * n + d) / (2 * d)

-- n / d rounded to the nearest whole number, halves away from zero (POINT-2), for d above 0:
-- its size is rounded and its sign put back, so that nothing below zero is cut off toward zero (WRONG-9)
unfoldable pub rounded : ℤ → ℤ → ℤ
rounded (pos n) d = pos (nearest n (nat_abs d))
rounded (negsuc n) d = neg_ℤ (pos (nearest (suc n) (nat_abs d)))

-- the exact x (axis 0) or y (axis 1) on the edge of corner c is exact_over / exact_under (POINT-1)
unfoldable pub exact_over : Mesh → ℤ → ℕ → ℕ → ℤ
exact_over m h axis c =
    let u = start_of m.corners c in
    let v = end_of m.corners c in
    numerator (coord_of m.coords axis u) (coord_of m.coords axis v) (z_of m.coords u) (z_of m.coords v) h

-- the denominator, the same for both
unfoldable pub exact_under : Mesh → ℕ → ℤ
exact_under m c = denominator (z_of m.coords (start_of m.corners c)) (z_of m.coords (end_of m.corners c))

-- x or y of the point of corner c (POINT-2)
unfoldable pub point_at : Mesh → ℤ → ℕ → ℕ → ℤ
point_at m h axis c = rounded (exact_over m h axis c) (exact_under m c)

-- the point of corner c: x by axis 0, y by axis 1
abbrev pub point_of : Mesh → ℤ → ℕ → Point
point_of m h c = record { x = point_at m h 0 c; y = point_at m h 1 c }

-- x and y of the point of each name, in turn (CUT-3), equal ones kept (POINT-3)
abbrev pub points_of : Mesh → ℤ → List ℕ → List ℤ
points_of m h cs = numbers_of (map (point_of m h) cs)

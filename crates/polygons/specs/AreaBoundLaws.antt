-- How large areas can be: a cross product for each point.
use Rattle.std.specs.Prelude.{◌+◌, ◌*◌, ◌≤◌, List, [], ◌∷◌, length, ℤ, nat_abs, ◌-ℤ◌, ◌*ℤ◌}
use Rattle.std.proofs.Common.{arith, mul-le-mul}
use Rattle.laws.specs.Integers.{abs_add, abs_sub, abs_mul}
use Rattle.mesh.specs.Corners.{largest}
use Rattle.polygons.specs.Flat.{Point, PointNear, point_total, Each}
use Rattle.polygons.specs.ContourAreas.{cross_points, area_from, contour_area, layer_area, largest_cross}

-- a cross product of four coordinates
pub cross_le : (x y u v : ℤ) → nat_abs x ≤ largest → nat_abs y ≤ largest → nat_abs u ≤ largest → nat_abs v ≤ largest
    → nat_abs (x *ℤ v -ℤ u *ℤ y) ≤ largest_cross
cross_le x y u v hx hy hu hv =
    let a : nat_abs x * nat_abs v ≤ largest * largest = mul-le-mul hx hv in
    let b : nat_abs u * nat_abs y ≤ largest * largest = mul-le-mul hu hy in
    omega (arith, abs_sub (x *ℤ v) (u *ℤ y), abs_mul x v, abs_mul u y)

-- of two points
pub cross_points_le : (p q : Point) → PointNear p → PointNear q → nat_abs (cross_points p q) ≤ largest_cross
unfolding cross_points
cross_points_le p q h k = cross_le p.x p.y q.x q.y h.0 h.1 k.0 k.1

area_from_le : (first p : Point) (c : List Point) → PointNear first → PointNear p → Each PointNear c
    → nat_abs (area_from first p c) ≤ (1 + length c) * largest_cross
unfolding area_from
area_from_le first p [] f h e = omega (arith, cross_points_le p first h f)
area_from_le first p (q ∷ c) f h e =
    omega (arith, abs_add (cross_points p q) (area_from first q c), cross_points_le p q h e.0, area_from_le first q c f e.0 e.1)

-- a contour's
pub contour_area_le : (c : List Point) → Each PointNear c → nat_abs (contour_area c) ≤ length c * largest_cross
unfolding contour_area
contour_area_le [] e = omega arith
contour_area_le (p ∷ c) e = omega (arith, area_from_le p p c e.0 e.0 e.1)

-- and the sum of a layer's
pub layer_area_le : (cs : List (List Point)) → Each (Each PointNear) cs → nat_abs (layer_area cs) ≤ point_total cs * largest_cross
unfolding layer_area
layer_area_le [] e = omega arith
layer_area_le (c ∷ cs) e = omega (arith, abs_add (contour_area c) (layer_area cs), contour_area_le c e.0, layer_area_le cs e.1)

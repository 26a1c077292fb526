-- Area of a contour's numbers is the contour's area, point by point; so it is of contour j of a layer's tables.
use Rattle.std.specs.Prelude.{ℕ, zero, suc, ◌+◌, ◌<◌, ◌≡◌, true, List, [], ◌∷◌, length, get_or, ℤ, ◌+ℤ◌, ◌-ℤ◌, ◌*ℤ◌}
use Rattle.std.proofs.Common.{sym, ap, ◌∙◌, arith, add-one}
use Rattle.std.proofs.Math.IntN.{+ℤ_idl, +ℤ_idr, +ℤ_assoc}
use Rattle.polygons.specs.Flat.{Point, nth_point, FlatLayer, numbers_of, polygons_of, is_layer}
use Rattle.polygons.proofs.FlatLaws.{length_numbers, number_x, number_y}
use Rattle.contours.specs.Areas.{point_count, cross_of, sum_of, area_of}
use Rattle.contours.specs.AreaLaws.{sum_same, area_none, area_closed}
use Rattle.contours.specs.Contours.{contour_of}
use Rattle.contours.specs.PolygonLaws.{contour_polygon}
use Rattle.polygons.specs.ContourAreas.{cross_points, area_from, contour_area}

pub sum_front : (n : ℕ) (f : ℕ → ℤ) → sum_of (suc n) f ≡ f zero +ℤ sum_of n (λ i. f (suc i))
unfolding sum_of
sum_front zero f = +ℤ_idl (f zero) ∙ sym (+ℤ_idr (f zero))
sum_front (suc n) f =
    ap (λ (z : ℤ). z +ℤ f (suc n)) (sum_front n f)
    ∙ +ℤ_assoc (f zero) (sum_of n (λ i. f (suc i))) (f (suc n))

-- ---- point i of a list and of its numbers

cross_numbers : (c : List Point) (i k : ℕ) → cross_of (numbers_of c) i k ≡ cross_points (nth_point c i) (nth_point c k)
unfolding cross_of cross_points
cross_numbers c i k = λ t. number_x c i t *ℤ number_y c k t -ℤ number_x c k t *ℤ number_y c i t

-- ---- the sum over neighbours, and back to the first

-- point i and the next, along a contour from its first point p
cross_at : Point → List Point → ℕ → ℤ
cross_at p c i = cross_points (nth_point (p ∷ c) i) (nth_point c i)

sum_area : (first p : Point) (c : List Point)
    → sum_of (length c) (cross_at p c) +ℤ cross_points (nth_point (p ∷ c) (length c)) first ≡ area_from first p c
unfolding sum_of area_from cross_at
sum_area first p [] = +ℤ_idl (cross_points p first)
sum_area first p (q ∷ c) =
    ap (λ (z : ℤ). z +ℤ cross_points (nth_point (q ∷ c) (length c)) first) (sum_front (length c) (cross_at p (q ∷ c)))
    ∙ +ℤ_assoc (cross_points p q) (sum_of (length c) (cross_at q c)) (cross_points (nth_point (q ∷ c) (length c)) first)
    ∙ ap (λ (z : ℤ). cross_points p q +ℤ z) (sum_area first q c)

cross_next : (p : Point) (c : List Point) (i : ℕ) → cross_of (numbers_of (p ∷ c)) i (i + 1) ≡ cross_at p c i
unfolding cross_at
cross_next p c i =
    cross_numbers (p ∷ c) i (i + 1)
    ∙ ap (λ (k : ℕ). cross_points (nth_point (p ∷ c) i) (nth_point (p ∷ c) k)) (add-one i)

-- ---- Area of a contour's numbers is the contour's area

pub area_numbers : (c : List Point) → area_of (numbers_of c) ≡ contour_area c
unfolding contour_area numbers_of
area_numbers [] = area_none
area_numbers (p ∷ c) =
    let n : length c + 1 ≡ point_count (numbers_of (p ∷ c)) = omega (arith, length_numbers (p ∷ c)) in
    let sums = sum_same (length c) (λ i. cross_of (numbers_of (p ∷ c)) i (i + 1)) (cross_at p c) (λ i l. cross_next p c i) in
    sym (area_closed (numbers_of (p ∷ c)) (length c) n)
    ∙ (λ t. sums t +ℤ cross_numbers (p ∷ c) (length c) 0 t)
    ∙ sum_area p p c

-- and of contour j of a layer's tables
pub area_polygon : (t : FlatLayer) → is_layer t ≡ true → (j : ℕ) → j < length t.ends
    → area_of (contour_of t.points t.ends j) ≡ contour_area (get_or (polygons_of t) j [])
area_polygon t e j h = ap area_of (contour_polygon t e j h) ∙ area_numbers (get_or (polygons_of t) j [])

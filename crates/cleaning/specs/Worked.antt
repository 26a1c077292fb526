-- Worked values: contours that are kept, shortened, and dropped, by computation from the definitions.
use Rattle.std.specs.Prelude.{◌≡◌, refl, true, false, [], ◌∷◌, pos, negsuc}
use Rattle.polygons.specs.Flat.{Point, point}
use Rattle.polygons.specs.ContourAreas.{cross_points, area_from, contour_area}
use Rattle.cleaning.specs.Cleaning.{same_point, unrepeated, trimmed, neat, among, variety, kept, cleaned, same_points, is_clean}

abbrev A : Point
A = point (pos 5) (pos 0)

abbrev B : Point
B = point (pos 0) (pos 5)

abbrev C : Point
C = point (pos 0) (pos 0)

abbrev D : Point
D = point (negsuc 0) (pos 5)

-- part P at height 5: clean
five : cleaned ((A ∷ B ∷ C ∷ []) ∷ []) ≡ (A ∷ B ∷ C ∷ []) ∷ []
unfolding cleaned kept neat unrepeated trimmed variety among same_point
five = refl

-- and at height 10, one point three times: dropped, the layer stays
ten : cleaned ((C ∷ C ∷ C ∷ []) ∷ []) ≡ []
unfolding cleaned kept neat unrepeated trimmed variety among same_point
ten = refl

-- repeated points, and points at the end that equal the first
shortened : cleaned ((A ∷ A ∷ B ∷ B ∷ B ∷ C ∷ A ∷ A ∷ []) ∷ []) ≡ (A ∷ B ∷ C ∷ []) ∷ []
unfolding cleaned kept neat unrepeated trimmed variety among same_point
shortened = refl

-- the first point met again on the way stays
again : cleaned ((A ∷ B ∷ A ∷ C ∷ A ∷ []) ∷ []) ≡ (A ∷ B ∷ A ∷ C ∷ []) ∷ []
unfolding cleaned kept neat unrepeated trimmed variety among same_point
again = refl

-- two points again and again: dropped, though no neighbours are equal; the contours around it stay in order
two_points : cleaned ((A ∷ B ∷ C ∷ []) ∷ (A ∷ B ∷ A ∷ B ∷ []) ∷ (D ∷ B ∷ A ∷ []) ∷ []) ≡ (A ∷ B ∷ C ∷ []) ∷ (D ∷ B ∷ A ∷ []) ∷ []
unfolding cleaned kept neat unrepeated trimmed variety among same_point
two_points = refl

-- points that share one coordinate differ
near : kept (B ∷ D ∷ C ∷ []) ≡ true
unfolding kept neat unrepeated trimmed variety among same_point
near = refl

-- whether a contour is clean
clean : is_clean (A ∷ B ∷ A ∷ C ∷ []) ≡ true
unfolding is_clean kept same_points neat unrepeated trimmed variety among same_point
clean = refl

closed : is_clean (A ∷ B ∷ C ∷ A ∷ []) ≡ false
unfolding is_clean kept same_points neat unrepeated trimmed variety among same_point
closed = refl

few : is_clean (A ∷ B ∷ []) ≡ false
unfolding is_clean kept same_points neat unrepeated trimmed variety among same_point
few = refl

-- areas
area_five : contour_area (A ∷ B ∷ C ∷ []) ≡ pos 25
unfolding contour_area area_from cross_points
area_five = refl

area_two : contour_area (A ∷ B ∷ A ∷ B ∷ []) ≡ pos 0
unfolding contour_area area_from cross_points
area_two = refl

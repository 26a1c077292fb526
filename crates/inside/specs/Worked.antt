-- Worked values of "lies in", by computation from the definitions. The square has its corners at (0, 0), (4, 0), (4, 4) and (0, 4).
use Rattle.std.specs.Prelude.{◌≡◌, refl, Bool, true, false, List, [], ◌∷◌, map, pos, negsuc}
use Rattle.laws.specs.Count.{count}
use Rattle.polygons.specs.Flat.{Point, point}
use Rattle.cut_points.specs.Points.{numerator, denominator}
use Rattle.contours.specs.Areas.{next_point}
use Rattle.inside.specs.Inside.{passes_up, meets_right, counts_for, is_odd, lies_in}

abbrev square : List Point
square = point (pos 0) (pos 0) ∷ point (pos 4) (pos 0) ∷ point (pos 4) (pos 4) ∷ point (pos 0) (pos 4) ∷ []

-- which of some points lie in a contour
abbrev lying : List Point → List Point → List Bool
lying c = map (λ p. lies_in p c)

-- a point inside, and one on each side of the square: left, right, lower, upper
sides : lying square (point (pos 1) (pos 3) ∷ point (pos 0) (pos 2) ∷ point (pos 4) (pos 2) ∷ point (pos 2) (pos 0) ∷ point (pos 2) (pos 4) ∷ [])
    ≡ true ∷ true ∷ false ∷ true ∷ false ∷ []
unfolding lies_in is_odd counts_for passes_up meets_right numerator denominator next_point count
sides = refl

-- its corners: only the lower left one lies in it
corners : lying square square ≡ true ∷ false ∷ false ∷ false ∷ []
unfolding lies_in is_odd counts_for passes_up meets_right numerator denominator next_point count
corners = refl

-- left of it, level with its lower side, with its middle and with its upper side
beside : lying square (point (negsuc 0) (pos 0) ∷ point (negsuc 0) (pos 2) ∷ point (negsuc 0) (pos 4) ∷ []) ≡ false ∷ false ∷ false ∷ []
unfolding lies_in is_odd counts_for passes_up meets_right numerator denominator next_point count
beside = refl

-- level with the corner of a diamond that points to it, inside: the two edges there are counted once
abbrev diamond : List Point
diamond = point (pos 2) (pos 0) ∷ point (pos 4) (pos 2) ∷ point (pos 2) (pos 4) ∷ point (pos 0) (pos 2) ∷ []

points_to : lying diamond (point (pos 2) (pos 2) ∷ point (pos 5) (pos 2) ∷ point (negsuc 0) (pos 2) ∷ []) ≡ true ∷ false ∷ false ∷ []
unfolding lies_in is_odd counts_for passes_up meets_right numerator denominator next_point count
points_to = refl

-- the edge from (0, 0) to (1, 3) is at x = 1/3 where y is 1: right of 0, and not of 1
third : counts_for (point (pos 0) (pos 1)) (point (pos 0) (pos 0)) (point (pos 1) (pos 3)) ≡ true
unfolding counts_for passes_up meets_right numerator denominator
third = refl

not_third : counts_for (point (pos 1) (pos 1)) (point (pos 0) (pos 0)) (point (pos 1) (pos 3)) ≡ false
unfolding counts_for passes_up meets_right numerator denominator
not_third = refl

-- nothing lies in a contour whose points are all equal, or that goes along a line and back
equal_points : lies_in (point (pos 1) (pos 1)) (point (pos 1) (pos 1) ∷ point (pos 1) (pos 1) ∷ []) ≡ false
unfolding lies_in is_odd counts_for passes_up meets_right numerator denominator next_point count
equal_points = refl

there_and_back : lies_in (point (pos 0) (pos 1)) (point (pos 1) (pos 0) ∷ point (pos 3) (pos 4) ∷ []) ≡ false
unfolding lies_in is_odd counts_for passes_up meets_right numerator denominator next_point count
there_and_back = refl

-- Contour j (CONTOUR-1 to CONTOUR-5): where it lies in a table of points
-- (two numbers for each, x and y), and what it holds. An end counts points.
use Rattle.std.specs.Prelude.{ℕ, ◌-◌, ◌*◌, Bool, cond, ◌&&◌, List, [], ltb, leb, length, get_or, ℤ}
use Rattle.polygons.specs.Flat.{points_between, end_before}

-- the previous end, 0 for the first contour (CONTOUR-2); where j has
-- no end it decides nothing, since `is_contour` asks for that first
abbrev pub prior_end : List ℕ → ℕ → ℕ
prior_end ends j = end_before 0 ends j

-- its own end, likewise
abbrev pub own_end : List ℕ → ℕ → ℕ
own_end ends j = get_or ends j 0

-- j has an end (CONTOUR-3), and the two ends neither fall (CONTOUR-4) nor pass a table of n numbers (CONTOUR-5)
unfoldable pub is_contour : ℕ → List ℕ → ℕ → Bool
is_contour n ends j = ltb j (length ends) && leb (prior_end ends j) (own_end ends j) && leb (2 * own_end ends j) n

-- contour j: where it is one, the part from the previous end to its own (CONTOUR-1), else the empty part (CONTOUR-3 to CONTOUR-5)
unfoldable pub contour_of : List ℤ → List ℕ → ℕ → List ℤ
contour_of points ends j = cond (is_contour (length points) ends j) (points_between points (prior_end ends j) (own_end ends j)) []

-- how many numbers it has: none where it is no contour
unfoldable pub span_of : ℕ → List ℕ → ℕ → ℕ
span_of n ends j = cond (is_contour n ends j) (2 * (own_end ends j - prior_end ends j)) 0

-- the position of its first number: 0 where it has none
unfoldable pub first_of : ℕ → List ℕ → ℕ → ℕ
first_of n ends j = cond (ltb 0 (span_of n ends j)) (2 * prior_end ends j) 0

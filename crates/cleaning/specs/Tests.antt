-- The points of a contour that are not a given one, and how a contour shows by its points that it is clean.
use Rattle.std.specs.Prelude.{Bool, false, not, cond, ◌&&◌, List, [], ◌∷◌, leb}
use Rattle.polygons.specs.Flat.{Point}
use Rattle.cleaning.specs.Cleaning.{same_point, variety, fewest_different}

-- the points that are not p
unfoldable pub others : Point → List Point → List Point
others p [] = []
others p (q ∷ c) = cond (same_point p q) (others p c) (q ∷ others p c)

-- after p no point equals the one before it, and the last is not the first
unfoldable pub apart : Point → Point → List Point → Bool
apart first p [] = not (same_point first p)
apart first p (q ∷ c) = not (same_point p q) && apart first q c

-- a clean contour, by its points (`looks_clean_lem`, CleaningLaws)
unfoldable pub looks_clean : List Point → Bool
looks_clean [] = false
looks_clean (p ∷ c) = apart p p c && leb fewest_different (variety (p ∷ c))

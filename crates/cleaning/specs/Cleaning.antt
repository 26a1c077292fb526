-- Cleaning (CLEAN-1 to CLEAN-5): a contour as a list of points in three steps, and a layer contour by contour.
use Rattle.std.specs.Prelude.{ℕ, ◌+◌, Bool, true, false, cond, ◌&&◌, ◌||◌, List, [], ◌∷◌, leb}
use Rattle.laws.specs.Integers.{eq_z}
use Rattle.polygons.specs.Flat.{Point}

-- two points are equal
unfoldable pub same_point : Point → Point → Bool
same_point p q = eq_z p.x q.x && eq_z p.y q.y

-- ---- first step: a point equal to the one before it is dropped (CLEAN-1)

-- what is left of the points after p
unfoldable pub unrepeated : Point → List Point → List Point
unrepeated p [] = []
unrepeated p (q ∷ c) = cond (same_point p q) (unrepeated p c) (q ∷ unrepeated q c)

-- ---- second step: then points at the end equal to the first, p, are dropped (CLEAN-2)

-- q, where this is left of the points after it
abbrev pub kept_before : Point → Point → List Point → List Point
kept_before p q [] = cond (same_point p q) [] (q ∷ [])
kept_before p q (r ∷ c) = q ∷ r ∷ c

-- what is left of the points after p
unfoldable pub trimmed : Point → List Point → List Point
trimmed p [] = []
trimmed p (q ∷ c) = kept_before p q (trimmed p c)

-- both steps; the first point stays
unfoldable pub neat : List Point → List Point
neat [] = []
neat (p ∷ c) = p ∷ trimmed p (unrepeated p c)

-- ---- third step: a contour left with fewer than three different points is dropped whole (CLEAN-3)

-- p is one of these points
unfoldable pub among : Point → List Point → Bool
among p [] = false
among p (q ∷ c) = same_point p q || among p c

-- how many different points there are: each is counted where it stands last
unfoldable pub variety : List Point → ℕ
variety [] = 0
variety (p ∷ c) = cond (among p c) (variety c) (1 + variety c)

abbrev pub fewest_different : ℕ
fewest_different = 3

unfoldable pub kept : List Point → Bool
kept c = leb fewest_different (variety (neat c))

-- ---- a layer: its contours in order (CLEAN-4)

unfoldable pub cleaned : List (List Point) → List (List Point)
cleaned [] = []
cleaned (c ∷ cs) = cond (kept c) (neat c ∷ cleaned cs) (cleaned cs)

-- ---- a clean contour: cleaning keeps it, with all its points (CLEAN-5)

-- two lists of the same points
unfoldable pub same_points : List Point → List Point → Bool
same_points [] [] = true
same_points [] (q ∷ d) = false
same_points (p ∷ c) [] = false
same_points (p ∷ c) (q ∷ d) = same_point p q && same_points c d

unfoldable pub is_clean : List Point → Bool
is_clean c = kept c && same_points (neat c) c

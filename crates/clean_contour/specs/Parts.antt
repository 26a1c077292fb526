-- A contour as a part of a table of points, and what each pass over it finds and leaves (CLEAN-1 to CLEAN-3).
use Rattle.std.specs.Prelude.{ℕ, ◌+◌, ◌*◌, ◌≤◌, ◌<◌, ◌≡◌, Bool, cond, ◌||◌, List, [], ◌∷◌, length, get_or, set, ℤ, pos}
use Rattle.std.proofs.lemmas.List.Edits.{sets}
use Rattle.polygons.specs.Flat.{Point, point, numbers_of, points_in, points_between}
use Rattle.cleaning.specs.Cleaning.{same_point, unrepeated, trimmed, neat, kept}

-- ---- points of a table

-- a table has point i
abbrev pub Has : List ℤ → ℕ → Type 0
Has points i = 2 * i + 1 < length points

-- point i
abbrev pub point_in : List ℤ → ℕ → Point
point_in points i = point (get_or points (2 * i) (pos 0)) (get_or points (2 * i + 1) (pos 0))

-- point i equals point a or point b
abbrev pub is_either : List ℤ → ℕ → ℕ → ℕ → Bool
is_either points a b i = same_point (point_in points a) (point_in points i) || same_point (point_in points b) (point_in points i)

-- the table with point i written
abbrev pub with_point : List ℤ → ℕ → Point → List ℤ
with_point points i p = set (set points (2 * i) p.x) (2 * i + 1) p.y

-- a table has the points before an end
abbrev pub HasPoints : List ℤ → ℕ → Type 0
HasPoints points end = 2 * end ≤ length points

-- the points from i up to an end (CONTOUR-1)
unfoldable pub contour_part : List ℤ → ℕ → ℕ → List Point
contour_part points i end = points_in (points_between points i end)

-- ---- passes over the points of a contour

-- what is left from the first point on that is neither p nor q
unfoldable pub beyond : Point → Point → List Point → List Point
beyond p q [] = []
beyond p q (r ∷ c) = cond (same_point p r || same_point q r) (beyond p q c) (r ∷ c)

-- from `from` on, r is the first that is neither point a nor point b, or the end
pub record Found (points : List ℤ) (from end a b r : ℕ) : Type 0 where
  pub onward : from ≤ r
  pub upto : r ≤ end
  pub rest : contour_part points r end ≡ beyond (point_in points a) (point_in points b) (contour_part points from end)

-- the contour from `from` ends at r where the points at its end that equal the first are left out
pub record Trimmed (points : List ℤ) (from end r : ℕ) : Type 0 where
  pub some : from < r
  pub upto : r ≤ end
  pub rest : contour_part points (from + 1) r ≡ trimmed (point_in points from) (contour_part points (from + 1) end)

-- points without those that equal the one before (CLEAN-1)
unfoldable pub without_repeats : List Point → List Point
without_repeats [] = []
without_repeats (p ∷ c) = p ∷ unrepeated p c

-- what cleaning leaves of a contour: nothing where it is dropped (CLEAN-3)
unfoldable pub remains : List Point → List Point
remains c = cond (kept c) (neat c) []

-- the points up to r are what cleaning leaves of a contour, but for those that equal the one before
pub record CleanEnd (points : List ℤ) (from end r : ℕ) : Type 0 where
  pub onward : from ≤ r
  pub upto : r ≤ end
  pub rest : without_repeats (contour_part points from r) ≡ remains (contour_part points from end)

-- ---- what is written

-- room to clean the points from `from` up to an end of one table into another, or where they stand, from point `at` on
pub record CleanRoom (points table : List ℤ) (from end at : ℕ) : Type 0 where
  pub there : HasPoints points end
  pub room : HasPoints table end
  pub behind : at ≤ from

-- points stand in a table from point `at` up to r, all else as before
pub record PointsStand (c : List Point) (table : List ℤ) (at r : ℕ) (table' : List ℤ) : Type 0 where
  pub end : r ≡ at + length c
  pub holds : table' ≡ sets table (2 * at) (numbers_of c)

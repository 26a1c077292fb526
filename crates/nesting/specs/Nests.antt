-- Contours within contours (NEST-5 to NEST-7): the depth and the parent of each contour of a layer, as data.
-- No geometry is assumed: contours may cross, touch or be equal.
use Rattle.std.specs.Prelude.{ℕ, Bool, not, cond, ◌&&◌, List, [], ltb, eqb, length, get_or, nat_abs}
use Rattle.laws.specs.Count.{count}
use Rattle.laws.specs.Least.{least, some}
use Rattle.polygons.specs.Flat.{Point, nth_point}
use Rattle.polygons.specs.ContourAreas.{contour_area}
use Rattle.inside.specs.Inside.{lies_in}

-- contour j, asked only of contours that there are
abbrev pub nth_contour : List (List Point) → ℕ → List Point
nth_contour cs j = get_or cs j []

-- contour i is held by j: j is another, and the first point of i lies in it
unfoldable pub held_by : List (List Point) → ℕ → ℕ → Bool
held_by cs i j = not (eqb j i) && lies_in (nth_point (nth_contour cs i) 0) (nth_contour cs j)

-- the depth of contour i: how many others its first point lies in (NEST-5)
unfoldable pub depth_of : List (List Point) → ℕ → ℕ
depth_of cs i = count (length cs) (held_by cs i)

-- the absolute area of contour j, doubled
unfoldable pub size_of : List (List Point) → ℕ → ℕ
size_of cs j = nat_abs (contour_area (nth_contour cs j))

-- of the contours that hold i none is smaller than j, which is one of them
unfoldable pub smallest : List (List Point) → ℕ → ℕ → Bool
smallest cs i j = held_by cs i j && not (some (length cs) (λ k. held_by cs i k && ltb (size_of cs k) (size_of cs j)))

-- what is written where there is no parent (NEST-7)
abbrev pub no_parent : ℕ
no_parent = 4294967295

-- the parent of contour i: the smallest of those that hold it, at a tie the one of the lower number (NEST-6)
unfoldable pub parent_of : List (List Point) → ℕ → ℕ
parent_of cs i = cond (some (length cs) (smallest cs i)) (least (length cs) (smallest cs i)) no_parent

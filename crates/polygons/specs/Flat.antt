-- A layer as data: its contours as lists of points, the two tables that hold them (points as in
-- CUT-3, ends as in CUT-4), the way back, and the test that two tables are those of a layer.
use Rattle.std.specs.Prelude.{ℕ, zero, suc, ◌+◌, ◌-◌, ◌*◌, ◌/◌, ◌%◌, ◌≤◌, Bool, true, not, ◌&&◌, leb, eqb, length, get_or, take, drop, ℤ, pos, nat_abs}
use mathlib.Core.List.{List, [], ◌∷◌, flatten}
use Rattle.laws.specs.Tables.{overwrite}
use Rattle.mesh.specs.Corners.{largest}
pub use Rattle.mesh.specs.Corners.{most_points}
use Rattle.mesh.specs.Operation.{Condition, whole}
use Rattle.mesh.specs.Refusals.{Told, refusal}
use Rattle.mesh.specs.Tests.{range}

-- ---- contours

-- a point of a contour
pub record Point : Type 0 where
  pub x : ℤ
  pub y : ℤ

abbrev pub point : ℤ → ℤ → Point
point x y = record { x = x; y = y }

-- what stands for a point past the last, where the numbers have 0 too
abbrev pub no_point : Point
no_point = record { x = pos 0; y = pos 0 }

-- point i of a contour, asked only of points that it has
abbrev pub nth_point : List Point → ℕ → Point
nth_point c i = get_or c i no_point

-- a point lies in coordinate range (LIMIT-3)
abbrev pub PointNear : Point → Type 0
PointNear p = (nat_abs p.x ≤ largest) × (nat_abs p.y ≤ largest)

-- fewest points of a contour (SECTION-7, FILE-4)
abbrev pub fewest_points : ℕ
fewest_points = 2

-- how many values the lists have in all: the points of a layer
abbrev pub point_total : {A : Type 0} → List (List A) → ℕ
point_total [] = 0
point_total (c ∷ cs) = length c + point_total cs

-- of each value of a list
abbrev pub Each : {A : Type 0} → (A → Type 0) → List A → Type 0
Each P [] = Unit {0}
Each P (a ∷ l) = P a × Each P l

-- contours of two points or more (FILE-4), and of no more points than a layer has (FILE-5)
pub record Polygons (cs : List (List Point)) : Type 0 where
  pub few : point_total cs ≤ most_points
  pub each : Each (λ (c : List Point). fewest_points ≤ length c) cs

-- ---- their tables

-- points and ends
pub record FlatLayer : Type 0 where
  pub points : List ℤ
  pub ends : List ℕ

abbrev pub flat : List ℤ → List ℕ → FlatLayer
flat points ends = record { points = points; ends = ends }

-- x and y of each point, in turn (CUT-3)
unfoldable pub numbers_of : List Point → List ℤ
numbers_of [] = []
numbers_of (p ∷ c) = p.x ∷ p.y ∷ numbers_of c

-- for each contour the number of points up to its end, where k came before (CUT-4)
unfoldable pub ends_from : {A : Type 0} → ℕ → List (List A) → List ℕ
ends_from k [] = []
ends_from k (c ∷ cs) = (k + length c) ∷ ends_from (k + length c) cs

abbrev pub ends_of : {A : Type 0} → List (List A) → List ℕ
ends_of cs = ends_from 0 cs

abbrev pub flat_of : List (List Point) → FlatLayer
flat_of cs = flat (numbers_of (flatten cs)) (ends_of cs)

-- contours in the first entries of two tables, all else as before
abbrev pub holding : List (List Point) → FlatLayer → FlatLayer
holding cs t = let filled = flat_of cs in flat (overwrite filled.points t.points) (overwrite filled.ends t.ends)

-- and back: the layer of so many contours and points in the first entries of two tables
abbrev pub layer_front : ℕ × ℕ → FlatLayer → FlatLayer
layer_front = λ (contours, points) t. flat (take (2 * points) t.points) (take contours t.ends)

-- ---- and back

-- the points of a row of numbers, x and y in turn; one number more tells none
unfoldable pub points_in : List ℤ → List Point
points_in [] = []
points_in (x ∷ []) = []
points_in (x ∷ y ∷ row) = record { x = x; y = y } ∷ points_in row

-- the part of the points from one end to another (CONTOUR-1)
abbrev pub points_between : List ℤ → ℕ → ℕ → List ℤ
points_between points from end = take (2 * (end - from)) (drop (2 * from) points)

-- the contours with these ends, after one that ended at `from`:
-- each is the part from the previous end to its own
unfoldable pub contours_in : List ℤ → ℕ → List ℕ → List (List Point)
contours_in points from [] = []
contours_in points from (end ∷ ends) = points_in (points_between points from end) ∷ contours_in points end ends

-- the end before number j of these ends, `from` for the first; asked only where number j is an end
unfoldable pub end_before : ℕ → List ℕ → ℕ → ℕ
end_before from ends zero = from
end_before from ends (suc j) = get_or ends j 0

abbrev pub polygons_of : FlatLayer → List (List Point)
polygons_of t = contours_in t.points 0 t.ends

-- ---- 1: two tables are not those of a layer, place 0

-- n numbers are points, and not more than a run or a layer has (AREA-3, LIMIT-7)
unfoldable pub run_fits : ℕ → Bool
run_fits n = eqb (n % 2) 0 && leb (n / 2) most_points

-- ends rise by two or more, from `from` on
unfoldable pub ends_rise : ℕ → List ℕ → Bool
ends_rise from [] = true
ends_rise from (end ∷ ends) = leb (from + fewest_points) end && ends_rise end ends

-- the last end, `from` if there is none
unfoldable pub last_end : ℕ → List ℕ → ℕ
last_end from [] = from
last_end from (end ∷ ends) = last_end end ends

-- an even number of numbers, of no more points than a layer has; ends that rise from 0 by two or more; the last, 0 if there is none, is the number of points
unfoldable pub is_layer : FlatLayer → Bool
is_layer t =
    let n = length t.points in
    run_fits n && ends_rise 0 t.ends && eqb (last_end 0 t.ends) (n / 2)

abbrev pub not_layer : FlatLayer → Condition Told
not_layer t = whole (refusal 1) (not (is_layer t))

-- the refusals of a layer that is handed in, in order: 1 (GIVEN-2), and 2, a number out of coordinate range (GIVEN-3)
abbrev pub layer_tests : FlatLayer → List (Condition Told)
layer_tests t = not_layer t ∷ range t.points ∷ []

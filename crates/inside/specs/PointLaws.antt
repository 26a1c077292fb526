-- The points of a row of numbers: point i is numbers 2 i and 2 i + 1, there are half as many, their area is that of the numbers, and those of a run are in
-- coordinate range. Points as the code holds them.
use Rattle.std.specs.Prelude.{ℕ, ◌+◌, ◌*◌, ◌/◌, ◌%◌, ◌≡◌, List, length, ℤ}
use Rattle.std.proofs.Common.{sym, ap, ◌∙◌, subst, arith, to_z, of_z}
use Rattle.std.specs.Int.{w32}
use Rattle.laws.specs.Machine.{same_in}
use Rattle.mesh.specs.Corners.{largest}
use Rattle.polygons.specs.Flat.{Point, point, nth_point, PointNear, numbers_of, points_in}
use Rattle.polygons.proofs.FlatLaws.{number_x, number_y, row_points}
use Rattle.polygons.specs.ContourAreas.{contour_area}
use Rattle.contours.specs.Areas.{x_of, y_of, area_of}
use Rattle.contours.specs.Runs.{PointRun}
use Rattle.contours.specs.ContourAreaLaws.{area_numbers}
use Rattle.inside.specs.Inside.{lies_in}

module _ (row : List ℤ) (even : length row % 2 ≡ 0) where
  -- as many points as pairs of numbers, and their numbers are the row
  both : (numbers_of (points_in row) ≡ row) × (length (points_in row) ≡ length row / 2)
  both = row_points (length row / 2) row (omega arith)

  pub row_count : length (points_in row) ≡ length row / 2
  row_count = both.1

  pub row_point_lem : (i : ℕ) → nth_point (points_in row) i ≡ point (x_of row i) (y_of row i)
  row_point_lem i =
      let x_is = sym (number_x (points_in row) i) ∙ ap (λ (r : List ℤ). x_of r i) both.0 in
      let y_is = sym (number_y (points_in row) i) ∙ ap (λ (r : List ℤ). y_of r i) both.0 in
      λ t. point (x_is t) (y_is t)

  pub row_area : area_of row ≡ contour_area (points_in row)
  row_area = ap area_of (sym both.0) ∙ area_numbers (points_in row)

module _ {row : List ℤ} (run : PointRun row) (i : ℕ) where
  pub row_near : PointNear (point (x_of row i) (y_of row i))
  row_near = (run.ranged (2 * i), run.ranged (2 * i + 1))

  pub run_near : PointNear (nth_point (points_in row) i)
  run_near = subst PointNear (sym (row_point_lem row run.even i)) row_near

-- ---- points as the code holds them, in two locals

-- the point that two locals stand for
abbrev pub held_point : ℕ → ℕ → Point
held_point x y = point (to_z w32 x) (to_z w32 y)

-- a number that is written to a local and read back
abbrev pub number_back : ℤ → ℤ
number_back z = to_z w32 (of_z w32 z)

-- and a point
abbrev pub read_back : Point → Point
read_back p = point (number_back p.x) (number_back p.y)

-- which is the same, if it is in range
module _ (p : Point) (near : PointNear p) where
  pub back_same : read_back p ≡ p
  back_same = λ t. point (same_in w32 p.x largest near.0 tt t) (same_in w32 p.y largest near.1 tt t)

  pub back_near : PointNear (read_back p)
  back_near = subst PointNear (sym back_same) near

  pub back_lies : (c : List Point) → lies_in (read_back p) c ≡ lies_in p c
  back_lies c = ap (λ (q : Point). lies_in q c) back_same

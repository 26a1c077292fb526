-- A run of points that Area does not refuse.
use Rattle.std.specs.Prelude.{ℕ, ◌%◌, ◌≤◌, ◌≡◌, List, length, get_or, ℤ, pos, nat_abs}
use Rattle.mesh.specs.Corners.{largest}
pub use Rattle.polygons.specs.ContourAreas.{largest_cross}
use Rattle.contours.specs.Areas.{most_points, point_count}

-- an even length, not too many points, every number in range
pub record PointRun (points : List ℤ) : Type 0 where
  pub even : length points % 2 ≡ 0
  pub few : point_count points ≤ most_points
  -- past the end the default 0 is in range, so that this says no more than it does within
  pub ranged : (i : ℕ) → nat_abs (get_or points i (pos 0)) ≤ largest

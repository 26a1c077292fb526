-- What two tables are that the tests of a layer have passed.
use Rattle.std.specs.Prelude.{ℕ, ◌/◌, ◌%◌, ◌≤◌, ◌<◌, ◌≡◌, true, length, get_or, pos, nat_abs}
use Rattle.mesh.specs.Corners.{largest}
use Rattle.polygons.specs.Flat.{most_points, FlatLayer, ends_rise, last_end}

-- what refusal 1 asks of them (GIVEN-2)
pub record FlatTested (t : FlatLayer) : Type 0 where
  pub even : length t.points % 2 ≡ 0
  pub few : length t.points / 2 ≤ most_points
  pub rising : ends_rise 0 t.ends ≡ true
  pub last : last_end 0 t.ends ≡ length t.points / 2

-- and what 2 asks, that their numbers are in range (GIVEN-3)
pub record LayerTested (t : FlatLayer) : Type 0 where
  pub tested : FlatTested t
  pub small : (i : ℕ) → i < length t.points → nat_abs (get_or t.points i (pos 0)) ≤ largest

-- A corner whose edge goes up through a height: what the tests of a mesh establish of it.
use Rattle.std.specs.Prelude.{ℕ, ◌+◌, ◌*◌, ◌≤◌, ◌<◌, length, ℤ, pos, nat_abs, ◌≤ℤ◌, ◌<ℤ◌}
use Rattle.mesh.specs.Corners.{largest, next_corner, start_of, end_of, coord_of, z_of, most_corners}
use Rattle.mesh.specs.Meshes.{Mesh}

-- a fraction n / d in coordinate range
pub record Fraction (n d : ℤ) : Type 0 where
  pub positive : pos 0 <ℤ d
  pub small : nat_abs d ≤ 2097152
  pub inside : nat_abs n ≤ largest * nat_abs d

-- an edge in coordinate range, from u0 at z0 up to u1 at z1, through h
pub record CrossedEdge (u0 u1 z0 z1 h : ℤ) : Type 0 where
  pub u0_in : nat_abs u0 ≤ largest
  pub u1_in : nat_abs u1 ≤ largest
  pub z0_in : nat_abs z0 ≤ largest
  pub z1_in : nat_abs z1 ≤ largest
  pub below : z0 <ℤ h
  pub upto : h ≤ℤ z1

-- the edge of corner c goes up through h
pub record Climbs (m : Mesh) (h : ℤ) (c : ℕ) : Type 0 where
  pub few : c < most_corners
  pub corner : c < length m.corners
  pub next : next_corner c < length m.corners
  pub start_in : 3 * start_of m.corners c + 2 < length m.coords
  pub end_in : 3 * end_of m.corners c + 2 < length m.coords
  pub edge : (axis : ℕ) → axis ≤ 1
      → CrossedEdge (coord_of m.coords axis (start_of m.corners c)) (coord_of m.coords axis (end_of m.corners c))
      (z_of m.coords (start_of m.corners c))
      (z_of m.coords (end_of m.corners c)) h

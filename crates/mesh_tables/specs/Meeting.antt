-- Half of what a right pairing (MESH-8) asks of a corner, enough where every corner has it.
use Rattle.std.specs.Prelude.{ℕ, ◌+◌, ◌*◌, ◌≤◌, ◌<◌, ◌≡◌, List, length, get_or}
use Rattle.mesh.specs.Corners.{triangle_count, start_of, end_of}
use Rattle.mesh.specs.Tests.{pair_of}

-- corner c is paired with a corner that starts at vertex v and is paired back
pub record MeetsVertex (corners pairing : List ℕ) (c v : ℕ) : Type 0 where
  pub corner : pair_of pairing c < length corners
  pub start : start_of corners (pair_of pairing c) ≡ v
  pub back : pair_of pairing (pair_of pairing c) ≡ c

-- each corner of triangle t is paired with one that starts where it ends and is paired back
pub record Thrice (corners pairing : List ℕ) (t : ℕ) : Type 0 where
  pub first : MeetsVertex corners pairing (3 * t) (get_or corners (3 * t + 1) 0)
  pub second : MeetsVertex corners pairing (3 * t + 1) (get_or corners (3 * t + 2) 0)
  pub third : MeetsVertex corners pairing (3 * t + 2) (get_or corners (3 * t) 0)

-- and each corner of the first t triangles
pub record Met (corners pairing : List ℕ) (t : ℕ) : Type 0 where
  pub upto : t ≤ triangle_count corners
  pub meets : (c : ℕ) → c < 3 * t → MeetsVertex corners pairing c (end_of corners c)

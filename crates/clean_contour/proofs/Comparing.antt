-- Points whose numbers were loaded.
use Prim.Native.Nat.{ℕ, ◌<◌, ◌^◌}
use mathlib.Core.Path.{◌≡◌}
use lib.Signed.{mag}
use mir.Syntax.{w32}
use mir.Val.{of_z, to_z}
use Rattle.laws.specs.Machine as machine
use Rattle.polygons.specs.Flat.{Point, point}

-- the point for which two numbers' bits stand
abbrev pub point_of : ℕ → ℕ → Point
point_of x y = point (to_z w32 x) (to_z w32 y)

-- a point whose numbers were loaded
abbrev pub held : Point → Point
held p = point_of (of_z w32 p.x) (of_z w32 p.y)

module _ {p : Point} (fx : mag p.x < 2 ^ 31) (fy : mag p.y < 2 ^ 31) where
  pub held_is : held p ≡ p
  held_is = λ i. point (machine.same w32 p.x fx i) (machine.same w32 p.y fy i)

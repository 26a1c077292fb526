-- What the code reads of an edge.
use Prim.Native.Nat.{ℕ, ◌<◌, ◌^◌}
use mathlib.Core.Path.{◌≡◌, ap, ◌∙◌}
use lib.IntN.{ℤ}
use lib.Signed.{mag}
use mir.Syntax.{w32}
use mir.Val.{to_z, of_z}
use Rattle.laws.specs.Machine.{same}
use Rattle.mesh.specs.Corners.{start_of, end_of, coord_of, z_of}
use Rattle.mesh.specs.Meshes.{Mesh}
use Rattle.cut_points.specs.Points.{numerator, denominator, rounded, exact_over, exact_under, point_at}

-- a call's result, as the caller holds it
pub result_is : {z y : ℤ} → mag z < 2 ^ 31 → z ≡ y → to_z w32 (of_z w32 z) ≡ y
result_is {z} f e = same w32 z f ∙ e

-- these numbers are those of the edge of corner c, and of the height
pub record EdgeRead (m : Mesh) (h : ℤ) (axis c : ℕ) (u0 u1 z0 z1 g : ℤ) : Type 0 where
  pub u0_is : u0 ≡ coord_of m.coords axis (start_of m.corners c)
  pub u1_is : u1 ≡ coord_of m.coords axis (end_of m.corners c)
  pub z0_is : z0 ≡ z_of m.coords (start_of m.corners c)
  pub z1_is : z1 ≡ z_of m.coords (end_of m.corners c)
  pub h_is : g ≡ h

-- by its two vertices
pub read_of : {m : Mesh} {h : ℤ} {axis c : ℕ} {u0 u1 z0 z1 g : ℤ} (a b : ℕ) → a ≡ start_of m.corners c → b ≡ end_of m.corners c
    → u0 ≡ coord_of m.coords axis a → u1 ≡ coord_of m.coords axis b → z0 ≡ z_of m.coords a → z1 ≡ z_of m.coords b → g ≡ h
    → EdgeRead m h axis c u0 u1 z0 z1 g
read_of {m} {axis = axis} a b ea eb p q r s t =
    record {
      u0_is = p ∙ ap (coord_of m.coords axis) ea;
      u1_is = q ∙ ap (coord_of m.coords axis) eb;
      z0_is = r ∙ ap (z_of m.coords) ea;
      z1_is = s ∙ ap (z_of m.coords) eb;
      h_is = t;
    }

module _ {m : Mesh} {h : ℤ} {axis c : ℕ} {u0 u1 z0 z1 g : ℤ} (r : EdgeRead m h axis c u0 u1 z0 z1 g) where
  pub read_point : rounded (numerator u0 u1 z0 z1 g) (denominator z0 z1) ≡ point_at m h axis c
  unfolding point_at exact_over exact_under
  read_point = λ i. rounded (numerator (r.u0_is i) (r.u1_is i) (r.z0_is i) (r.z1_is i) (r.h_is i)) (denominator (r.z0_is i) (r.z1_is i))

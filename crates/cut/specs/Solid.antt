-- The solid lies on the left (SECTION-9, RESULT-2): the way from a
-- crossing to its successor, and the normal of the triangle between them.
use Rattle.std.specs.Prelude.{ℕ, ◌+◌, ◌*◌, ◌≡◌, List, ℤ, pos, neg_ℤ, ◌-ℤ◌, ◌*ℤ◌, ◌≤ℤ◌}
use Rattle.mesh.specs.Corners.{triangle_of, start_of, coord_of, z_of}
use Rattle.mesh.specs.Meshes.{Mesh, PairedMesh}
use Rattle.mesh.specs.Tests.{pair_of}
use Rattle.section.specs.Section.{below, successor}
use Rattle.cut_points.specs.Points.{exact_over, exact_under}
use Rattle.cut_points.specs.Normals.{normal_x, normal_y}

-- the way from the exact crossing of corner c to that of corner s in x (axis 0) or y (axis 1),
-- multiplied by both denominators, which are above zero (`crossing_under`)
unfoldable pub way : Mesh → ℤ → ℕ → ℕ → ℕ → ℤ
way m h axis c s = exact_over m h axis s *ℤ exact_under m c -ℤ exact_over m h axis c *ℤ exact_under m s

-- x and y of the cross product (b − a) × (c − a) over vertices a, b, c
abbrev pub cross_x : List ℤ → ℕ → ℕ → ℕ → ℤ
cross_x coords a b c = normal_x (coord_of coords 1 a) (z_of coords a) (coord_of coords 1 b) (z_of coords b) (coord_of coords 1 c) (z_of coords c)

abbrev pub cross_y : List ℤ → ℕ → ℕ → ℕ → ℤ
cross_y coords a b c = normal_y (coord_of coords 0 a) (z_of coords a) (coord_of coords 0 b) (z_of coords b) (coord_of coords 0 c) (z_of coords c)

-- x and y of the normal of triangle t: over its vertices, in turn
unfoldable pub normal_xOf : Mesh → ℕ → ℤ
normal_xOf m t = cross_x m.coords (start_of m.corners (3 * t)) (start_of m.corners (3 * t + 1)) (start_of m.corners (3 * t + 2))

unfoldable pub normal_yOf : Mesh → ℕ → ℤ
normal_yOf m t = cross_y m.coords (start_of m.corners (3 * t)) (start_of m.corners (3 * t + 1)) (start_of m.corners (3 * t + 2))

-- at height h the way from crossing c to its successor is (−ny, nx) times a number
-- not below zero; the triangle between them is that of the paired corner (SECTION-9)
pub record SolidLeft (m : PairedMesh) (h : ℤ) (c : ℕ) : Type 0 where
  pub factor : ℤ
  pub not_below : pos 0 ≤ℤ factor
  pub along_x : way m.mesh h 0 c (successor (below m.mesh.coords h) m.mesh.corners m.pairing c)
      ≡ factor *ℤ neg_ℤ (normal_yOf m.mesh (triangle_of (pair_of m.pairing c)))
  pub along_y : way m.mesh h 1 c (successor (below m.mesh.coords h) m.mesh.corners m.pairing c)
      ≡ factor *ℤ normal_xOf m.mesh (triangle_of (pair_of m.pairing c))

-- The worked pieces on points (WORKED-7, WORKED-11, WORKED-12), by computation from the definitions.
use Rattle.std.specs.Prelude.{◌≡◌, refl, List, [], ◌∷◌, ℕ, ℤ, pos, negsuc, neg_ℤ, ◌-ℤ◌, ◌*ℤ◌}
use Rattle.mesh.specs.Meshes.{mesh}
use Rattle.cut_points.specs.Points.{numerator, denominator, rounded, exact_over, exact_under, point_at, numbers_of, points_of}
use Rattle.cut_points.specs.Normals.{normal_x, normal_y}

-- edge (0,0,0) to (1,0,2) at 1: x is 1 (WORKED-11)
half : rounded (numerator (pos 0) (pos 1) (pos 0) (pos 2) (pos 1)) (denominator (pos 0) (pos 2)) ≡ pos 1
unfolding rounded numerator denominator
half = refl

-- to (−1,0,2): x is −1 (WORKED-12)
minus_half : rounded (numerator (pos 0) (negsuc 0) (pos 0) (pos 2) (pos 1)) (denominator (pos 0) (pos 2)) ≡ negsuc 0
unfolding rounded numerator denominator
minus_half = refl

-- part P
abbrev coords : List ℤ
coords = pos 0 ∷ pos 0 ∷ pos 0 ∷ pos 10 ∷ pos 0 ∷ pos 0 ∷ pos 0 ∷ pos 10 ∷ pos 0 ∷ pos 0 ∷ pos 0 ∷ pos 10 ∷ []

abbrev corners : List ℕ
corners = 0 ∷ 2 ∷ 1 ∷ 0 ∷ 1 ∷ 3 ∷ 0 ∷ 3 ∷ 2 ∷ 1 ∷ 2 ∷ 3 ∷ []

-- height 5: names 4, 10, 6; points (5,0), (0,5), (0,0) (WORKED-7)
middle : points_of (mesh coords corners) (pos 5) (4 ∷ 10 ∷ 6 ∷ []) ≡ pos 5 ∷ pos 0 ∷ pos 0 ∷ pos 5 ∷ pos 0 ∷ pos 0 ∷ []
unfolding numbers_of point_at exact_over exact_under rounded numerator denominator
middle = refl

-- from name 4 to name 10, through triangle 3 with vertices 3, 1, 2, in turn: (10 − 5) (−ny, nx), multiplied out
along_x : exact_over (mesh coords corners) (pos 5) 0 10 *ℤ exact_under (mesh coords corners) 4 -ℤ exact_over (mesh coords corners) (pos 5) 0 4 *ℤ exact_under
    (mesh coords corners) 10 ≡ pos 5 *ℤ neg_ℤ (normal_y (pos 0) (pos 10) (pos 10) (pos 0) (pos 0) (pos 0))
unfolding exact_over exact_under numerator denominator normal_y
along_x = refl

along_y : exact_over (mesh coords corners) (pos 5) 1 10 *ℤ exact_under (mesh coords corners) 4 -ℤ exact_over (mesh coords corners) (pos 5) 1 4 *ℤ exact_under
    (mesh coords corners) 10 ≡ pos 5 *ℤ normal_x (pos 0) (pos 10) (pos 0) (pos 0) (pos 10) (pos 0)
unfolding exact_over exact_under numerator denominator normal_x
along_y = refl

-- and n is (100, 100, ..), outward
outward : (normal_x (pos 0) (pos 10) (pos 0) (pos 0) (pos 10) (pos 0) ≡ pos 100) × (normal_y (pos 0) (pos 10) (pos 10) (pos 0) (pos 0) (pos 0) ≡ pos 100)
unfolding normal_x normal_y
outward = (refl, refl)

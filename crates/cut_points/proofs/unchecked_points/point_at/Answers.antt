-- `point_at` meets its contract.
use Prim.Native.Nat.{ℕ}
use mathlib.Core.Path.{◌≡◌, refl, ap, ◌∙◌}
use mathlib.Core.List.{List}
use lib.ListN.{get_or}
use mir.Syntax.{w32}
use mir.Val.{to_z, of_z}
use mir.ValLaws.{to_z-of_z}
use Rattle.mesh.specs.Corners.{next_corner, start_of, end_of}
use Rattle.mesh.specs.Meshes.{mesh}
use Rattle.cut_points.proofs.Reading.{result_is, EdgeRead, read_of, read_point}
use Rattle.cut_points.proofs.unchecked_points.point_at.Goals as goal
use Rattle.cut_points.proofs.unchecked_points.point_at.Goals.{After-coord_of-z1}

-- the end that was read
end_is : (xs : List ℕ) (c : ℕ) {b n : ℕ} → b ≡ get_or xs n 0 → n ≡ next_corner c → b ≡ end_of xs c
end_is xs c p q = p ∙ ap (λ k. get_or xs k 0) q

-- the five numbers that were read
held : (c : After-coord_of-z1)
    → let s = c.args in
    EdgeRead (mesh s.coords.now s.corners.now) s.h s.axis s.c
    (to_z w32 (of_z w32 c.coord_of-u0.result)) (to_z w32 (of_z w32 c.coord_of-u1.result))
    (to_z w32 (of_z w32 c.coord_of-z0.result)) (to_z w32 (of_z w32 c.coord_of-z1.result)) (to_z w32 (of_z w32 s.h))
held c =
    read_of (start_of c.args.corners.now c.args.c) (start_of c.args.corners.now c.next_corner-n.result) refl (end_is _ _ refl c.next_corner-n.ensures.value)
    (result_is c.coord_of-u0.type_inv c.coord_of-u0.ensures.value)
    (result_is c.coord_of-u1.type_inv c.coord_of-u1.ensures.value)
    (result_is c.coord_of-z0.type_inv c.coord_of-z0.ensures.value)
    (result_is c.coord_of-z1.type_inv c.coord_of-z1.ensures.value)
    (to_z-of_z w32 _ c.ranges.h)

pub returns : goal.returns
returns c = record { value = result_is c.meet.type_inv c.meet.ensures.value ∙ read_point (held (goal.at.returns c).After-coord_of-z1) }

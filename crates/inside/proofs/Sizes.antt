-- What `absolute_area` answers: the size of the doubled area.
use Prim.Native.Nat.{ℕ, ◌^◌, ◌<◌}
use mathlib.Core.Path.{◌≡◌, ap, ◌∙◌}
use mathlib.Core.List.{List}
use lib.IntN.{ℤ, nat_abs}
use lib.Signed.{mag}
use mir.Syntax.{w64}
use mir.Val.{to_z, of_z}
use Rattle.laws.specs.Machine.{same}
use Rattle.polygons.specs.Flat.{points_in}
use Rattle.polygons.specs.ContourAreas.{contour_area}
use Rattle.contours.specs.Areas.{area_of}
use Rattle.contours.specs.Runs.{PointRun}
use Rattle.inside.specs.PointLaws.{row_area}

-- z is what `doubled_area` gave, and n its size
pub area_size : {row : List ℤ} {z : ℤ} {n : ℕ} → PointRun row → mag z < 2 ^ 63 → z ≡ area_of row → n ≡ nat_abs (to_z w64 (of_z w64 z))
    → n ≡ nat_abs (contour_area (points_in row))
area_size {row} {z} run ok is e = e ∙ ap nat_abs (same w64 z ok ∙ is ∙ row_area row run.even)

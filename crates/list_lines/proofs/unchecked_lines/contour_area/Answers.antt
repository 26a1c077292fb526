-- `unchecked_lines::contour_area` meets its contract.
use mathlib.Core.Path.{◌∙◌}
use native.Mathlib.Omega.{arith}
use mir.Syntax.{w64}
use Rattle.laws.specs.Machine.{same}
use Rattle.list_lines.proofs.Sums.{measured_area, run_is_measured}
use Rattle.list_lines.proofs.unchecked_lines.contour_area.Goals as goal

pub unwrap-requires : goal.unwrap-requires
unwrap-requires c = run_is_measured c.contour.ensures.value _ c.area.ensures.outcome c.requires

pub returns : goal.returns
returns c = record { value = same w64 _ (omega arith) ∙ measured_area c.contour.ensures.value c.area.ensures.outcome c.unwrap.ensures }

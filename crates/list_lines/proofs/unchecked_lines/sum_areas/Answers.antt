-- `unchecked_lines::sum_areas` meets its contract.
use mathlib.Core.Path.{◌∙◌}
use native.Mathlib.Omega.{arith}
use mir.Syntax.{w64}
use Rattle.laws.specs.Machine.{same}
use Rattle.list_lines.proofs.Sums.{summed_start, sum_fits, summed_next, summed_end}
use Rattle.list_lines.proofs.unchecked_lines.sum_areas.Goals as goal

pub loop-i-init : goal.loop-i-init
loop-i-init c = summed_start

pub contour_area-sum-requires : goal.contour_area-sum-requires
contour_area-sum-requires c = c.requires.each _ (omega arith)

pub overflow_add-sum : goal.overflow_add-sum
overflow_add-sum c =
    sum_fits c.requires c.loop-i.invariant (omega arith) (same w64 _ c.contour_area-sum.type_inv ∙ c.contour_area-sum.ensures.value)

pub loop-i-preserved : goal.loop-i-preserved
loop-i-preserved c =
    summed_next c.requires c.loop-i.invariant (omega arith) (same w64 _ c.contour_area-sum.type_inv ∙ c.contour_area-sum.ensures.value)

pub returns : goal.returns
returns c = record { value = summed_end c.requires c.loop-i.invariant (omega arith) }

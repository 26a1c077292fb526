-- `unchecked_layers::contour_length` meets its contract.
use native.Mathlib.Omega.{arith}
use Rattle.file_write.proofs.Measuring.{contour_measured}
use Rattle.file_write.proofs.unchecked_layers.contour_length.Goals as goal

pub overflow_add-result : goal.overflow_add-result
overflow_add-result c = omega (arith, (contour_measured c.args.points.now c.number_length.ensures.value c.points_length.ensures.result).1)

pub returns : goal.returns
returns c = record { result = contour_measured c.args.points.now c.number_length.ensures.value c.points_length.ensures.result }

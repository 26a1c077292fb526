-- `unchecked_layers::points_length` meets its contract.
use Prim.Native.Nat.{◌+◌, ◌≤◌}
use native.Mathlib.Omega.{arith}
use mir.Syntax.{w32}
use Rattle.laws.specs.Machine.{same}
use Rattle.file_write.proofs.Measuring.{measure_points_start, point_short, points_next, points_end}
use Rattle.file_write.proofs.unchecked_layers.points_length.Goals as goal
use Rattle.file_write.proofs.unchecked_layers.points_length.Goals.{After-number_length-in-loop-k}

pub loop-k-init : goal.loop-k-init
loop-k-init c = measure_points_start

-- the two numbers of a point take at most ten bytes
short : (c : After-number_length-in-loop-k) → c.number_length.result + c.number_length-in-loop-k.result ≤ 10
short c =
    point_short c.loop-k.invariant (omega arith)
    (same w32 _ (omega arith)) (same w32 _ (omega arith))
    (omega arith) (omega arith)
    c.difference.ensures.value c.difference-in-loop-k.ensures.value c.number_length.ensures.value
    c.number_length-in-loop-k.ensures.value

pub overflow_add-total : goal.overflow_add-total
overflow_add-total c = omega (arith, short c)

pub overflow_add-total-in-loop-k : goal.overflow_add-total-in-loop-k
overflow_add-total-in-loop-k c = omega (arith, short c)

pub loop-k-preserved : goal.loop-k-preserved
loop-k-preserved c =
    points_next c.loop-k.invariant (omega arith) (same w32 _ (omega arith)) (same w32 _ (omega arith)) (omega arith)
    (omega arith) c.difference.ensures.value c.difference-in-loop-k.ensures.value c.number_length.ensures.value
    c.number_length-in-loop-k.ensures.value

pub returns : goal.returns
returns c = record { result = points_end c.loop-k.invariant (omega arith) }

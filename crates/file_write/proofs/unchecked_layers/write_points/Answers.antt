-- `unchecked_layers::write_points` meets its contract.
use native.Mathlib.Omega.{arith}
use mir.Syntax.{w32}
use Rattle.laws.specs.Machine.{same}
use Rattle.file_write.proofs.Writing.{write_points_start, x_room, y_room, points_next, points_end}
use Rattle.file_write.proofs.unchecked_layers.write_points.Goals as goal

pub loop-k-init : goal.loop-k-init
loop-k-init c = write_points_start c.requires

pub write_number-q-requires : goal.write_number-q-requires
write_number-q-requires c =
    x_room c.loop-k.invariant (omega arith) (same w32 _ (omega arith)) (same w32 _ (omega arith))
    c.difference-dx.ensures.value c.difference-dy.ensures.value

pub write_number-p-requires : goal.write_number-p-requires
write_number-p-requires c =
    y_room c.loop-k.invariant (omega arith) (same w32 _ (omega arith)) (same w32 _ (omega arith))
    c.difference-dx.ensures.value c.difference-dy.ensures.value c.write_number-q.ensures.outcome

pub loop-k-preserved : goal.loop-k-preserved
loop-k-preserved c =
    points_next c.loop-k.invariant (omega arith) (same w32 _ (omega arith)) (same w32 _ (omega arith))
    c.difference-dx.ensures.value c.difference-dy.ensures.value c.write_number-q.ensures.outcome
    c.write_number-p.ensures.outcome

pub shape_of-output : goal.shape_of-output
shape_of-output c = c.loop-k.invariant.bytes.size

pub returns : goal.returns
returns c = record { outcome = points_end c.loop-k.invariant (omega arith) }

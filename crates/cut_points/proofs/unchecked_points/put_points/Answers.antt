-- `put_points` meets its contract.
use mathlib.Core.Path.{refl}
use native.Mathlib.Omega.{arith}
use lib.ListN.{get_or}
use mir.Syntax.{w32}
use mir.ValLaws.{to_z-of_z}
use Rattle.cut_points.proofs.Writing.{written_none, written_more, written_all}
use Rattle.cut_points.proofs.unchecked_points.put_points.Goals as goal
use Rattle.cut_points.proofs.unchecked_points.put_points.Goals.{In-loop-i}

pub loop-i-init : goal.loop-i-init
loop-i-init c = written_none

pub loop-i-preserved : goal.loop-i-preserved
loop-i-preserved c =
    written_more c.loop-i.invariant (get_or c.args.names.now c.loop-i.i 0) c.point_at-x.result c.point_at-y.result refl
    c.point_at-x.type_inv c.point_at-y.type_inv c.point_at-x.ensures.value c.point_at-y.ensures.value (omega arith) (omega arith)

pub returns : goal.returns
returns c = record { left = written_all c.loop-i.invariant (to_z-of_z w32 _ c.ranges.h) (omega arith) }

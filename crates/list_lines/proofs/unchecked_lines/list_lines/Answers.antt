-- `unchecked_lines::list_lines` meets its contract.
use Prim.Native.Nat.{◌<◌}
use native.Mathlib.Omega.{arith}
use lib.ListN.{length}
use Rattle.all_heights.specs.Heights.{heights_taken}
use Rattle.list_lines.proofs.Layers.{lines_start, next_line_room, lines_next, lines_end, still_workable, can_take, height_is}
use Rattle.list_lines.proofs.unchecked_lines.list_lines.Goals as goal
use Rattle.list_lines.proofs.unchecked_lines.list_lines.Goals.{In-loop-k}

-- a height is left
height-left : (c : In-loop-k) → c.loop-k.k < length (heights_taken c.args.coords.now c.args.heights.now)
height-left c = omega (arith, c.taken_count-n.ensures.value)

pub loop-k-init : goal.loop-k-init
loop-k-init c = lines_start c.requires.fact_3

pub taken_height-h-requires : goal.taken_height-h-requires
taken_height-h-requires c =
    can_take c.requires.fact_1 c.base_z-low.ensures.value c.base_z-low.type_inv c.loop-k.k (height-left c)

pub list_layer-p-requires : goal.list_layer-p-requires
list_layer-p-requires c =
    let kept = c.loop-k.auto in record {
      fact_1 = c.requires.fact_1.right;
      fact_2 = still_workable c.requires.fact_2 kept.names kept.points kept.ends kept.marks;
      fact_3 = next_line_room c.loop-k.invariant (height-left (goal.at.list_layer-p-requires c).In-loop-k) c.requires.fact_1.few c.requires.fact_3;
    }

pub loop-k-preserved : goal.loop-k-preserved
loop-k-preserved c =
    let left = height-left (goal.at.loop-k-preserved c).In-loop-k in
    let taken = c.taken_height-h in
    let height = height_is c.requires.fact_1 c.base_z-low.ensures.value c.base_z-low.type_inv c.loop-k.k left taken.ensures.value taken.type_inv in
    lines_next c.loop-k.invariant left height c.list_layer-p.ensures.outcome

pub returns : goal.returns
returns c = record { outcome = lines_end c.loop-k.invariant (omega (arith, c.taken_count-n.ensures.value)) }

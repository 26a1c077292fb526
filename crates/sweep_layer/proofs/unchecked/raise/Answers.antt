-- `unchecked::raise` meets its contract.
use lib.IntN.{ℤ}
use mir.Syntax.{w32}
use mir.Val.{to_z, of_z}
use Rattle.mesh.specs.Meshes.{ordered}
use Rattle.cut.specs.OutlineLaws.{long_links}
use Rattle.sweep.specs.Sweep.{Sweep, sweep}
use Rattle.sweep.specs.Places.{RiseTested}
use Rattle.sweep_layer.proofs.Lifting.{held_tested, at_height, raise_outlined, never_refused, lifts}
use Rattle.sweep_layer.proofs.unchecked.raise.Goals as goal
use Rattle.sweep_layer.proofs.unchecked.raise.Goals.{In-Err, Start}

abbrev sweep_of : Start → Sweep
sweep_of start =
    sweep (ordered start.args.coords.now start.args.corners.now start.args.pairing.now start.args.order.now)
    start.args.ring.now start.args.n

-- the height as the code holds it
abbrev height_of : Start → ℤ
height_of start = to_z w32 (of_z w32 start.args.h)

tested : (start : Start) → RiseTested (sweep_of start) (height_of start)
tested start = held_tested (sweep_of start) start.ranges.h start.requires.fact_1

-- the layer of a right mesh is never refused
never : In-Err → ⊥
never c =
    let s : Sweep = sweep (ordered c.args.coords.now c.args.corners.now c.args.pairing.now c.args.order.now) c.args.ring.now c.args.n in
    never_refused s (to_z w32 (of_z w32 c.args.h)) (held_tested s c.ranges.h c.requires.fact_1) c.args.marks.now
    c.link_at.ensures.left c.copy_front.ensures.left c.outline_rings.ensures.outcome c.in-Err.is

pub outline_rings-requires : goal.outline_rings-requires
outline_rings-requires c =
    let start = (goal.at.outline_rings-requires c).Start in
    record {
      fact_1 = raise_outlined (sweep_of start) (height_of start) (tested start) c.args.marks.now c.link_at.ensures.left c.copy_front.ensures.left;
      fact_2 = long_links c.requires.fact_2 c.copy_front.auto.to;
    }

pub height_behind-z-requires : goal.height_behind-z-requires
height_behind-z-requires c = absurd (never (goal.at.height_behind-z-requires c).In-Err)

pub number_behind-i-requires : goal.number_behind-i-requires
number_behind-i-requires c = absurd (never (goal.at.number_behind-i-requires c).In-Err)

pub returns-in-Ok : goal.returns-in-Ok
returns-in-Ok c =
    let start = (goal.at.returns-in-Ok c).Start in
    record {
      outcome = at_height (sweep_of start) c.ranges.h
          (lifts (sweep_of start) (height_of start) (tested start) c.args.marks.now c.link_at.ensures.left c.copy_front.ensures.left
          c.outline_rings.ensures.outcome c.in-Ok.is c.risen_to-passed.ensures.value);
    }

pub returns-in-Err : goal.returns-in-Err
returns-in-Err c = absurd (never (goal.at.returns-in-Err c).In-Err)

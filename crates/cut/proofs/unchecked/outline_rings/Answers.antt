-- `unchecked::outline_rings` meets its contract.
use mir.Syntax.{w32}
use mir.ValLaws.{to_z-of_z}
use Rattle.cut.specs.Cut.{lent}
use Rattle.cut.proofs.Outlining.{traceable, never_stuck, points_asked, traces}
use Rattle.cut.proofs.unchecked.outline_rings.Goals as goal

pub trace-requires : goal.trace-requires
trace-requires c =
    let t = lent c.args.names.now c.args.points.now c.args.ends.now c.args.marks.now in
    traceable _ _ t c.requires.fact_1 c.requires.fact_2

pub put_points-requires : goal.put_points-requires
put_points-requires c =
    let t = lent c.args.names.now c.args.points.now c.args.ends.now c.args.marks.now in
    let left = c.trace.ensures in
    let given =
    points_asked _ _ t c.requires.fact_1 c.requires.fact_2 (left.value, (left.names_left, (left.ends_left, left.links_left))) c.in-Ok.is
    (to_z-of_z w32 c.args.h c.ranges.h) in
    record { fact_1 = given.0; fact_2 = given.1 }

pub returns-in-Ok : goal.returns-in-Ok
returns-in-Ok c =
    let left = c.trace.ensures in
    record {
      outcome = traces _ _ _ c.requires.fact_1 c.requires.fact_2 (left.value, (left.names_left, (left.ends_left, left.links_left))) c.in-Ok.is
          (to_z-of_z w32 c.args.h c.ranges.h) c.put_points.ensures.left;
    }

pub returns-in-Err : goal.returns-in-Err
returns-in-Err c =
    let t = lent c.args.names.now c.args.points.now c.args.ends.now c.args.marks.now in
    let left = c.trace.ensures in
    absurd (never_stuck _ _ t c.requires.fact_1 c.requires.fact_2 (left.value, (left.names_left, (left.ends_left, left.links_left))) c.in-Err.is)

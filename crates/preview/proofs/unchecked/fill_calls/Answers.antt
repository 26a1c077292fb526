-- `unchecked::fill_calls` meets its contract.
use mathlib.Core.Path.{refl}
use Rattle.polygons.specs.Flat.{flat}
use Rattle.preview.specs.PreviewLaws.{DrawTested, draw_tested}
use Rattle.preview.proofs.Running.{running_start, running_tables, running_full, running_past}
use Rattle.preview.proofs.Running.{next_within, next_room, next_points, running_next}
use Rattle.preview.proofs.unchecked.fill_calls.Goals as goal
use Rattle.preview.proofs.unchecked.fill_calls.Goals.{Start}

-- the tests before it passed
passed : (start : Start) → DrawTested (flat start.args.points.now start.args.ends.now) start.args.origin
passed start = draw_tested _ _ start.requires

pub loop-n-init : goal.loop-n-init
loop-n-init c = running_start _ _ _ _ c.min-room.ensures c.contour_with-j.ensures.result

pub returns-then-ends-j : goal.returns-then-ends-j
returns-then-ends-j c =
    let inv = c.loop-n.invariant in
    record {
      value = running_past _ _ _ _ inv (passed (goal.at.returns-then-ends-j c).Start) c.loop-n-test.true c.if-ends-j.true;
      left = running_tables _ _ _ _ inv;
    }

pub fill_contour-n-requires : goal.fill_contour-n-requires
fill_contour-n-requires c =
    let inv = c.loop-n.invariant in
    let more = c.loop-n-test.true in
    let there = c.if-ends-j.false in
    let s-is = c.prior_end-s.ensures.value in
    record {
      fact_1 = next_room _ _ _ _ inv (passed (goal.at.fill_contour-n-requires c).Start) more there s-is refl refl;
      fact_2 = next_points _ _ _ _ inv (passed (goal.at.fill_contour-n-requires c).Start) more there s-is refl refl;
      fact_3 = next_within _ _ _ _ inv (passed (goal.at.fill_contour-n-requires c).Start) more there s-is refl refl;
    }

pub loop-n-preserved : goal.loop-n-preserved
loop-n-preserved c =
    running_next _ _ _ _ c.loop-n.invariant (passed (goal.at.loop-n-preserved c).Start) c.loop-n-test.true c.if-ends-j.false c.prior_end-s.ensures.value
    refl refl c.fill_contour-n.ensures.value c.fill_contour-n.ensures.left

pub returns : goal.returns
returns c =
    let inv = c.loop-n.invariant in
    record {
      value = running_full _ _ _ _ inv c.loop-n-test.false;
      left = running_tables _ _ _ _ inv;
    }

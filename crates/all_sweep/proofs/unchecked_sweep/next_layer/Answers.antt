-- `unchecked_sweep::next_layer` meets its contract: the height is read once, and every later place has it; the layer that was cut is brought into the
-- profile.
use mathlib.Core.Path.{refl}
use Rattle.mesh.specs.Meshes.{paired}
use Rattle.all_sweep.specs.Works.{taken}
use Rattle.all_sweep.specs.Sweeps.{corner_lists}
use Rattle.all_sweep.specs.SweepLaws.{AtHeight, advancing, outlinable}
use Rattle.all_sweep.specs.PassLaws.{held, held_word_is, held_word}
use Rattle.all_sweep.specs.StepLaws.{points_asked, points_climb, level_tables, level_brought, level_holds, level_works, level_sweeps}
use Rattle.all_sweep.proofs.unchecked_sweep.next_layer.Goals as goal
use Rattle.all_sweep.proofs.unchecked_sweep.next_layer.Goals.{After-height-h}

-- the sweep at the height that was read
level : (c : After-height-h)
    → let args = c.args in
    AtHeight (paired args.coords.now args.corners.now args.pairing.now) (taken args.levels) args.k
    (corner_lists args.ring.now args.heads.now args.marks.now args.active) (held c.height-h.result)
level c =
    record {
      right = c.requires.fact_1;
      climbs = c.args.levels.climbing;
      sweeps = c.requires.fact_3;
      less = c.requires.fact_4;
      is = held_word_is c.height-h.type_inv c.height-h.ensures.value;
      fits = held_word c.height-h.result c.height-h.type_inv;
    }

pub advance-a-requires : goal.advance-a-requires
advance-a-requires c = advancing (level (goal.at.advance-a-requires c).After-height-h) refl

pub outline_crossings-f-requires : goal.outline_crossings-f-requires
outline_crossings-f-requires c =
    outlinable (level (goal.at.outline_crossings-f-requires c).After-height-h) c.advance-a.ensures.outcome c.requires.fact_2 refl

pub put_points-requires : goal.put_points-requires
put_points-requires c =
    let here = level (goal.at.put_points-requires c).After-height-h in
    let contours = c.outline_crossings-f.ensures.outcome in record {
      fact_1 = points_asked here c.args.points.now c.requires.fact_2 contours;
      fact_2 = points_climb here c.args.points.now c.requires.fact_2 contours;
    }

pub bring_into-contours-requires : goal.bring_into-contours-requires
bring_into-contours-requires c =
    let here = level (goal.at.bring_into-contours-requires c).After-height-h in
    level_tables here c.args.points.now c.requires.fact_2 c.outline_crossings-f.ensures.outcome c.put_points.ensures.left

pub returns : goal.returns
returns c =
    let here = level (goal.at.returns c).After-height-h in
    let points = c.args.points.now in
    let long = c.requires.fact_2 in
    let contours = c.outline_crossings-f.ensures in
    let written = c.put_points.ensures.left in
    let list = c.advance-a.ensures.outcome in
    let left = level_brought here points long contours.outcome written c.args.profile c.bring_into-contours.ensures.outcome in record {
      layer = level_holds here points long contours.outcome written list contours.marked left;
      work = level_works here points long contours.outcome written list contours.marked left;
      lists = level_sweeps here points long contours.outcome written list contours.marked left;
    }

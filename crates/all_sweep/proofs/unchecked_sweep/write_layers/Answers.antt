-- `unchecked_sweep::write_layers` meets its contract.
use Rattle.all_sweep.specs.PassLaws.{works_none, works_more, works_long}
use Rattle.all_sweep.specs.PassLaws.{number_room, wrote_start, wrote_room, wrote_next, wrote_end, wrote_size}
use Rattle.all_sweep.proofs.unchecked_sweep.write_layers.Goals as goal

pub write_number-p-requires : goal.write_number-p-requires
write_number-p-requires c =
    number_room c.args.profile _ c.requires.fact_1.listed c.args.output.now c.requires.fact_3

pub loop-i-init : goal.loop-i-init
loop-i-init c = record {
  put = wrote_start _ _ c.requires.fact_1.listed _ c.requires.fact_3 c.write_number-p.ensures.outcome;
  works = works_none;
  sweeps = c.requires.fact_2;
}

pub next_layer-s-requires : goal.next_layer-s-requires
next_layer-s-requires c =
    let inv = c.loop-i.invariant in record {
      fact_1 = c.requires.fact_1.right;
      fact_2 = works_long c.requires.fact_1.long inv.works;
      fact_3 = inv.sweeps;
      fact_4 = c.loop-i-test.true;
    }

pub write_layer-p-requires : goal.write_layer-p-requires
write_layer-p-requires c =
    let layer = c.next_layer-s.ensures.layer in record {
      fact_1 = layer.tables;
      fact_2 = wrote_room _ _ c.requires.fact_1.listed c.loop-i.invariant.put c.loop-i-test.true
          c.height-h.type_inv c.height-h.ensures.value layer;
    }

pub loop-i-preserved : goal.loop-i-preserved
loop-i-preserved c =
    let inv = c.loop-i.invariant in
    let done = c.next_layer-s.ensures in record {
      put = wrote_next _ _ c.requires.fact_1.listed inv.put c.loop-i-test.true c.height-h.type_inv
          c.height-h.ensures.value done.layer c.write_layer-p.ensures.outcome;
      works = works_more inv.works done.work;
      sweeps = done.lists;
    }

pub shape_of-names : goal.shape_of-names
shape_of-names c = c.loop-i.invariant.works.names_spent.same_length

pub shape_of-points : goal.shape_of-points
shape_of-points c = c.loop-i.invariant.works.points_spent.same_length

pub shape_of-ends : goal.shape_of-ends
shape_of-ends c = c.loop-i.invariant.works.ends_spent.same_length

pub shape_of-marks : goal.shape_of-marks
shape_of-marks c = c.loop-i.invariant.works.marks_spent.same_length

pub shape_of-ring : goal.shape_of-ring
shape_of-ring c = c.loop-i.invariant.works.ring_spent.same_length

pub shape_of-output : goal.shape_of-output
shape_of-output c =
    wrote_size _ _ c.requires.fact_1.listed _ c.requires.fact_3 c.write_number-p.ensures.outcome c.loop-i.invariant.put

pub returns : goal.returns
returns c =
    let inv = c.loop-i.invariant in
    let listed = c.requires.fact_1.listed in
    let e = wrote_end _ _ listed _ c.requires.fact_3 c.write_number-p.ensures.outcome inv.put c.loop-i-test.false in record {
      value = e.0;
      output_left = e.1;
      work = inv.works;
    }

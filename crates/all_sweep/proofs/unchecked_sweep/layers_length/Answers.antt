-- `unchecked_sweep::layers_length` meets its contract.
use Rattle.all_sweep.specs.PassLaws.{measured_start, measured_fits, measured_next, measured_end, works_none, works_more, works_long}
use Rattle.all_sweep.proofs.unchecked_sweep.layers_length.Goals as goal

pub number_length-total-requires : goal.number_length-total-requires
number_length-total-requires c = tt

pub loop-k-init : goal.loop-k-init
loop-k-init c = record {
  measured = measured_start _ _ c.requires.fact_1.listed c.number_length-total.ensures.value;
  works = works_none;
  sweeps = c.requires.fact_2;
}

pub next_layer-s-requires : goal.next_layer-s-requires
next_layer-s-requires c =
    let inv = c.loop-k.invariant in record {
      fact_1 = c.requires.fact_1.right;
      fact_2 = works_long c.requires.fact_1.long inv.works;
      fact_3 = inv.sweeps;
      fact_4 = c.loop-k-test.true;
    }

pub layer_length-total-requires : goal.layer_length-total-requires
layer_length-total-requires c =
    c.next_layer-s.ensures.layer.tables

pub overflow_add-total : goal.overflow_add-total
overflow_add-total c =
    let ready = c.requires.fact_1 in
    record {
      fits = measured_fits _ _ ready.listed ready.right c.loop-k.invariant.measured c.loop-k-test.true c.height-h.type_inv
          c.height-h.ensures.value c.next_layer-s.ensures.layer c.layer_length-total.ensures.value;
    }

pub loop-k-preserved : goal.loop-k-preserved
loop-k-preserved c =
    let inv = c.loop-k.invariant in
    let ready = c.requires.fact_1 in record {
      measured = measured_next _ _ ready.listed ready.right inv.measured c.loop-k-test.true c.height-h.type_inv c.height-h.ensures.value
          c.next_layer-s.ensures.layer c.layer_length-total.ensures.value;
      works = works_more inv.works c.next_layer-s.ensures.work;
      sweeps = c.next_layer-s.ensures.lists;
    }

pub shape_of-names : goal.shape_of-names
shape_of-names c = c.loop-k.invariant.works.names_spent.same_length

pub shape_of-points : goal.shape_of-points
shape_of-points c = c.loop-k.invariant.works.points_spent.same_length

pub shape_of-ends : goal.shape_of-ends
shape_of-ends c = c.loop-k.invariant.works.ends_spent.same_length

pub shape_of-marks : goal.shape_of-marks
shape_of-marks c = c.loop-k.invariant.works.marks_spent.same_length

pub shape_of-ring : goal.shape_of-ring
shape_of-ring c = c.loop-k.invariant.works.ring_spent.same_length

pub returns : goal.returns
returns c =
    let inv = c.loop-k.invariant in record {
      value = measured_end _ _ c.requires.fact_1.listed inv.measured c.loop-k-test.false;
      work = inv.works;
    }

-- `all_layers` meets its contract.
use mathlib.Core.Path.{ap}
use native.Mathlib.Omega.{arith}
use Rattle.mesh.specs.Meshes.{ordered}
use Rattle.mesh.specs.Refusals.{tell_verdict}
use Rattle.mesh.proofs.Raising.{raised}
use Rattle.all_sweep.specs.AllLayers.{work}
use Rattle.all_sweep.specs.SweepLaws.{climbing}
use Rattle.all_sweep.specs.PassLaws.{works_long, held_word_is}
use Rattle.all_sweep.specs.LayersLaws.{FileTested}
use Rattle.all_layers.proofs.Filing.{layers_tested, files_refused, files_tested, files_put}
use Rattle.all_layers.proofs.all_layers.Goals as goal
use Rattle.all_layers.proofs.all_layers.Goals.{In_ok-layers_test}

-- what the tests establish
tested : (c : In_ok-layers_test)
    → let a = c.args in
    FileTested (ordered a.coords.now a.corners.now a.pairing.now a.order.now) a.heights.now
    (work a.names.now a.points.now a.ends.now a.marks.now a.ring.now)
tested c =
    let a = c.args in
    files_tested a.profile (ordered a.coords.now a.corners.now a.pairing.now a.order.now) a.heights.now
    (work a.names.now a.points.now a.ends.now a.marks.now a.ring.now) a.output.now c.layers_test.ensures.told (ap tell_verdict c.in_ok-layers_test.was)

pub returns-in_err-layers_test : goal.returns-in_err-layers_test
returns-in_err-layers_test c =
    let a = c.args in record {
      outcome = files_refused a.profile (ordered a.coords.now a.corners.now a.pairing.now a.order.now) a.heights.now
          (work a.names.now a.points.now a.ends.now a.marks.now a.ring.now) a.output.now c.layers_test.ensures.told (raised _ c.from_residual.ensures.1)
          (ap tell_verdict c.in_err-layers_test.was);
    }

pub invariant_of-levels : goal.invariant_of-levels
invariant_of-levels c =
    let low_is = held_word_is c.base_z-low.type_inv c.base_z-low.ensures.value in
    let t = layers_tested (tested (goal.at.invariant_of-levels c).In_ok-layers_test) low_is c.taken_count-count.ensures.value in
    record { climbing = climbing t.listed }

pub put_file-f-requires : goal.put_file-f-requires
put_file-f-requires c =
    let low_is = held_word_is c.base_z-low.type_inv c.base_z-low.ensures.value in
    layers_tested (tested (goal.at.put_file-f-requires c).In_ok-layers_test) low_is c.taken_count-count.ensures.value

pub clear_work-requires : goal.clear_work-requires
clear_work-requires c =
    let t = tested (goal.at.clear_work-requires c).In_ok-layers_test in
    let w = c.put_file-f.ensures.work in record {
      fact_1 = works_long t.long w;
      fact_2 = omega (arith, t.ring_long, w.ring_spent.same_length);
      fact_3 = t.right.named.whole.few;
    }

pub returns : goal.returns
returns c =
    let a = c.args in
    let passed = ap tell_verdict c.in_ok-layers_test.was in record {
      outcome = files_put a.profile (ordered a.coords.now a.corners.now a.pairing.now a.order.now) a.heights.now
          (work a.names.now a.points.now a.ends.now a.marks.now a.ring.now) a.output.now c.layers_test.ensures.told passed
          c.put_file-f.ensures.outcome c.put_file-f.ensures.work c.clear_work.ensures.left;
    }

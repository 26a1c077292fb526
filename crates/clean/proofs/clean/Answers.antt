-- `clean` meets its contract.
use mathlib.Core.Path.{ap}
use Rattle.mesh.specs.Refusals.{tell_verdict}
use Rattle.mesh.proofs.Raising.{raised}
use Rattle.clean.proofs.Answers.{layer_refused, points_short, ends_short, tables_there, layer_cleaned}
use Rattle.clean.proofs.clean.Goals as goal
use Rattle.clean.proofs.clean.Goals.{then-cleanpoints-points-via-then-cleanpoints-points}
use Rattle.clean.proofs.clean.Goals.{then-cleanpoints-points-via-else-cleanpoints-points+then-cleanends-ends}

pub returns-in_err-layer_test : goal.returns-in_err-layer_test
returns-in_err-layer_test c = record {
  outcome = layer_refused c.layer_test.ensures.told (ap tell_verdict c.in_err-layer_test.was) (raised _ c.from_residual.ensures.1);
}

pub returns-then-cleanpoints-points : goal.returns-then-cleanpoints-points
returns-then-cleanpoints-points c =
    let told = c.layer_test.ensures.told in
    let passed = ap tell_verdict c.in_ok-layer_test.was in
    elim c.then-cleanpoints-points.branch [
      | then-cleanpoints-points-via-then-cleanpoints-points w ↦ record { outcome = points_short told passed w.if-cleanpoints-points.true }
      | then-cleanpoints-points-via-else-cleanpoints-points+then-cleanends-ends w ↦
          record { outcome = ends_short told passed w.if-cleanends-ends.true }
    ]

pub copy_layer-counts-requires : goal.copy_layer-counts-requires
copy_layer-counts-requires c =
    tables_there c.layer_test.ensures.told (ap tell_verdict c.in_ok-layer_test.was) c.if-cleanpoints-points.false c.if-cleanends-ends.false

pub returns : goal.returns
returns c = record {
  outcome = layer_cleaned c.layer_test.ensures.told (ap tell_verdict c.in_ok-layer_test.was) c.if-cleanpoints-points.false
      c.if-cleanends-ends.false c.copy_layer-counts.ensures.outcome;
}

-- `layer_test` meets its contract.
use Rattle.polygons.specs.Flat.{FlatLayer, flat}
use Rattle.polygons.proofs.Testing.{run_refused, ends_refused, layer_passed}
use Rattle.polygons.proofs.layer_test.Goals as goal
use Rattle.polygons.proofs.layer_test.Goals.{Start, then-not-run_fits-via-then-not-run_fits}
use Rattle.polygons.proofs.layer_test.Goals.{then-not-run_fits-via-else-not-run_fits+then-not-ends_fit}

abbrev layer_of : Start → FlatLayer
layer_of start = flat start.args.points.now start.args.ends.now

pub returns-then-not-run_fits : goal.returns-then-not-run_fits
returns-then-not-run_fits c =
    let t = layer_of (goal.at.returns-then-not-run_fits c).Start in
    record {
      told = elim c.then-not-run_fits.branch [
        | then-not-run_fits-via-then-not-run_fits w ↦ run_refused t c.run_fits.ensures.value w.if-not-run_fits.true
        | then-not-run_fits-via-else-not-run_fits+then-not-ends_fit w ↦
            ends_refused t c.run_fits.ensures.value w.if-not-run_fits.false w.ends_fit.ensures.value w.if-not-ends_fit.true
      ];
    }

pub returns : goal.returns
returns c = record {
  told = layer_passed (layer_of (goal.at.returns c).Start) c.run_fits.ensures.value c.if-not-run_fits.false c.ends_fit.ensures.value
      c.if-not-ends_fit.false c.range_test.ensures.told;
}

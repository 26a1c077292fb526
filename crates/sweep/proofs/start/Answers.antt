-- `start` meets its contract.
use mathlib.Core.Path.{ap}
use Rattle.mesh.specs.Meshes.{mesh}
use Rattle.mesh.specs.Refusals.{tell_verdict}
use Rattle.mesh.proofs.Raising.{raised}
use Rattle.sweep.proofs.Operating.{starts_refused, start_long, starts_fresh}
use Rattle.sweep.proofs.start.Goals as goal

pub returns-in_err-start_test : goal.returns-in_err-start_test
returns-in_err-start_test c = record {
  outcome = starts_refused _ _ c.start_test.ensures.told (ap tell_verdict c.in_err-start_test.was) (raised _ c.from_residual.ensures.1);
}

pub fill-requires : goal.fill-requires
fill-requires c =
    let a = c.args in
    start_long (mesh a.coords.now a.corners.now) a.ring.now c.start_test.ensures.told (ap tell_verdict c.in_ok-start_test.was)

pub returns : goal.returns
returns c = record { outcome = starts_fresh _ _ c.start_test.ensures.told (ap tell_verdict c.in_ok-start_test.was) c.fill.ensures.left }

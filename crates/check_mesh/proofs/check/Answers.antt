-- `check` meets its contract.
use mathlib.Core.Path.{ap}
use native.Mathlib.Omega.{arith}
use Rattle.mesh.specs.Meshes.{mesh}
use Rattle.mesh.specs.Refusals.{tell_verdict}
use Rattle.mesh.proofs.Raising.{raised}
use Rattle.check_mesh.specs.Check.{check_tables}
use Rattle.check_mesh.proofs.Checks.{Passed, passed, checks_refused, checks_cleared, checks_accepted}
use Rattle.check_mesh.proofs.check.Goals as goal
use Rattle.check_mesh.proofs.check.Goals.{In_ok-table_test}

-- what the first tests establish, where they refuse nothing
tested : (c : In_ok-table_test)
    → let a = c.args in
    Passed (mesh a.coords.now a.corners.now) (check_tables a.pairing.now a.order.now)
tested c = passed _ _ c.table_test.ensures.told (ap tell_verdict c.in_ok-table_test.was)

pub returns-in_err-table_test : goal.returns-in_err-table_test
returns-in_err-table_test c = record {
  outcome = checks_refused _ _ c.table_test.ensures.told (raised _ c.from_residual.ensures.1) (ap tell_verdict c.in_err-table_test.was);
}

pub pair_corners-requires : goal.pair_corners-requires
pair_corners-requires c =
    let p = tested (goal.at.pair_corners-requires c).In_ok-table_test in record {
      fact_1 = p.named;
      fact_2 = p.long;
    }

pub fill-requires : goal.fill-requires
fill-requires c =
    let p = tested (goal.at.fill-requires c).In_ok-table_test in
    omega (arith, p.long.links_long, c.pair_corners.ensures.outcome.pairing_frame.len)

pub fill-requires-in-Err : goal.fill-requires-in-Err
fill-requires-in-Err c =
    let p = tested (goal.at.fill-requires-in-Err c).In_ok-table_test in
    omega (arith, p.long.heads_long, c.pair_corners.ensures.outcome.order_frame.len)

pub returns-in-Err : goal.returns-in-Err
returns-in-Err c = record {
  outcome = checks_cleared _ _ c.table_test.ensures.told (ap tell_verdict c.in_ok-table_test.was) c.pair_corners.ensures.outcome
      (ap tell_verdict c.in-Err.is) c.fill.ensures.left c.fill-in-Err.ensures.left;
}

pub order_vertices-requires : goal.order_vertices-requires
order_vertices-requires c =
    let p = tested (goal.at.order_vertices-requires c).In_ok-table_test in
    record { few = p.named.few; room = omega (arith, p.long.heads_long, c.pair_corners.ensures.outcome.order_frame.len); range = p.range_of }

pub returns : goal.returns
returns c = record {
  outcome = checks_accepted _ _ c.table_test.ensures.told (ap tell_verdict c.in_ok-table_test.was) c.pair_corners.ensures.outcome
      (ap tell_verdict c.in_default.is) c.order_vertices.ensures.left;
}

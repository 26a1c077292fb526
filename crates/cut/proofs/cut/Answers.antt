-- `cut` meets its contract.
use mathlib.Core.Path.{ap, subst}
use lib.IntN.{ℤ}
use mir.Syntax.{w32}
use mir.ValLaws.{to_z-of_z}
use Rattle.mesh.specs.Meshes.{paired}
use Rattle.mesh.specs.Refusals.{tell_verdict}
use Rattle.mesh.proofs.Raising.{raised}
use Rattle.cut.specs.Cut.{lent, section}
use Rattle.cut.specs.Outlines.{Traces}
use Rattle.cut.proofs.Slicing.{passed, cuts_refused, cuts_traced}
use Rattle.cut.proofs.cut.Goals as goal

pub returns-in_err-tables_test : goal.returns-in_err-tables_test
returns-in_err-tables_test c = record {
  outcome = cuts_refused _ _ _ c.tables_test.ensures.told (raised _ c.from_residual.ensures.1) (ap tell_verdict c.in_err-tables_test.was);
}

pub slice-requires : goal.slice-requires
slice-requires c =
    let m = paired c.args.coords.now c.args.corners.now c.args.pairing.now in
    let t = lent c.args.names.now c.args.points.now c.args.ends.now c.args.marks.now in
    let given = passed m c.args.h t c.tables_test.ensures.told (ap tell_verdict c.in_ok-tables_test.was) in
    record { fact_1 = given.0; fact_2 = given.1 }

pub returns : goal.returns
returns c =
    let m = paired c.args.coords.now c.args.corners.now c.args.pairing.now in
    let t = lent c.args.names.now c.args.points.now c.args.ends.now c.args.marks.now in
    let left = c.slice.new in
    record {
      outcome = cuts_traced m c.args.h t c.tables_test.ensures.told (ap tell_verdict c.in_ok-tables_test.was)
          (subst (λ (z : ℤ). Traces (section m z) m.mesh z t c.slice.result (lent left.names left.points left.ends left.marks))
          (to_z-of_z w32 c.args.h c.ranges.h) c.slice.ensures.outcome);
    }

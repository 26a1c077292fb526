-- `unchecked::slice` meets its contract.
use mathlib.Core.Path.{subst}
use lib.IntN.{ℤ}
use mir.Syntax.{w32}
use mir.ValLaws.{to_z-of_z}
use Rattle.mesh.specs.Meshes.{paired}
use Rattle.cut.specs.Cut.{lent, section}
use Rattle.cut.specs.Outlines.{Traces}
use Rattle.cut.specs.OutlineLaws.{outlined, sliced}
use Rattle.cut.proofs.Slicing.{held}
use Rattle.cut.proofs.unchecked.slice.Goals as goal

pub outline_rings-requires-clause-fact_1 : goal.outline_rings-requires-clause-fact_1
outline_rings-requires-clause-fact_1 c =
    let m = paired c.args.coords.now c.args.corners.now c.args.pairing.now in
    outlined m (held c.args.h) c.requires.fact_1 _ _ c.link_at.ensures.left

pub returns : goal.returns
returns c =
    let m = paired c.args.coords.now c.args.corners.now c.args.pairing.now in
    let t = lent c.args.names.now c.args.points.now c.args.ends.now c.args.marks.now in
    let left = c.outline_rings.new in
    record {
      outcome = subst (λ (z : ℤ). Traces (section m z) m.mesh z t c.outline_rings.result (lent left.names left.points left.ends left.marks))
          (to_z-of_z w32 c.args.h c.ranges.h)
          (sliced m (held c.args.h) c.requires.fact_1 _ _ c.link_at.ensures.left c.outline_rings.ensures.outcome);
    }

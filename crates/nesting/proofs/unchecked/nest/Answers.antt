-- `unchecked::nest` meets its contract: after the first j contours the tables have depth and parent among these (`NestsTo`); emptied, among none.
use mathlib.Core.Path.{◌∙◌}
use native.Mathlib.Omega.{arith}
use Rattle.nesting.specs.Nesting.{nest_tables}
use Rattle.nesting.proofs.Filling.{nests_start, nests_entries, nests_again, nests_lengths, nests_end}
use Rattle.nesting.proofs.unchecked.nest.Goals as goal

pub fill-requires : goal.fill-requires
fill-requires c = omega (arith, c.requires.1)

pub fill-requires-2 : goal.fill-requires-2
fill-requires-2 c = omega (arith, c.requires.2)

pub loop-j-init : goal.loop-j-init
loop-j-init c =
    let w = nest_tables c.args.depths.now c.args.parents.now in
    nests_start c.requires.0 w c.fill.ensures.left c.fill-2.ensures.left (omega (arith, c.requires.1, c.fill.auto.t))
    (omega (arith, c.requires.2, c.fill-2.auto.t))

pub nest_contour-requires : goal.nest_contour-requires
nest_contour-requires c =
    let inv = c.loop-j.invariant in
    (inv.layer, omega (arith, inv.all, c.loop-j-test.true), nests_entries inv)

pub loop-j-preserved : goal.loop-j-preserved
loop-j-preserved c = nests_again c.loop-j.invariant c.loop-j-test.true c.nest_contour.ensures.left

pub shape_of-depths : goal.shape_of-depths
shape_of-depths c = (nests_lengths c.loop-j.invariant).0 ∙ c.fill.auto.t

pub shape_of-parents : goal.shape_of-parents
shape_of-parents c = (nests_lengths c.loop-j.invariant).1 ∙ c.fill-2.auto.t

pub returns : goal.returns
returns c =
    let w = nest_tables c.args.depths.now c.args.parents.now in
    record { left = nests_end c.requires.0 w c.fill.ensures.left c.fill-2.ensures.left c.loop-j.invariant (omega (arith, c.loop-j-test.false)) }

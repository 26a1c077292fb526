-- `unchecked::nest` meets its contract: after the first j contours the tables have depth and parent among these (`NestsTo`); emptied, among none.
use Rattle.polygons.specs.Flat.{flat}
use Rattle.nesting.specs.Nesting.{nest_tables}
use Rattle.nesting.proofs.Filling.{NestsTo}
use Rattle.nesting.proofs.unchecked.nest.Given as goal

abbrev pub invariant-loop-j : goal.invariant-loop-j
invariant-loop-j l = NestsTo (flat l.points l.ends) l.n (nest_tables l.initial.depths l.initial.parents) (nest_tables l.depths l.parents) l.j

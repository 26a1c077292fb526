-- `unchecked::meet_all` meets its contract: one contour after another has what contour j adds (`MeetsTo`); its first point is read where the one before ends.
use Rattle.polygons.specs.Flat.{flat}
use Rattle.nesting.specs.Nesting.{nest_tables}
use Rattle.nesting.proofs.Holding.{MeetsTo}
use Rattle.nesting.proofs.unchecked.meet_all.Given as goal

abbrev pub invariant-loop-i : goal.invariant-loop-i
invariant-loop-i l =
    MeetsTo (flat l.points l.ends) l.contour l.e l.size l.j (nest_tables l.initial.depths l.initial.parents) (nest_tables l.depths l.parents) l.i l.start

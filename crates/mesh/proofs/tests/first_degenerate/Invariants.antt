-- `tests::first_degenerate` meets its contract. The invariant: nothing that fits was passed.
use mathlib.Core.Path.{◌≡◌}
use Rattle.laws.specs.LeastLaws.{Scanned}
use Rattle.mesh.specs.Tests.{names_twice}
use Rattle.mesh.specs.Corners.{triangle_count}
use Rattle.mesh.proofs.tests.first_degenerate.Given as goal

abbrev pub invariant-loop-t : goal.invariant-loop-t
invariant-loop-t l = Scanned (triangle_count l.corners) (names_twice l.corners) l.t × (l.n ≡ triangle_count l.corners)

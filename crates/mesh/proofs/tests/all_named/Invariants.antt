-- `tests::all_named` meets its contract. The invariant: while fine, no corner that names no vertex was passed.
use mathlib.Core.Path.{◌≡◌}
use mathlib.Core.Bool.{true}
use lib.ListN.{length}
use Rattle.laws.specs.LeastLaws.{Scanned}
use Rattle.mesh.specs.Tests.{names_none}
use Rattle.mesh.proofs.tests.all_named.Given as goal

abbrev pub invariant-loop-c : goal.invariant-loop-c
invariant-loop-c l = l.fine ≡ true → Scanned (length l.corners) (names_none l.vertices l.corners) l.c-index

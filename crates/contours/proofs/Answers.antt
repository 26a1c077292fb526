-- What passing the tests of Area gives.
use mathlib.Core.Path.{◌≡◌, sym, ap, ◌∙◌}
use mathlib.Core.List.{List}
use lib.IntN.{ℤ}
use Rattle.std.specs.Prelude.{Result, Ok}
use Rattle.mesh.specs.Operation.{verdict}
use Rattle.mesh.specs.OperationLaws.{fine_none}
use Rattle.mesh.specs.Refusals.{tell_verdict}
use Rattle.mesh.specs.declared.Refusal.{Refusal}
use Rattle.contours.specs.Areas.{measuring}
use Rattle.contours.specs.AreaLaws.{run_of}
use Rattle.contours.specs.Runs.{PointRun}

pub tested_run : (points : List ℤ) {v : Result Unit Refusal} → tell_verdict v ≡ verdict (measuring points).refusals → v ≡ Ok tt → PointRun points
tested_run points e f = run_of points (fine_none (measuring points).refusals (sym e ∙ ap tell_verdict f))

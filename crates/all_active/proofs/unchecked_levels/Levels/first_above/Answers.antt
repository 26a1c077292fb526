-- `Levels::first_above` meets its contract.
use mathlib.Core.Path.{◌∙◌}
use native.Mathlib.Omega.{arith}
use mir.Syntax.{w32}
use Rattle.laws.specs.Machine.{same}
use Rattle.all_active.proofs.Searches.{halve_high}
use Rattle.all_active.proofs.unchecked_levels.Levels.first_above.Goals as goal

pub loop-a-preserved : goal.loop-a-preserved
loop-a-preserved c =
    let height_is = same w32 _ c.height-h.type_inv ∙ c.height-h.ensures.value in
    halve_high c.args.self.climbing c.loop-a.invariant (omega arith) (omega (arith, c.loop-a-test.true)) height_is c.if-z-h.false

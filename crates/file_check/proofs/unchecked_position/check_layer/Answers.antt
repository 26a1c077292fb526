-- `check_layer` meets its contract.
use mathlib.Core.Path.{◌≡◌, sym, ap, ◌∙◌}
use native.Mathlib.Omega.{arith}
use lib.IntN.{ℤ}
use mir.Syntax.{w64}
use mir.ValLaws.{to_z-of_z}
use Rattle.laws.specs.Machine.{same}
use Rattle.mesh.proofs.Raising.{raised}
use Rattle.file_check.specs.Answers.{height_told_at}
use Rattle.file_check.proofs.LayerSteps.{height_stops, height_in, contours_stop, contours_pass}
use Rattle.file_check.proofs.unchecked_position.check_layer.Goals as goal
use Rattle.file_check.proofs.unchecked_position.check_layer.Goals.{After-read_height}

-- what `read_height` answered, of `low` as it was given
answer : (c : After-read_height) → height_told_at c.args.low c.args.file.now c.args.at ≡ c.read_height.result
answer c =
    ap (λ (z : ℤ). height_told_at z c.args.file.now c.args.at) (sym (to_z-of_z w64 c.args.low c.ranges.low))
    ∙ sym c.read_height.ensures.value

pub returns-in_err-height : goal.returns-in_err-height
returns-in_err-height c =
    let at = goal.at.returns-in_err-height c in record {
      value = raised _ c.from_residual.ensures.1
          ∙ height_stops c.args.profile c.args.low _ _ c.requires (answer at.After-read_height ∙ c.in_err-height.was);
    }

pub check_counted-requires : goal.check_counted-requires
check_counted-requires c =
    height_in c.args.profile _ _ _ c.requires (answer (goal.at.check_counted-requires c).After-read_height ∙ c.in_ok-height.was)

pub returns-in_err-counts : goal.returns-in_err-counts
returns-in_err-counts c = record {
  value = raised _ c.from_residual-in_err-counts.ensures.1
      ∙ contours_stop _ _ _ _ c.requires (answer (goal.at.returns-in_err-counts c).After-read_height ∙ c.in_ok-height.was) (sym c.in_err-counts.ensures.value);
}

pub returns : goal.returns
returns c = record {
  value = contours_pass _ _ _ _ c.requires (answer (goal.at.returns c).After-read_height ∙ c.in_ok-height.was)
      (sym c.in_ok-counts.ensures.value) (same w64 c.in_ok-height.height (omega arith)) (same w64 c.in_ok-counts.counts.area (omega arith));
}

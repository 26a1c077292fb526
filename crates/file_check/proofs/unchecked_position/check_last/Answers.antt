-- `check_last` meets its contract.
use mathlib.Core.Path.{◌≡◌, sym, ap, ◌∙◌}
use lib.IntN.{ℤ}
use mir.Syntax.{w64}
use mir.ValLaws.{to_z-of_z}
use Rattle.mesh.proofs.Raising.{raised}
use Rattle.file_check.specs.Answers.{levels_at}
use Rattle.file_check.proofs.LayerSteps.{layers_stop, left_over_lem, all_passed}
use Rattle.file_check.proofs.unchecked_position.check_last.Goals as goal
use Rattle.file_check.proofs.unchecked_position.check_last.Goals.{After-check_layers}

-- what `check_layers` answered, of `low` as it was given
answer : (c : After-check_layers) → levels_at c.args.profile c.args.count c.args.low c.args.file.now c.args.at ≡ c.check_layers.result
answer c =
    sym
    (c.check_layers.ensures.value
    ∙ ap (λ (z : ℤ). levels_at c.args.profile c.args.count z c.args.file.now c.args.at) (to_z-of_z w64 c.args.low c.ranges.low))

pub returns-in_err-c : goal.returns-in_err-c
returns-in_err-c c = record {
  value = raised _ c.from_residual.ensures.1
      ∙ layers_stop c.args.profile c.args.count c.args.low _ _ (answer (goal.at.returns-in_err-c c).After-check_layers ∙ c.in_err-c.was);
}

pub returns-then-c-file : goal.returns-then-c-file
returns-then-c-file c = record {
  value = left_over_lem c.args.profile c.args.count c.args.low _ _ c.requires
      (answer (goal.at.returns-then-c-file c).After-check_layers ∙ c.in_ok-c.was) c.if-c-file.true;
}

pub returns : goal.returns
returns c = record {
  value = all_passed c.args.profile c.args.count c.args.low _ _ c.requires
      (answer (goal.at.returns c).After-check_layers ∙ c.in_ok-c.was) c.if-c-file.false;
}

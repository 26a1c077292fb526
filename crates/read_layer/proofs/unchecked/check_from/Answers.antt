-- `check_from` meets its contract.
use mathlib.Core.Path.{◌≡◌, sym, ap, ◌∙◌}
use native.Mathlib.Omega.{arith}
use lib.IntN.{ℤ}
use mir.Syntax.{w64}
use mir.ValLaws.{to_z-of_z}
use Rattle.std.specs.Prelude.{Ok}
use Rattle.laws.specs.Machine.{same}
use Rattle.file_check.specs.Answers.{height_told_at, counts_at}
use Rattle.file_check.specs.AnswerLaws.{height_inside, layer_no_height, layer_no_contours}
use Rattle.read_layer.proofs.LayerSearch.{searched_on, first_stops, next_inside, last_stops, last_passes}
use Rattle.read_layer.proofs.unchecked.check_from.Goals as goal
use Rattle.read_layer.proofs.unchecked.check_from.Goals.{After-read_height, In_ok-c}

-- what `read_height` answered, of `low` as it was given
answer : (c : After-read_height) → height_told_at c.args.low c.args.file.now c.args.at ≡ c.read_height.result
answer c =
    sym (c.read_height.ensures.value ∙ ap (λ (z : ℤ). height_told_at z c.args.file.now c.args.at)
    (to_z-of_z w64 c.args.low c.ranges.low))

pub returns-in_err-height : goal.returns-in_err-height
returns-in_err-height c = record {
  result = searched_on _ _ _ _ _ c.from_residual.ensures.1 (first_stops c.args.profile c.args.more c.args.low _ _
      (layer_no_height c.args.profile _ _ _ c.requires (answer (goal.at.returns-in_err-height c).After-read_height ∙ c.in_err-height.was)));
}

pub check_counted-requires : goal.check_counted-requires
check_counted-requires c =
    height_inside c.args.profile _ _ _ c.requires _ _ (answer (goal.at.check_counted-requires c).After-read_height ∙ c.in_ok-height.was)

pub returns-in_err-c : goal.returns-in_err-c
returns-in_err-c c = record {
  result = searched_on _ _ _ _ _ c.from_residual-in_err-c.ensures.1 (first_stops c.args.profile c.args.more c.args.low _ _
      (layer_no_contours c.args.profile _ _ _ c.requires _ _ (answer (goal.at.returns-in_err-c c).After-read_height ∙ c.in_ok-height.was)
      (sym c.check_counted.ensures.value ∙ c.in_err-c.was)));
}

-- the counts of contours and points
counts : (c : In_ok-c) → counts_at c.args.profile c.args.file.now c.in_ok-height.j ≡ Ok c.in_ok-c.c
counts c = sym c.check_counted.ensures.value ∙ c.in_ok-c.was

pub check_last-requires : goal.check_last-requires
check_last-requires c =
    let at = goal.at.check_last-requires c in
    next_inside c.args.profile c.args.more _ _ _ c.requires (answer at.After-read_height ∙ c.in_ok-height.was) (counts c)

pub returns-in_err-check_last : goal.returns-in_err-check_last
returns-in_err-check_last c =
    let at = goal.at.returns-in_err-check_last c in record {
      result = searched_on _ _ _ _ _ c.from_residual-in_err-check_last.ensures.1
          (last_stops c.args.profile c.args.more _ _ _ c.requires (answer at.After-read_height ∙ c.in_ok-height.was) (counts at.In_ok-c)
          (same w64 c.in_ok-height.height (omega arith)) (sym c.check_last.ensures.value ∙ c.in_err-check_last.was));
    }

pub returns : goal.returns
returns c =
    let at = goal.at.returns c in record {
      result = last_passes c.args.profile c.args.more _ _ _ c.requires (answer at.After-read_height ∙ c.in_ok-height.was) (counts at.In_ok-c)
          (same w64 c.in_ok-height.height (omega arith)) (sym c.check_last.ensures.value ∙ c.in_ok-check_last.was);
    }

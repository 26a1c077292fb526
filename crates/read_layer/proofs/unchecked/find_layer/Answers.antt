-- `find_layer` meets its contract.
use mathlib.Core.Path.{◌≡◌, sym, ◌∙◌}
use native.Mathlib.Omega.{arith}
use mir.Syntax.{w64}
use Rattle.std.specs.Prelude.{Ok}
use Rattle.laws.specs.Machine.{same}
use Rattle.file_formats.specs.LayerFile.{lowest}
use Rattle.file_check.specs.Answers.{levels_at}
use Rattle.file_check.specs.AnswerLaws.{levels_off}
use Rattle.read_layer.proofs.LayerSearch.{searched_on, before_inside, before_stops, before_passes, none_there, all_stop}
use Rattle.read_layer.proofs.unchecked.find_layer.Goals as goal
use Rattle.read_layer.proofs.unchecked.find_layer.Goals.{In_ok-b}

pub returns-in_err-b : goal.returns-in_err-b
returns-in_err-b c = record {
  result = searched_on _ _ _ _ _ c.from_residual.ensures.1 (before_stops c.args.profile _ _ _ _ _ c.if-i-count.true
      (levels_off c.args.profile _ _ _ _ (sym c.check_layers.ensures.value ∙ c.in_err-b.was)));
}

-- the layers before layer i
before : (c : In_ok-b) → levels_at c.args.profile c.args.i lowest c.args.file.now c.args.at ≡ Ok c.in_ok-b.b
before c = sym c.check_layers.ensures.value ∙ c.in_ok-b.was

pub check_from-requires : goal.check_from-requires
check_from-requires c =
    before_inside c.args.profile c.args.count c.args.i lowest _ _ c.requires (before (goal.at.check_from-requires c).In_ok-b)

pub returns-then-i-count : goal.returns-then-i-count
returns-then-i-count c = record {
  result = before_passes c.args.profile _ _ _ _ _ c.requires (before (goal.at.returns-then-i-count c).In_ok-b) c.if-i-count.true
      (same w64 c.in_ok-b.b.height (omega arith)) _ c.check_from.ensures.result;
}

pub returns-in_err-check_last : goal.returns-in_err-check_last
returns-in_err-check_last c = record {
  result = searched_on _ _ _ _ _ c.from_residual-in_err-check_last.ensures.1
      (all_stop c.args.profile _ _ _ _ _ (sym c.check_last.ensures.value ∙ c.in_err-check_last.was));
}

pub returns : goal.returns
returns c = record { result = none_there c.args.profile _ _ _ _ _ c.if-i-count.false (sym c.check_last.ensures.value ∙ c.in_ok-check_last.was) }

-- `check_contour` meets its contract.
use mathlib.Core.Path.{◌≡◌, sym, ◌∙◌}
use native.Mathlib.Omega.{arith}
use mir.Syntax.{w64}
use Rattle.std.specs.Prelude.{Ok}
use Rattle.laws.specs.Machine.{same}
use Rattle.std.proofs.lemmas.Bool.{not-true, not-false}
use Rattle.mesh.proofs.Raising.{raised}
use Rattle.file_formats.specs.Positions.{number_at}
use Rattle.file_formats.specs.PositionLaws.{took}
use Rattle.file_check.proofs.ContourSteps.{no_count, few_points_lem, points_pass, points_unfit, points_stop}
use Rattle.file_check.proofs.unchecked_position.check_contour.Goals as goal
use Rattle.file_check.proofs.unchecked_position.check_contour.Goals.{In_ok-count}

pub returns-in_err-count : goal.returns-in_err-count
returns-in_err-count c = record {
  value = raised _ c.from_residual.ensures.1 ∙ no_count c.args.profile _ _ _ c.requires.0 (sym c.in_err-count.ensures.value);
}

-- the count read
count : (c : In_ok-count) → number_at c.args.room c.args.file.now c.args.at ≡ Ok (c.in_ok-count.count, c.in_ok-count.next)
count c = sym c.in_ok-count.ensures.value

pub returns-then-count-lt2 : goal.returns-then-count-lt2
returns-then-count-lt2 c = record {
  value = few_points_lem c.args.profile _ _ _ c.requires.0 (count (goal.at.returns-then-count-lt2 c).In_ok-count) (omega (arith, c.if-count-lt2.true));
}

pub check_points-requires : goal.check_points-requires
check_points-requires c =
    let n = count (goal.at.check_points-requires c).In_ok-count in
    ((took n).inside, omega (arith, (took n).low, c.requires.1))

pub returns-in_err-p : goal.returns-in_err-p
returns-in_err-p c = record {
  value = raised _ c.from_residual-in_err-p.ensures.1
      ∙ points_stop c.args.profile _ _ _ c.requires.0 (count (goal.at.returns-in_err-p c).In_ok-count) c.if-count-lt2.false
      (sym c.in_err-p.ensures.value);
}

pub returns-then-not-p : goal.returns-then-not-p
returns-then-not-p c = record {
  value = points_unfit c.args.profile _ _ _ c.requires.0 (count (goal.at.returns-then-not-p c).In_ok-count) c.if-count-lt2.false
      (sym c.in_ok-p.ensures.value) (not-true _ c.if-not-p.true);
}

pub overflow_sub-result : goal.overflow_sub-result
overflow_sub-result c =
    (took (count (goal.at.overflow_sub-result c).In_ok-count)).low

pub returns : goal.returns
returns c = record {
  value = points_pass c.args.profile _ _ _ c.requires.0 (count (goal.at.returns c).In_ok-count) c.if-count-lt2.false
      (sym c.in_ok-p.ensures.value) (same w64 c.in_ok-p.p.area (omega arith)) (not-false _ c.if-not-p.false);
}

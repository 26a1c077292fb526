-- `check_counted` meets its contract.
use mathlib.Core.Path.{◌≡◌, sym, ◌∙◌}
use native.Mathlib.Omega.{arith}
use mir.Syntax.{w64}
use Rattle.std.specs.Prelude.{Ok}
use Rattle.laws.specs.Machine.{same}
use Rattle.mesh.proofs.Raising.{raised}
use Rattle.file_formats.specs.Numbers.{largest_word}
use Rattle.file_formats.specs.Positions.{number_at}
use Rattle.file_formats.specs.PositionLaws.{took}
use Rattle.file_check.proofs.ContourSteps.{no_contours, contours_stop, room_low, contours_pass}
use Rattle.file_check.proofs.unchecked_position.check_counted.Goals as goal
use Rattle.file_check.proofs.unchecked_position.check_counted.Goals.{In_ok-count}

pub returns-in_err-count : goal.returns-in_err-count
returns-in_err-count c = record { value = raised _ c.from_residual.ensures.1 ∙ no_contours _ _ _ c.requires (sym c.in_err-count.ensures.value) }

-- the count read
count : (c : In_ok-count) → number_at largest_word c.args.file.now c.args.at ≡ Ok (c.in_ok-count.count, c.in_ok-count.next)
count c = sym c.in_ok-count.ensures.value

pub check_contours-requires : goal.check_contours-requires
check_contours-requires c = (took (count (goal.at.check_contours-requires c).In_ok-count)).inside

pub returns-in_err-c : goal.returns-in_err-c
returns-in_err-c c = record {
  value = raised _ c.from_residual-in_err-c.ensures.1
      ∙ contours_stop _ _ _ c.requires (count (goal.at.returns-in_err-c c).In_ok-count) (sym c.in_err-c.ensures.value);
}

pub overflow_sub-result : goal.overflow_sub-result
overflow_sub-result c =
    room_low c.args.profile _ _ c.requires (count (goal.at.overflow_sub-result c).In_ok-count) (sym c.in_ok-c.ensures.value)

pub returns : goal.returns
returns c = record {
  value = contours_pass _ _ _ c.requires (count (goal.at.returns c).In_ok-count) (sym c.in_ok-c.ensures.value)
      (same w64 c.in_ok-c.c.area (omega arith));
}

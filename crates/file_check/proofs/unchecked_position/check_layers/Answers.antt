-- `check_layers` meets its contract.
use mathlib.Core.Path.{◌≡◌, sym, ap, ◌∙◌}
use native.Mathlib.Omega.{arith}
use lib.IntN.{ℤ}
use mir.Syntax.{w64}
use mir.Val.{to_z, of_z}
use mir.ValLaws.{to_z-of_z}
use Rattle.std.specs.Prelude.{Result}
use Rattle.laws.specs.Machine.{same}
use Rattle.mesh.proofs.Raising.{raised}
use Rattle.file_formats.specs.LayerFile.{layer_format_in, height_of}
use Rattle.file_formats.specs.declared.Broken.{Broken}
use Rattle.file_check.specs.Answers.{levels_at}
use Rattle.file_check.specs.declared.LevelsEnd.{LevelsEnd}
use Rattle.file_check.specs.RunLaws.{run_end}
use Rattle.file_check.proofs.LayerSteps.{leveled, off, layers_checked, layer_stops, layer_passes}
use Rattle.file_check.proofs.unchecked_position.check_layers.Goals as goal
use Rattle.file_check.proofs.unchecked_position.check_layers.Goals.{Start}

pub loop-init : goal.loop-init
loop-init c = layers_checked c.args.profile _ _ _ _ (omega arith) c.requires

-- `low` is what it was
as-given : (c : Start) {t : Result LevelsEnd Broken}
    → t ≡ levels_at c.args.profile c.args.count (to_z w64 (of_z w64 c.args.low)) c.args.file.now c.args.at
    → t ≡ levels_at c.args.profile c.args.count c.args.low c.args.file.now c.args.at
as-given c e = e ∙ ap (λ (z : ℤ). levels_at c.args.profile c.args.count z c.args.file.now c.args.at) (to_z-of_z w64 c.args.low c.ranges.low)

pub check_layer-requires : goal.check_layer-requires
check_layer-requires c = c.loop.invariant.inside

pub returns-in_err-l : goal.returns-in_err-l
returns-in_err-l c = record {
  value = raised _ c.from_residual.ensures.1
      ∙ as-given (goal.at.returns-in_err-l c).Start (layer_stops _ c.loop.invariant (omega arith) (sym c.in_err-l.ensures.value));
}

pub loop-preserved : goal.loop-preserved
loop-preserved c =
    layer_passes _ c.loop.invariant (omega arith) (sym c.in_ok-l.ensures.value)
    (same w64 c.in_ok-l.l.height (omega arith))

pub returns : goal.returns
returns c = record {
  value = as-given (goal.at.returns c).Start
      (run_end (layer_format_in c.args.profile) height_of leveled off _ _ c.loop.invariant (omega arith));
}

-- `unchecked::height_length` meets its contract.
use mathlib.Core.Path.{ap, ◌∙◌}
use mir.Syntax.{w32, w64}
use mir.ValLaws.{to_z-of_z}
use Rattle.laws.specs.Machine.{fit, got}
use Rattle.file_formats.specs.Numbers.{zigzag}
use Rattle.all_output.proofs.Bounding.{height_measured}
use Rattle.all_output.proofs.unchecked.height_length.Goals as goal

pub returns : goal.returns
returns c =
    let wide = got {w = w64} c.from.type_inv (c.from.ensures ∙ to_z-of_z w32 c.args.h c.ranges.h) (fit c.ranges.h).le in record {
      result = height_measured c.args.h c.ranges.h.sfits (c.unsigned_of.ensures.value ∙ ap zigzag wide.is) c.number_length.ensures.value;
    }

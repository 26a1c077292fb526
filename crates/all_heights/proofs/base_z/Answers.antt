-- `base_z` meets its contract.
use native.Mathlib.Omega.{arith}
use mir.Syntax.{w32}
use Rattle.laws.specs.Machine.{same}
use mathlib.Core.Path.{◌∙◌}
use Rattle.all_heights.specs.TakingLaws.{base_given, base_default}
use Rattle.all_heights.proofs.Counting.{none_given, some_given}
use Rattle.all_heights.proofs.base_z.Goals as goal

pub returns-then-is_empty : goal.returns-then-is_empty
returns-then-is_empty c = record {
  value = same w32 c.z_span.result.low (omega arith) ∙ c.z_span.ensures.result.0
      ∙ base_default c.args.coords.now c.args.heights.now (none_given c.is_empty.ensures c.if-is_empty.true);
}

pub returns-else-is_empty : goal.returns-else-is_empty
returns-else-is_empty c = record { value = base_given c.args.coords.now c.args.heights.now (some_given c.is_empty.ensures c.if-is_empty.false) }

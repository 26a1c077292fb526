-- `unchecked::fill_corners` meets its contract. The invariant: the corners that are left stand at i and go to c.
use mathlib.Core.Path.{sym, ◌∙◌}
use native.Mathlib.Omega.{arith}
use Rattle.file_formats.specs.PositionLaws.{took}
use Rattle.read_part.proofs.Runs.{fill_end, plain_start, plain_there, plain_next}
use Rattle.read_part.proofs.unchecked.fill_corners.Goals as goal

pub loop-c-init : goal.loop-c-init
loop-c-init c = plain_start c.requires

pub unwrap-v-requires : goal.unwrap-v-requires
unwrap-v-requires c = plain_there c.loop-c.invariant (omega arith) _ c.read_number.ensures.value

pub overflow_cast-corners : goal.overflow_cast-corners
overflow_cast-corners c = omega (arith, (took (sym c.read_number.ensures.value ∙ c.unwrap-v.ensures)).low)

pub loop-c-preserved : goal.loop-c-preserved
loop-c-preserved c = plain_next c.loop-c.invariant (omega arith) (sym c.read_number.ensures.value ∙ c.unwrap-v.ensures)

pub returns : goal.returns
returns c = record { outcome = fill_end c.loop-c.invariant (omega arith) }

-- `unchecked::fill_signed` meets its contract. The invariant: the numbers that are left stand at i and go to k.
use mathlib.Core.Path.{sym, ◌∙◌}
use native.Mathlib.Omega.{arith}
use mir.Syntax.{w32}
use Rattle.laws.specs.Machine.{same}
use Rattle.file_formats.specs.PositionLaws.{took}
use Rattle.read_part.proofs.Runs.{fill_end, signed_start, signed_there, signed_next}
use Rattle.read_part.proofs.unchecked.fill_signed.Goals as goal

pub loop-k-init : goal.loop-k-init
loop-k-init c = signed_start c.requires

pub unwrap-m-requires : goal.unwrap-m-requires
unwrap-m-requires c = signed_there c.loop-k.invariant (omega arith) _ c.read_number.ensures.value

pub signed_word-requires : goal.signed_word-requires
signed_word-requires c = (took (sym c.read_number.ensures.value ∙ c.unwrap-m.ensures)).low

pub loop-k-preserved : goal.loop-k-preserved
loop-k-preserved c =
    signed_next c.loop-k.invariant (omega arith) (sym c.read_number.ensures.value ∙ c.unwrap-m.ensures)
    (same w32 _ c.signed_word.type_inv ∙ c.signed_word.ensures.value)

pub returns : goal.returns
returns c = record { outcome = fill_end c.loop-k.invariant (omega arith) }

-- `word_of` meets its contract.
use mathlib.Core.Path.{◌∙◌, ap}
use mir.Syntax.{w64}
use mir.Val.{of_z}
use Rattle.laws.specs.Machine.{same}
use Rattle.out_words.proofs.Complements.{complement}
use Rattle.out_words.proofs.word_of.Goals as goal

pub returns : goal.returns
returns c = record { value = c.cast_unsigned.ensures ∙ ap (of_z w64) (same w64 c.args.z c.ranges.z.sfits) ∙ complement c.args.z }

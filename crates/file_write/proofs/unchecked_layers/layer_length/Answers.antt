-- `unchecked_layers::layer_length` meets its contract.
use mathlib.Core.Path.{◌≡◌, ap, ◌∙◌}
use Prim.Native.Nat.{◌≤◌}
use native.Mathlib.Omega.{arith}
use mir.Syntax.{w32, w64}
use mir.ValLaws.{to_z-of_z}
use Rattle.laws.specs.Machine.{same}
use Rattle.file_formats.specs.Numbers.{zigzag}
use Rattle.file_formats.specs.NumberLaws.{number_bytes}
use Rattle.file_write.proofs.Measuring.{layer_measured, height_short}
use Rattle.file_write.proofs.unchecked_layers.layer_length.Goals as goal
use Rattle.file_write.proofs.unchecked_layers.layer_length.Goals.{After-number_length-2}

-- what the height is sent as, and that it takes few bytes, and so does the count
module _ (c : After-number_length-2) where
  sent : c.unsigned_of.result ≡ zigzag c.args.h
  sent =
      c.unsigned_of.ensures.value ∙ ap zigzag (same w64 c.from.result c.from.type_inv ∙ c.from.ensures ∙ to_z-of_z w32 c.args.h c.ranges.h)

  height_few : c.number_length.result ≤ 5
  height_few = height_short c.args.h c.ranges.h.sfits sent c.number_length.ensures.value

  count_few : c.number_length-2.result ≤ 10
  count_few = omega (arith, c.number_length-2.ensures.value, number_bytes c.args.j c.ranges.j.fits)

pub overflow_add-result : goal.overflow_add-result
overflow_add-result c = omega (arith, height_few c, count_few c)

pub overflow_add-result-2 : goal.overflow_add-result-2
overflow_add-result-2 c =
    let counted = (goal.at.overflow_add-result-2 c).After-number_length-2 in
    omega (arith, height_few counted, count_few counted, c.contours_length.ensures.result.1, c.requires.there)

pub returns : goal.returns
returns c = record {
  value = layer_measured c.requires _ (sent (goal.at.returns c).After-number_length-2)
      c.number_length.ensures.value c.number_length-2.ensures.value c.contours_length.ensures.result.0;
}

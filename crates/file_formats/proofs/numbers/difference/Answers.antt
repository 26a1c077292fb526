-- `numbers::difference` meets its contract.
use mathlib.Core.Path.{◌≡◌, ap, ◌∙◌}
use mir.Syntax.{w32, w64}
use mir.ValLaws.{to_z-of_z}
use Rattle.laws.specs.Machine.{Rd, fit, got, sub, sub_ok}
use Rattle.file_formats.specs.Numbers.{zigzag}
use Rattle.file_formats.proofs.numbers.difference.Goals as goal
use Rattle.file_formats.proofs.numbers.difference.Goals.{After-from-2}

-- the two numbers in 64 bits
module _ (c : After-from-2) where
  abbrev z : Rd w64 c.args.z 2147483648
  z = got c.from.type_inv (c.from.ensures ∙ to_z-of_z w32 c.args.z c.ranges.z) (fit c.ranges.z).le

  abbrev before : Rd w64 c.args.before 2147483648
  before = got c.from-2.type_inv (c.from-2.ensures ∙ to_z-of_z w32 c.args.before c.ranges.before) (fit c.ranges.before).le

pub overflow_sub-from : goal.overflow_sub-from
overflow_sub-from c = sub_ok (z c) (before c) tt

pub returns : goal.returns
returns c =
    let at = (goal.at.returns c).After-from-2 in
    record { value = c.unsigned_of.ensures.value ∙ ap zigzag (sub {w = w64} (z at) (before at) tt).is }

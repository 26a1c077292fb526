-- `unchecked::taken_height` meets its contract.
use mathlib.Core.Path.{◌∙◌}
use native.Mathlib.Omega.{arith}
use mir.Syntax.{w32}
use mir.ValLaws.{to_z-of_z}
use Rattle.all_heights.proofs.Additions.{given_is, height_is}
use Rattle.all_heights.proofs.Counting.{none_given, some_given}
use Rattle.all_heights.proofs.unchecked.taken_height.Goals as goal

pub returns-then-not-is_empty : goal.returns-then-not-is_empty
returns-then-not-is_empty c = record {
  value = given_is c.args.low c.args.heights.now c.args.k (some_given c.is_empty.ensures c.if-not-is_empty.true) (omega arith);
}

pub returns : goal.returns
returns c = record {
  value = height_is c.ranges.low c.requires (none_given c.is_empty.ensures c.if-not-is_empty.false) c.from.type_inv
      (c.from.ensures ∙ to_z-of_z w32 c.args.low c.ranges.low);
}

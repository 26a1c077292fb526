-- `unchecked_text::write_signed` meets its contract.
use mathlib.Core.Path.{refl, ap, ◌∙◌}
use lib.IntN.{pos, nat_abs}
use lib.Signed.{◌<ℤ◌, ◌≤ℤ◌}
use mir.Syntax.{w64}
use Rattle.std.proofs.lemmas.Int.{to_z-of_z}
use Rattle.laws.specs.Machine.{fit, lit, lt_true, lt_false}
use Rattle.list_decimals.proofs.Spelling.{sign_room, below_room, below_put, above_room, above_put}
use Rattle.list_decimals.proofs.unchecked_text.write_signed.Goals as goal
use Rattle.list_decimals.proofs.unchecked_text.write_signed.Goals.{Else-z-lt0, Then-z-lt0}

below : (c : Then-z-lt0) → c.args.z <ℤ pos 0
below c = lt_true (fit c.ranges.z) (lit (pos 0) tt) c.if-z-lt0.true

above : (c : Else-z-lt0) → pos 0 ≤ℤ c.args.z
above c = lt_false (fit c.ranges.z) (lit (pos 0) tt) c.if-z-lt0.false

pub bounds-output-at : goal.bounds-output-at
bounds-output-at c = sign_room (below (goal.at.bounds-output-at c).Then-z-lt0) refl c.requires

pub write_decimal-requires : goal.write_decimal-requires
write_decimal-requires c =
    below_room (below (goal.at.write_decimal-requires c).Then-z-lt0) (c.unsigned_abs.ensures.value ∙ ap nat_abs (to_z-of_z w64 _ c.ranges.z)) c.requires _

pub returns-then-z-lt0 : goal.returns-then-z-lt0
returns-then-z-lt0 c = record {
  outcome = below_put (below (goal.at.returns-then-z-lt0 c).Then-z-lt0)
      (c.unsigned_abs.ensures.value ∙ ap nat_abs (to_z-of_z w64 _ c.ranges.z)) c.write_decimal.ensures.outcome;
}

pub write_decimal-requires-2 : goal.write_decimal-requires-2
write_decimal-requires-2 c =
    above_room (above (goal.at.write_decimal-requires-2 c).Else-z-lt0) (c.unsigned_abs-2.ensures.value ∙ ap nat_abs (to_z-of_z w64 _ c.ranges.z)) c.requires

pub returns : goal.returns
returns c = record {
  outcome = above_put (above (goal.at.returns c).Else-z-lt0)
      (c.unsigned_abs-2.ensures.value ∙ ap nat_abs (to_z-of_z w64 _ c.ranges.z)) c.write_decimal-2.ensures.outcome;
}

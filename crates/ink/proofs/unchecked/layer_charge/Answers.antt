-- `unchecked::layer_charge` meets its contract: an area below zero is charged nothing, any other as `charged` says.
use mathlib.Core.Path.{ap}
use native.Mathlib.Omega.{arith}
use Prim.Native.Nat.{◌<◌, ◌^◌}
use lib.IntN.{pos, nat_abs}
use mir.Syntax.{w64}
use mir.Val.{to_z, of_z}
use Rattle.laws.specs.Machine.{fit, lit, lt_true, lt_false}
use Rattle.laws.specs.SignLaws.{Negative, negative, NonNegative, non_negative, plain_ok}
use Rattle.ink.proofs.LayerCharges.{product_fits, parts_fit, none_charged, charged}
use Rattle.ink.proofs.unchecked.layer_charge.Goals as goal
use Rattle.ink.proofs.unchecked.layer_charge.Goals.{Else-area-lt0, Then-area-lt0}

neg : (c : Then-area-lt0) → Negative c.args.area
neg c = negative _ c.ranges.area (lt_true (fit c.ranges.area) (lit (pos 0) tt) c.if-area-lt0.true)

not_neg : (c : Else-area-lt0) → NonNegative c.args.area
not_neg c = non_negative _ c.ranges.area (lt_false (fit c.ranges.area) (lit (pos 0) tt) c.if-area-lt0.false)

pub returns-then-area-lt0 : goal.returns-then-area-lt0
returns-then-area-lt0 c = record { value = none_charged c.args.thickness (neg c) }

pub overflow_cast-s : goal.overflow_cast-s
overflow_cast-s c = plain_ok (not_neg c).is (not_neg c).small

-- it is below 2 ^ 63
size : (c : Else-area-lt0) → nat_abs (to_z w64 (of_z w64 c.args.area)) < 2 ^ 63
size c = omega (arith, (not_neg c).small, ap nat_abs (not_neg c).is)

pub overflow_mul-whole : goal.overflow_mul-whole
overflow_mul-whole c = product_fits _ c.requires _ (omega (arith, size c))

pub overflow_mul-rest : goal.overflow_mul-rest
overflow_mul-rest c = product_fits _ c.requires _ (omega (arith, size c))

pub overflow_add-result : goal.overflow_add-result
overflow_add-result c =
    let s = size (goal.at.overflow_add-result c).Else-area-lt0 in
    parts_fit _ c.requires _ _ (omega (arith, s)) (omega (arith, s)) c.div_ceil.ensures

pub returns : goal.returns
returns c = record { value = charged c.args.thickness (not_neg (goal.at.returns c).Else-area-lt0) c.div_ceil.ensures }

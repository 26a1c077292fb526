-- `numbers::unsigned_of` meets its contract.
use mathlib.Core.Path.{ap}
use native.Mathlib.Omega.{arith}
use lib.IntN.{pos, nat_abs}
use Rattle.laws.specs.Machine.{fit, lit, lt_true, lt_false}
use Rattle.laws.specs.SignLaws.{Negative, negative, below_fits, below_is, NonNegative, non_negative, plain_ok}
use Rattle.file_formats.proofs.Signs.{zigzag_negative, zigzag_non_negative}
use Rattle.file_formats.proofs.numbers.unsigned_of.Goals as goal
use Rattle.file_formats.proofs.numbers.unsigned_of.Goals.{Else-z-lt0, Then-z-lt0}

neg : (c : Then-z-lt0) → Negative c.args.z
neg c = negative _ c.ranges.z (lt_true (fit c.ranges.z) (lit (pos 0) tt) c.if-z-lt0.true)

not_neg : (c : Else-z-lt0) → NonNegative c.args.z
not_neg c = non_negative _ c.ranges.z (lt_false (fit c.ranges.z) (lit (pos 0) tt) c.if-z-lt0.false)

pub overflow_sub-result : goal.overflow_sub-result
overflow_sub-result c = below_fits (neg c)

pub overflow_cast-result : goal.overflow_cast-result
overflow_cast-result c = plain_ok (below_is (neg c)) (neg c).small

pub overflow_mul-result : goal.overflow_mul-result
overflow_mul-result c = omega (arith, (neg c).small, ap nat_abs (below_is (neg c)))

pub overflow_add-result : goal.overflow_add-result
overflow_add-result c = omega (arith, (neg c).small, ap nat_abs (below_is (neg c)))

pub returns-then-z-lt0 : goal.returns-then-z-lt0
returns-then-z-lt0 c = record { value = omega (arith, ap nat_abs (below_is (neg c)), zigzag_negative (neg c)) }

pub overflow_cast-result-else-z-lt0 : goal.overflow_cast-result-else-z-lt0
overflow_cast-result-else-z-lt0 c = plain_ok (not_neg c).is (not_neg c).small

pub overflow_mul-result-else-z-lt0 : goal.overflow_mul-result-else-z-lt0
overflow_mul-result-else-z-lt0 c = omega (arith, (not_neg c).small, ap nat_abs (not_neg c).is)

pub returns-else-z-lt0 : goal.returns-else-z-lt0
returns-else-z-lt0 c = record { value = omega (arith, ap nat_abs (not_neg c).is, zigzag_non_negative (not_neg c)) }

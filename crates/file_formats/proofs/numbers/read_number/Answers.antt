-- `numbers::read_number` meets its contract. The invariant: the number is the one at i above the groups that were read.
use Prim.Native.Nat.{◌-◌, ◌<◌, ◌≤◌}
use native.Mathlib.Omega.{arith}
use Rattle.file_formats.proofs.NumberReading.{number_reading, group_fits, ends, too_many_lem, too_large, needless, last, next}
use Rattle.file_formats.proofs.numbers.read_number.Goals as goal
use Rattle.file_formats.proofs.numbers.read_number.Goals.{Else-rest-lt128}

pub loop-i-init : goal.loop-i-init
loop-i-init c = number_reading _ _ _

pub returns-then-b-least : goal.returns-then-b-least
returns-then-b-least c = record { value = needless c.loop-i.invariant (omega arith) c.from-b.ensures c.if-b-lt128.true c.if-b-least.true }

pub returns-then-rest-b : goal.returns-then-rest-b
returns-then-rest-b c = record { value = too_large c.loop-i.invariant (omega arith) c.from-b.ensures c.if-b-lt128.true c.if-rest-b.true }

pub overflow_mul-result : goal.overflow_mul-result
overflow_mul-result c =
    omega (arith, group_fits c.loop-i.invariant c.from-b.result c.if-rest-b.false, c.ranges.top.fits)

pub overflow_add-result : goal.overflow_add-result
overflow_add-result c =
    omega (arith, group_fits c.loop-i.invariant c.from-b.result c.if-rest-b.false, c.ranges.top.fits)

pub returns-then-b-lt128 : goal.returns-then-b-lt128
returns-then-b-lt128 c = record {
  value = last c.loop-i.invariant (omega arith) c.from-b.ensures c.if-b-lt128.true c.if-b-least.false c.if-rest-b.false;
}

pub returns-then-rest-lt128 : goal.returns-then-rest-lt128
returns-then-rest-lt128 c = record {
  value = too_many_lem c.loop-i.invariant (omega arith) c.from-b.ensures c.if-b-lt128.false c.if-rest-lt128.true;
}

-- a byte, and its group, which is below what is left
byte : (c : Else-rest-lt128) → c.from-b.result < 256
byte c = omega (arith, c.from-b.ensures)

low : (c : Else-rest-lt128) → c.from-b.result - 128 ≤ c.loop-i.rest
low c = omega (arith, byte c, c.if-rest-lt128.false)

pub overflow_mul-value : goal.overflow_mul-value
overflow_mul-value c =
    omega (arith, group_fits c.loop-i.invariant (c.from-b.result - 128) (low c), c.ranges.top.fits)

pub overflow_add-value : goal.overflow_add-value
overflow_add-value c =
    omega (arith, group_fits c.loop-i.invariant (c.from-b.result - 128) (low c), c.ranges.top.fits)

pub overflow_mul-unit : goal.overflow_mul-unit
overflow_mul-unit c =
    omega (arith, group_fits c.loop-i.invariant 128 c.if-rest-lt128.false, c.ranges.top.fits)

pub overflow_sub-rest : goal.overflow_sub-rest
overflow_sub-rest c = low c

pub loop-i-preserved : goal.loop-i-preserved
loop-i-preserved c =
    next c.loop-i.invariant (omega arith) c.from-b.ensures c.if-b-lt128.false (byte c) c.if-rest-lt128.false

pub returns : goal.returns
returns c = record { value = ends c.loop-i.invariant (omega arith) }

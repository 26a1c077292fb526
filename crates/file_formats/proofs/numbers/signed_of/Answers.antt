-- `numbers::signed_of` meets its contract.
use Prim.Native.Nat.{◌/◌, ◌<◌, ◌^◌}
use native.Mathlib.Omega.{arith}
use Rattle.file_formats.proofs.Signs.{minus_fits, even, odd}
use Rattle.file_formats.proofs.numbers.signed_of.Goals as goal
use Rattle.file_formats.proofs.numbers.signed_of.Goals.{Start}

half : (c : Start) → c.args.m / 2 < 2 ^ 63
half c = omega (arith, c.ranges.m.fits)

pub returns-then-m-eq0 : goal.returns-then-m-eq0
returns-then-m-eq0 c = record { value = even _ (half (goal.at.returns-then-m-eq0 c).Start) c.if-m-eq0.true }

pub overflow_sub-result : goal.overflow_sub-result
overflow_sub-result c = minus_fits _ (half (goal.at.overflow_sub-result c).Start)

pub returns-else-m-eq0 : goal.returns-else-m-eq0
returns-else-m-eq0 c = record { value = odd _ (half (goal.at.returns-else-m-eq0 c).Start) c.if-m-eq0.false }

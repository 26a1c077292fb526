-- `unchecked::write_number` meets its contract. The invariant: what is left of the number goes to i.
use native.Mathlib.Omega.{arith}
use Rattle.file_formats.specs.NumberLaws.{encode_pos}
use Rattle.file_formats.proofs.NumberWriting.{number_writing, next, last}
use Rattle.file_formats.proofs.unchecked.write_number.Goals as goal

pub loop-v-init : goal.loop-v-init
loop-v-init c = number_writing

pub bounds-out-i : goal.bounds-out-i
bounds-out-i c = omega (arith, encode_pos c.loop-v.v)

pub loop-v-preserved : goal.loop-v-preserved
loop-v-preserved c = next c.loop-v.invariant c.loop-v-test.true

pub bounds-out-i-2 : goal.bounds-out-i-2
bounds-out-i-2 c = omega (arith, encode_pos c.loop-v.v)

pub returns : goal.returns
returns c = record { outcome = last c.loop-v.invariant c.loop-v-test.false }

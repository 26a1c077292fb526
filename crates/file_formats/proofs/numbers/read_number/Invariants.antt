-- `numbers::read_number` meets its contract. The invariant: the number is the one at i above the groups that were read.
use Rattle.file_formats.proofs.NumberReading.{NumberReading}
use Rattle.file_formats.proofs.numbers.read_number.Given as goal

abbrev pub invariant-loop-i : goal.invariant-loop-i
invariant-loop-i l = NumberReading l.file l.at l.top l.value l.unit l.rest l.least l.i

-- `unchecked::fill_signed` meets its contract. The invariant: the numbers that are left stand at i and go to k.
use Rattle.file_formats.specs.Numbers.{largest_word, signed}
use Rattle.file_formats.specs.PartFile.{signed_run}
use Rattle.read_part.specs.Layouts.{values_of}
use Rattle.read_part.proofs.Runs.{RunFilling}
use Rattle.read_part.proofs.unchecked.fill_signed.Given as goal

abbrev pub invariant-loop-k : goal.invariant-loop-k
invariant-loop-k l =
    RunFilling (signed largest_word) l.file (values_of signed_run l.file l.fn.run) l.initial.table l.fn.run.count l.table l.i l.k

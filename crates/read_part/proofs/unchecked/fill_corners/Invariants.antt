-- `unchecked::fill_corners` meets its contract. The invariant: the corners that are left stand at i and go to c.
use Rattle.file_formats.specs.Numbers.{largest_word, number}
use Rattle.file_formats.specs.PartFile.{plain_run}
use Rattle.read_part.specs.Layouts.{values_of}
use Rattle.read_part.proofs.Runs.{RunFilling}
use Rattle.read_part.proofs.unchecked.fill_corners.Given as goal

abbrev pub invariant-loop-c : goal.invariant-loop-c
invariant-loop-c l =
    RunFilling (number largest_word) l.file (values_of plain_run l.file l.fn.run) l.initial.corners l.fn.run.count l.corners l.i l.c

-- `unchecked::check_run` meets its contract. The invariant: what is left at i goes as far as the whole run does.
use Rattle.file_formats.specs.Positions.{extent_at}
use Rattle.file_formats.specs.PartFile.{plain_run}
use Rattle.read_part.proofs.Runs.{RunCheck}
use Rattle.read_part.proofs.unchecked.check_run.Given as goal

abbrev pub invariant-loop : goal.invariant-loop
invariant-loop l = RunCheck l.file (extent_at (plain_run l.count) l.file l.at) l.count l.i l.counter

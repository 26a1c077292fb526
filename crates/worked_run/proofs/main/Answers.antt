-- `main` meets its contract.
use native.Mathlib.Omega.{arith}
use lib.ListN.{length-take}
use Rattle.worked_run.proofs.main.Goals as goal

pub slice_bounds-file_heights-end : goal.slice_bounds-file_heights-end
slice_bounds-file_heights-end c = omega (arith, length-take 4096 c.rise.new.heights, c.rise.auto.heights)

-- `say_refused` meets its contract.
use native.Mathlib.Omega.{arith}
use lib.ListN.{length-take}
use Rattle.worked_run.proofs.say_refused.Goals as goal

pub slice_bounds-write_all-end : goal.slice_bounds-write_all-end
slice_bounds-write_all-end g c =
    let wrote = c.write_refusal-n in
    omega (arith, length-take wrote.result wrote.new.output, wrote.ensures.outcome.within)

-- `run_fits` meets its contract.
use Rattle.polygons.proofs.Testing.{run_odd, run_even}
use Rattle.polygons.proofs.run_fits.Goals as goal

pub returns-then-numbers-eq0 : goal.returns-then-numbers-eq0
returns-then-numbers-eq0 c = record { value = run_even _ c.if-numbers-eq0.true }

pub returns-else-numbers-eq0 : goal.returns-else-numbers-eq0
returns-else-numbers-eq0 c = record { value = run_odd _ c.if-numbers-eq0.false }

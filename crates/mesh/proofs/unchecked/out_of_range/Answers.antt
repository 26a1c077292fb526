-- `unchecked::out_of_range` meets its contract.
use Rattle.mesh.specs.TestLaws.{range_low, range_high}
use Rattle.mesh.proofs.unchecked.out_of_range.Goals as goal

pub returns-then-z-lt-LEAST_COORDINATE : goal.returns-then-z-lt-LEAST_COORDINATE
returns-then-z-lt-LEAST_COORDINATE c = record { value = range_low c.args.coords.now c.args.i c.z-1.given c.if-z-lt-LEAST_COORDINATE.true }

pub returns : goal.returns
returns c = record { value = range_high c.args.coords.now c.args.i c.z-1.given c.if-z-lt-LEAST_COORDINATE.false }

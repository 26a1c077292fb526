-- `unchecked::not_above_last` meets its contract.
use native.Mathlib.Omega.{arith}
use Rattle.all_heights.proofs.Scans.{no_forerunner, forerunner}
use Rattle.all_heights.proofs.unchecked.not_above_last.Goals as goal

pub returns-then-i-gt0 : goal.returns-then-i-gt0
returns-then-i-gt0 c = record { value = forerunner c.args.heights.now c.args.i (omega arith) (omega arith) (omega arith) }

pub returns-else-i-gt0 : goal.returns-else-i-gt0
returns-else-i-gt0 c = record { value = no_forerunner c.args.heights.now c.args.i c.if-i-gt0.false }

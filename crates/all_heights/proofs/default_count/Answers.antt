-- `default_count` meets its contract.
use mathlib.Core.Path.{sym}
use native.Mathlib.Omega.{arith}
use Rattle.all_heights.proofs.DefaultLaws.{count_none}
use Rattle.all_heights.proofs.Counting.{count_is}
use Rattle.all_heights.proofs.default_count.Goals as goal

pub returns-then-coords-eq0 : goal.returns-then-coords-eq0
returns-then-coords-eq0 c = record { value = sym (count_none c.args.coords.now c.if-coords-eq0.true) }

pub returns : goal.returns
returns c = record {
  value = count_is c.args.coords.now (omega arith) (omega arith) (omega arith) c.z_span-s.ensures.result.0 c.z_span-s.ensures.result.1 c.abs_diff-d.ensures;
}

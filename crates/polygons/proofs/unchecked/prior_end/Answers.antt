-- `unchecked::prior_end` meets its contract.
use mathlib.Core.Path.{sym, ap}
use native.Mathlib.Omega.{arith}
use Rattle.polygons.specs.Flat.{end_before}
use Rattle.polygons.proofs.FlatLaws.{before_next}
use Rattle.polygons.proofs.unchecked.prior_end.Goals as goal

pub returns-then-j-eq0 : goal.returns-then-j-eq0
unfolding end_before
returns-then-j-eq0 c = let e = c.if-j-eq0.true in record { value = ap (end_before 0 c.args.ends.now) (sym e) }

pub returns : goal.returns
returns c = record { value = before_next 0 _ _ (omega arith) }

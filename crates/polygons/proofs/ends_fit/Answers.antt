-- `ends_fit` meets its contract.
use mathlib.Core.Path.{refl}
use native.Mathlib.Omega.{arith}
use Rattle.polygons.proofs.Testing.{passed_start, passed_stop, passed_next, passed_end}
use Rattle.polygons.proofs.ends_fit.Goals as goal

pub loop-end-init : goal.loop-end-init
loop-end-init c = passed_start _ _

pub returns-then-e-a : goal.returns-then-e-a
returns-then-e-a c = record { value = passed_stop c.loop-end.invariant refl c.loop-end-test.true c.if-e-a.true }

pub loop-end-preserved : goal.loop-end-preserved
loop-end-preserved c =
    passed_next c.loop-end.invariant refl c.loop-end-test.true (let small = c.type_inv.ends c.loop-end.end-index in omega (arith, small)) c.if-e-a.false

pub returns : goal.returns
returns c = record { value = passed_end c.loop-end.invariant c.loop-end-test.false }

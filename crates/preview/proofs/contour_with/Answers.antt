-- `contour_with` meets its contract.
use mathlib.Core.Path.{refl}
use native.Mathlib.Omega.{arith}
use Rattle.preview.proofs.Searching.{halved_start, halve_low, halved_end}
use Rattle.preview.proofs.contour_with.Goals as goal

pub loop-a-init : goal.loop-a-init
loop-a-init c = halved_start _ _

pub loop-a-preserved-then-ends-m : goal.loop-a-preserved-then-ends-m
loop-a-preserved-then-ends-m c = halve_low c.loop-a.invariant _ refl (omega arith) c.if-ends-m.true

pub returns : goal.returns
returns c = record { result = halved_end c.loop-a.invariant c.loop-a-test.false }

-- `unchecked_rings::leap` meets its contract.
use Prim.Native.Nat.{◌+◌}
use native.Mathlib.Omega.{arith}
use Rattle.cut_trace.proofs.Seeking.{sought_none, sought_more}
use Rattle.cut_trace.proofs.unchecked_rings.leap.Goals as goal

pub loop-d-init : goal.loop-d-init
loop-d-init c = sought_none c.requires.begins

pub loop-d-preserved : goal.loop-d-preserved
loop-d-preserved c =
    sought_more c.loop-d.invariant (c.loop-d.d + 4) (omega arith) c.loop-d-test.true (c.no_links.ensures.sound c.if-no_links.true)

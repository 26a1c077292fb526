-- `unchecked_pairing::all_meet` meets its contract.
use native.Mathlib.Omega.{arith}
use borrow.Author.Tests.{not-false}
use Rattle.mesh_tables.proofs.PairingTest.{met_more, met_all}
use Rattle.mesh_tables.proofs.unchecked_pairing.all_meet.Goals as goal

pub loop-t-preserved : goal.loop-t-preserved
loop-t-preserved c =
    met_more _ _ _ c.loop-t.invariant (omega arith) (c.triangle_meets.ensures.sound (not-false _ c.if-not-triangle_meets.false-raw))

pub returns : goal.returns
returns c = record { sound = λ e. met_all _ _ c.requires c.if-pairing-corners.false _ (omega arith) c.loop-t.invariant }

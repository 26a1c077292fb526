-- `unchecked_pairing::first_unpaired` meets its contract. The invariant: nothing that fits was passed.
use native.Mathlib.Omega.{arith}
use Rattle.laws.specs.LeastLaws.{scan_hit, scan_over}
use Rattle.mesh.specs.TestLaws.{unpaired_is}
use Rattle.mesh_tables.proofs.unchecked_pairing.first_unpaired.Goals as goal

pub returns-then-not-is_paired : goal.returns-then-not-is_paired
returns-then-not-is_paired c = record {
  value = scan_hit c.loop-c.invariant (omega arith) (unpaired_is _ _ _ c.is_paired.ensures.value c.if-not-is_paired.true-raw);
}

pub returns : goal.returns
returns c = record { value = scan_over c.loop-c.invariant (omega arith) }

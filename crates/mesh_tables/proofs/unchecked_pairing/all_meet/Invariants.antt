-- `unchecked_pairing::all_meet` meets its contract.
use Rattle.mesh_tables.specs.Meeting.{Met}
use Rattle.mesh_tables.proofs.unchecked_pairing.all_meet.Given as goal

abbrev pub invariant-loop-t : goal.invariant-loop-t
invariant-loop-t l = Met l.corners l.pairing l.t

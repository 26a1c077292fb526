-- A verdict is known from what it tells.
use Rattle.std.proofs.Common.{refl, ap}
use Rattle.mesh.specs.Operation.{gives, refuses}
use Rattle.mesh.specs.OperationLaws.{Recovers}
use Rattle.mesh.specs.Refusals.{tell_verdict}
use Rattle.mesh.specs.RefusalLaws.{refusal_of, refusal_once}
use Rattle.std.specs.Prelude.{Ok, Err}

pub verdict_recovers : Recovers tell_verdict
verdict_recovers = record {
  back = elim [ gives _ ↦ Ok tt | refuses r ↦ Err (refusal_of r) ];
  once = elim [ Ok _ ↦ refl | Err r ↦ ap Err (refusal_once r) ];
}

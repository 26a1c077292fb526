-- `tell_answer` meets its contract.
use mathlib.Core.Path.{ap}
use Rattle.mesh.specs.Refusals.{tell}
use Rattle.out_words.specs.WordLaws.{says_values, says_refusal}
use Rattle.out_words.proofs.tell_answer.Goals as goal

pub returns-in-Ok : goal.returns-in-Ok
returns-in-Ok g c = record { outcome = says_values (ap (tell (λ v. v)) c.in-Ok.is) c.put_values.ensures.left }

pub returns-in-Err : goal.returns-in-Err
returns-in-Err g c = record { outcome = says_refusal (ap (tell (λ v. v)) c.in-Err.is) c.refuse.ensures.outcome }

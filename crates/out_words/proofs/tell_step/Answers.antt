-- `tell_step` meets its contract.
use mathlib.Core.Path.{refl, ap, ◌∙◌}
use Rattle.std.specs.Prelude.{Ok}
use Rattle.sweep.specs.Operations.{tell_step}
use Rattle.out_words.specs.WordLaws.{says_values, says_refusal}
use Rattle.out_words.proofs.tell_step.Goals as goal

pub returns-in-Some : goal.returns-in-Some
returns-in-Some c = record { outcome = says_values (ap tell_step (c.in-Ok.is ∙ ap Ok c.in-Some.is)) refl }

pub returns-in-None : goal.returns-in-None
returns-in-None c = record { outcome = says_values (ap tell_step (c.in-Ok.is ∙ ap Ok c.in-None.is)) refl }

pub returns-in-Err : goal.returns-in-Err
returns-in-Err c = record { outcome = says_refusal (ap tell_step c.in-Err.is) c.refuse.ensures.outcome }

-- `wadroles_step` meets its contract.
use Rattle.wadroles.specs.ExportLaws.{exports_told}
use borrow.Author.Rules.{rules}
use Rattle.wadroles.proofs.wadroles_step.Goals as goal

pub returns : goal.returns
returns c = record { outcome = exports_told c.step-stepped.ensures.outcome c.tell_step.ensures.outcome }

-- `ink` meets its contract.
use mathlib.Core.Path.{sym, ◌∙◌}
use Rattle.mesh.proofs.Raising.{raised}
use Rattle.ink.proofs.Answering.{ChargedAt, at_own, at_none, answers_broken, answers_charge, answers_out}
use Rattle.ink.proofs.ink.Goals as goal
use Rattle.ink.proofs.ink.Goals.{Joined-fits, then-fits, else-fits}

-- the thickness that the file is charged at
charged_at : (c : Joined-fits) → ChargedAt c.args.thickness c.if-fits.t
charged_at c =
    let e = c.thickness_fits-fits.ensures.value in
    elim c.if-fits.branch [ then-fits w ↦ at_own e w.if-fits.true (w.t-is ∙ w.from-t.ensures) | else-fits w ↦ at_none e w.if-fits.false w.t-is ]

pub charge_file-requires : goal.charge_file-requires
charge_file-requires c = (charged_at (goal.at.charge_file-requires c).Joined-fits).low

pub returns-in_err-charge : goal.returns-in_err-charge
returns-in_err-charge c = record { outcome = answers_broken _ _ _ c.in_err-charge.ensures.value (raised _ c.from_residual.ensures.1) }

pub returns-then-not-fits : goal.returns-then-not-fits
returns-then-not-fits c = record {
  outcome = answers_out _ _ _ c.in_ok-charge.ensures.value (sym c.thickness_fits-fits.ensures.value ∙ c.if-not-fits.true);
}

pub returns : goal.returns
returns c = record {
  outcome = answers_charge _ _ _ c.in_ok-charge.ensures.value (charged_at (goal.at.returns c).Joined-fits)
      (sym c.thickness_fits-fits.ensures.value ∙ c.if-not-fits.false);
}

-- `unchecked::is_kept` meets its contract.
use native.Mathlib.Omega.{arith}
use Rattle.clean_contour.proofs.Scanning.{kept_none, kept_one, kept_more}
use Rattle.clean_contour.proofs.unchecked.is_kept.Goals as goal

pub returns-then-from-end : goal.returns-then-from-end
returns-then-from-end c = record { value = kept_none _ _ _ c.requires.fact_1 c.if-from-end.true }

pub returns-then-second-end : goal.returns-then-second-end
returns-then-second-end c = record {
  value = kept_one _ _ _ c.requires.fact_1 (omega (arith, c.if-from-end.false)) c.first_other-second.ensures.found c.if-second-end.true;
}

pub returns : goal.returns
returns c = record {
  value = kept_more _ _ _ c.requires.fact_1 (omega (arith, c.if-from-end.false)) c.first_other-second.ensures.found c.if-second-end.false
      c.first_other-third.ensures.found;
}

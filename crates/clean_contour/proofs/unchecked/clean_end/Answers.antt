-- `unchecked::clean_end` meets its contract.
use Rattle.clean_contour.proofs.Contours.{end_dropped, kept_some, end_kept}
use Rattle.clean_contour.proofs.unchecked.clean_end.Goals as goal

pub returns-then-not-is_kept : goal.returns-then-not-is_kept
returns-then-not-is_kept c = record { found = end_dropped _ _ _ c.requires.fact_1 c.requires.fact_2 c.is_kept.ensures.value c.if-not-is_kept.true }

pub trimmed_end-requires : goal.trimmed_end-requires
trimmed_end-requires c = record {
  fact_1 = c.requires.fact_1;
  fact_2 = kept_some _ _ _ c.requires.fact_1 c.requires.fact_2 c.is_kept.ensures.value c.if-not-is_kept.false;
}

pub returns : goal.returns
returns c = record {
  found = end_kept _ _ _ c.requires.fact_1 c.requires.fact_2 c.is_kept.ensures.value c.if-not-is_kept.false c.trimmed_end.ensures.found;
}

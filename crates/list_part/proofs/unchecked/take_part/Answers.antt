-- `unchecked::take_part` meets its contract.
use native.Mathlib.Omega.{arith}
use Rattle.list_part.proofs.Reading.{long_stop, read_taken}
use Rattle.list_part.proofs.unchecked.take_part.Goals as goal

pub returns-then-input-gt-MOST_INPUT : goal.returns-then-input-gt-MOST_INPUT
returns-then-input-gt-MOST_INPUT c = record { outcome = long_stop _ _ c.if-input-gt-MOST_INPUT.true }

pub returns : goal.returns
returns c = record {
  outcome = read_taken c.read_part.ensures.outcome (λ i h. (c.shared_slice_known-1.given i).fits) (omega (arith, c.if-input-gt-MOST_INPUT.false))
      c.requires _ c.map_err.ensures.cases;
}

-- `list` meets its contract.
use mathlib.Core.Path.{refl}
use native.Mathlib.Omega.{arith}
use Rattle.list_part.proofs.Lists.{zeros_held, too_short, written}
use Rattle.list_part.proofs.list.Goals as goal

pub returns-then-output-lt-MOST_OUTPUT : goal.returns-then-output-lt-MOST_OUTPUT
returns-then-output-lt-MOST_OUTPUT c = record { outcome = too_short c.if-output-lt-MOST_OUTPUT.true }

pub list_with-n-requires : goal.list_with-n-requires
list_with-n-requires c = record {
  fact_1 = refl;
  fact_2 = zeros_held refl refl refl refl refl refl;
  fact_3 = omega (arith, c.if-output-lt-MOST_OUTPUT.false);
}

pub returns : goal.returns
returns c = record { outcome = written (omega (arith, c.if-output-lt-MOST_OUTPUT.false)) c.list_with-n.ensures.outcome }

-- `unchecked_pairing::is_paired` meets its contract.
use mathlib.Core.Path.{sym, ◌∙◌}
use native.Mathlib.Omega.{arith}
use borrow.Author.Tests.{not-true, not-false}
use Rattle.laws.specs.Booleans.{clash}
use Rattle.mesh.specs.TestLaws.{not_paired, paired_last}
use Rattle.mesh_tables.proofs.unchecked_pairing.is_paired.Goals as goal

pub returns-then-pairing-c : goal.returns-then-pairing-c
returns-then-pairing-c c = record { value = not_paired _ _ _ (λ p. omega (arith, p.there, c.if-pairing-c.true)) }

pub returns-then-corners-d : goal.returns-then-corners-d
returns-then-corners-d c = record { value = not_paired _ _ _ (λ p. omega (arith, p.corner, c.if-corners-d.true)) }

pub returns-then-not-is_reverse : goal.returns-then-not-is_reverse
returns-then-not-is_reverse c = record {
  value = not_paired _ _ _
      (λ p. clash p.turned (sym c.is_reverse.ensures.value ∙ not-true _ c.if-not-is_reverse.true-raw));
}

pub returns-then-pairing-d : goal.returns-then-pairing-d
returns-then-pairing-d c = record { value = not_paired _ _ _ (λ p. omega (arith, p.back_there, c.if-pairing-d.true)) }

pub returns : goal.returns
returns c = record {
  value = paired_last _ _ _ c.if-pairing-c.false c.if-corners-d.false
      (sym c.is_reverse.ensures.value ∙ not-false _ c.if-not-is_reverse.false-raw) c.if-pairing-d.false;
}

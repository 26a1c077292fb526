-- `unchecked::charge_file` meets its contract.
use mathlib.Core.Path.{◌≡◌, sym, ◌∙◌}
use native.Mathlib.Omega.{arith}
use Rattle.std.specs.Prelude.{Ok}
use Rattle.mesh.proofs.Raising.{raised}
use Rattle.file_formats.specs.LayerFile.{most_layers}
use Rattle.file_formats.specs.Positions.{number_at}
use Rattle.file_formats.specs.PositionLaws.{took}
use Rattle.ink.proofs.FileCharges.{no_count, layers_refused, left_over_lem, all_charged}
use Rattle.ink.proofs.unchecked.charge_file.Goals as goal
use Rattle.ink.proofs.unchecked.charge_file.Goals.{In_ok-count}

pub returns-in_err-count : goal.returns-in_err-count
returns-in_err-count c = record { value = raised _ c.from_residual.ensures.1 ∙ no_count c.args.thickness _ (sym c.in_err-count.ensures.value) }

-- the layer count, and where the layers start
count : (c : In_ok-count) → number_at most_layers c.args.file.now 0 ≡ Ok (c.in_ok-count.count, c.in_ok-count.start)
count c = sym c.in_ok-count.ensures.value

pub charge_layers-requires : goal.charge_layers-requires
charge_layers-requires c =
    let n = took (count (goal.at.charge_layers-requires c).In_ok-count) in
    (n.inside, n.low, c.requires)

pub returns-in_err-charge : goal.returns-in_err-charge
returns-in_err-charge c = record {
  value = raised _ c.from_residual-in_err-charge.ensures.1
      ∙ layers_refused _ _ (count (goal.at.returns-in_err-charge c).In_ok-count) (sym c.in_err-charge.ensures.value);
}

pub returns-then-end-file : goal.returns-then-end-file
returns-then-end-file c = record {
  value = left_over_lem _ _ (count (goal.at.returns-then-end-file c).In_ok-count) (sym c.in_ok-charge.ensures.value) (omega (arith, c.if-end-file.true));
}

pub returns : goal.returns
returns c = record {
  value = all_charged _ _ (count (goal.at.returns c).In_ok-count) (sym c.in_ok-charge.ensures.value) (omega (arith, c.if-end-file.false));
}

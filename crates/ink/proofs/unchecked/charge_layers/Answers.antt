-- `unchecked::charge_layers` meets its contract. The loop's invariant is `ChargeRun`.
use mathlib.Core.Path.{◌≡◌, sym, ap, ◌∙◌}
use Prim.Native.Nat.{◌+◌, ◌-◌}
use native.Mathlib.Omega.{arith}
use Rattle.std.specs.Prelude.{Ok}
use mir.Syntax.{w64}
use mir.Val.{to_z}
use Rattle.laws.specs.Machine.{same}
use Rattle.mesh.proofs.Raising.{raised}
use Rattle.cleaning.specs.declared.Profile.TheVariants.{Full}
use Rattle.file_check.specs.Answers.{layer_told_at}
use Rattle.ink.specs.Charges.{layer_charge}
use Rattle.ink.proofs.LayerRuns.{run_start, run_ends, run_stops, sum_small, run_passes}
use Rattle.ink.proofs.unchecked.charge_layers.Goals as goal
use Rattle.ink.proofs.unchecked.charge_layers.Goals.{After-layer_charge-charge, In_ok-l}

pub loop-init : goal.loop-init
loop-init c =
    let given = c.requires in
    run_start _ _ (omega arith) given.0 given.1 given.2

pub check_layer-requires : goal.check_layer-requires
check_layer-requires c = c.loop.invariant.run.inside

pub layer_charge-charge-requires : goal.layer_charge-charge-requires
layer_charge-charge-requires c = omega (arith, c.loop.invariant.thin)

pub returns-in_err-l : goal.returns-in_err-l
returns-in_err-l c = record { value = raised _ c.from_residual.ensures.1 ∙ run_stops c.loop.invariant (omega arith) (sym c.in_err-l.ensures.value) }

-- the layer that was read
told : (c : In_ok-l) → layer_told_at Full (to_z w64 c.loop.last-bits) c.args.file.now c.loop.i ≡ Ok c.in_ok-l.l
told c = sym c.in_ok-l.ensures.value

-- and what it is charged
charged : (c : After-layer_charge-charge) → c.layer_charge-charge.result ≡ layer_charge c.args.thickness c.in_ok-l.l.area
charged c = c.layer_charge-charge.ensures.value ∙ ap (layer_charge _) (same w64 c.in_ok-l.l.area (omega arith))

pub overflow_add-charge : goal.overflow_add-charge
overflow_add-charge c =
    let at = goal.at.overflow_add-charge c in
    omega (arith, sum_small c.loop.invariant {rest = c.args.count - (c.loop.counter + 1)} (omega arith) (told at.In_ok-l) (charged c))

pub loop-preserved : goal.loop-preserved
loop-preserved c =
    run_passes c.loop.invariant (omega arith) (told (goal.at.loop-preserved c).In_ok-l) (charged (goal.at.loop-preserved c).After-layer_charge-charge)
    (same w64 c.in_ok-l.l.height (omega arith))

pub returns : goal.returns
returns c = record { value = run_ends c.loop.invariant (omega arith) }

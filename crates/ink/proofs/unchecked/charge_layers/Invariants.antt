-- `unchecked::charge_layers` meets its contract. The loop's invariant is `ChargeRun`.
use Prim.Native.Nat.{◌-◌}
use Rattle.ink.specs.Steps.{charges_at}
use Rattle.ink.proofs.LayerRuns.{ChargeRun}
use Rattle.ink.proofs.unchecked.charge_layers.Given as goal

abbrev pub invariant-loop : goal.invariant-loop
invariant-loop l = ChargeRun l.thickness l.file (charges_at l.thickness l.count l.file l.at) l.last l.charge l.i (l.count - l.counter)

-- `preview_run` meets its contract.
use Prim.Native.Nat.{ℕ}
use mathlib.Core.Path.{refl, sym, ap, ◌∙◌}
use lib.ListN.{take, drop}
use Rattle.mesh.specs.Operation.{gives, unless_refused}
use Rattle.mesh.specs.OperationLaws.{does_refuse, does_give}
use Rattle.mesh.specs.Refusals.{tell_verdict}
use Rattle.mesh.proofs.Raising.{raised}
use Rattle.polygons.specs.Flat.{flat}
use Rattle.preview.specs.Calls.{calls_of}
use Rattle.preview.specs.Preview.{call_tables, filled_with, tell_preview_run}
use Rattle.preview.proofs.preview_run.Goals as goal

pub returns-in_err-preview_test : goal.returns-in_err-preview_test
unfolding unless_refused
returns-in_err-preview_test c = record {
  outcome = does_refuse c.preview_test.ensures.told (ap tell_verdict c.in_err-preview_test.was)
      (ap tell_preview_run (raised _ c.from_residual.ensures.1)) refl;
}

pub fill_calls-requires : goal.fill_calls-requires
fill_calls-requires c = sym c.preview_test.ensures.told ∙ ap tell_verdict c.in_ok-preview_test.was

pub returns : goal.returns
unfolding unless_refused
returns c =
    let calls = calls_of c.args.origin (flat c.args.points.now c.args.ends.now) in
    let u = call_tables c.args.kinds.now c.args.floats.now in
    record {
      outcome = does_give c.preview_test.ensures.told (ap tell_verdict c.in_ok-preview_test.was) (ap gives c.fill_calls.ensures.value)
          (c.fill_calls.ensures.left ∙ ap (λ (n : ℕ). filled_with (take n (drop c.args.number calls)) u) c.fill_calls.ensures.value);
    }

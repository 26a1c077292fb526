-- `nesting` meets its contract.
use mathlib.Core.Path.{ap}
use borrow.Author.Tests.{not-true, not-false}
use Rattle.mesh.specs.Refusals.{tell_verdict}
use Rattle.mesh.proofs.Raising.{raised}
use Rattle.nesting.proofs.Answers.{layer_refused, tables_short, tables_there, layer_nested}
use Rattle.nesting.proofs.nesting.Goals as goal

pub returns-in_err-layer_test : goal.returns-in_err-layer_test
returns-in_err-layer_test c = record {
  outcome = layer_refused c.layer_test.ensures.told (ap tell_verdict c.in_err-layer_test.was) (raised _ c.from_residual.ensures.1);
}

pub returns-then-not-nest_room_for : goal.returns-then-not-nest_room_for
returns-then-not-nest_room_for c = record {
  outcome = tables_short c.layer_test.ensures.told (ap tell_verdict c.in_ok-layer_test.was) c.nest_room_for.ensures.value
      (not-true _ c.if-not-nest_room_for.true-raw);
}

pub nest-requires : goal.nest-requires
nest-requires c =
    tables_there _ _ c.layer_test.ensures.told (ap tell_verdict c.in_ok-layer_test.was) c.nest_room_for.ensures.value
    (not-false _ c.if-not-nest_room_for.false-raw)

pub returns : goal.returns
returns c = record {
  outcome = layer_nested c.layer_test.ensures.told (ap tell_verdict c.in_ok-layer_test.was) c.nest_room_for.ensures.value
      (not-false _ c.if-not-nest_room_for.false-raw) c.nest.ensures.left;
}

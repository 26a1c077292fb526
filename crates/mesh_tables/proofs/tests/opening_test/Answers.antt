-- `opening_test` meets its contract: 1, 9, then the tests of the contents.
use mathlib.Core.Path.{refl, sym, ap, ◌∙◌}
use native.Mathlib.Omega.{arith}
use borrow.Author.Tests.{not-false}
use Rattle.mesh.specs.OperationLaws.{verdict_stop, verdict_next, whole_refused, whole_fine, fine_nowhere}
use Rattle.mesh.specs.Refusals.{refusal, tell_verdict}
use Rattle.mesh.specs.TestLaws.{sizes_whole}
use Rattle.mesh.proofs.Raising.{handed_on}
use Rattle.mesh_tables.proofs.tests.opening_test.Goals as goal

pub returns-in_err-one_mesh_test : goal.returns-in_err-one_mesh_test
returns-in_err-one_mesh_test c = record {
  told = ap tell_verdict (handed_on c.in_err-one_mesh_test.was c.from_residual.ensures.1)
      ∙ verdict_stop _ _ c.one_mesh_test.ensures.told (ap tell_verdict c.in_err-one_mesh_test.was);
}

pub returns-then-not-few : goal.returns-then-not-few
returns-then-not-few c = record {
  told = verdict_next _ _ c.one_mesh_test.ensures.told (ap tell_verdict c.in_ok-one_mesh_test.was)
      (verdict_stop _ _ (whole_refused (refusal 1) _ c.if-not-few.true-raw) refl);
}

pub returns-then-not-room : goal.returns-then-not-room
returns-then-not-room c = record {
  told = verdict_next _ _ c.one_mesh_test.ensures.told (ap tell_verdict c.in_ok-one_mesh_test.was)
      (verdict_next _ _ (whole_fine (refusal 1) _ c.if-not-few.false-raw) refl
      (verdict_stop _ _ (whole_refused (refusal 9) _ c.if-not-room.true-raw) refl));
}

pub content_test-requires : goal.content_test-requires
content_test-requires c =
    let passed = fine_nowhere _ (sym c.one_mesh_test.ensures.told ∙ ap tell_verdict c.in_ok-one_mesh_test.was) in
    sizes_whole _ _ (not-false _ (passed 0 (omega arith)))

pub returns : goal.returns
returns c = record {
  told = verdict_next _ _ c.one_mesh_test.ensures.told (ap tell_verdict c.in_ok-one_mesh_test.was)
      (verdict_next _ _ (whole_fine (refusal 1) _ c.if-not-few.false-raw) refl
      (verdict_next _ _ (whole_fine (refusal 9) _ c.if-not-room.false-raw) refl c.content_test.ensures.told));
}

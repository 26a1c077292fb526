-- What Preview and Preview of a run promise: each refuses exactly if a listed condition holds, gives its values exactly if none does, and the outcome is the
-- only one. Before that what a layer and an origin that are not refused are.
use Rattle.std.specs.Prelude.{ℕ, ◌+◌, ◌/◌, ◌≤◌, ◌≡◌, refl, true, ◌↔◌, length, Option, None as NoCall, Result, Ok, Err}
use Rattle.std.proofs.Common.{sym, ap, ◌∙◌, arith}
use Rattle.std.proofs.lemmas.Bool.{not-false}
use Rattle.mesh.specs.Operation.{gives, refuses}
use Rattle.mesh.specs.OperationLaws.{First, None, more, done, fine_none, Recovers, given_verdict, refused_exactly, given_exactly, only_outcome}
use Rattle.mesh.specs.Refusals.{Told}
use Rattle.mesh.specs.RefusalLaws.{refusal_of, refusal_once}
use Rattle.mesh.specs.declared.Refusal.{Refusal}
use Rattle.polygons.specs.Flat.{FlatLayer}
use Rattle.polygons.proofs.FlatLaws.{LayerTested, none_tested}
use Rattle.preview_floats.specs.declared.Origin.{Origin}
use Rattle.preview_floats.specs.DrawnPoints.{whole_origin}
use Rattle.preview.specs.PlaceLaws.{past_exactly}
use Rattle.preview.specs.declared.PathCall.{PathCall}
use Rattle.preview.specs.Preview.{preview_tests, Drawable, previewing, tell_preview, Previews, CallTables, preview_running, tell_preview_run, PreviewsRun}

-- ---- what is not refused

-- what the tests have told, part by part
pub record DrawTested (t : FlatLayer) (o : Origin) : Type 0 where
  pub layer : LayerTested t
  pub origin : whole_origin o ≡ true

pub draw_tested : (t : FlatLayer) (o : Origin) → Drawable t o → DrawTested t o
draw_tested t o e = go (fine_none (preview_tests t o) e)
  where
    go : None (preview_tests t o) → DrawTested t o
    go (more a (more l (more r done))) = record { layer = none_tested t l r; origin = not-false _ (a 0 (omega arith)) }

-- ---- the cases of an answer, from what they tell

pub preview_recovers : Recovers tell_preview
preview_recovers = record {
  back = elim [ gives call ↦ Ok call | refuses r ↦ Err (refusal_of r) ];
  once = elim [ Ok call ↦ refl | Err r ↦ ap Err (refusal_once r) ];
}

pub run_recovers : Recovers tell_preview_run
run_recovers = record {
  back = elim [ gives n ↦ Ok n | refuses r ↦ Err (refusal_of r) ];
  once = elim [ Ok n ↦ refl | Err r ↦ ap Err (refusal_once r) ];
}

-- ---- refused exactly if, given exactly if, and one outcome only

module _ {t : FlatLayer} {o : Origin} {number : ℕ} {result : Result (Option PathCall) Refusal} (d : Previews t o number result) where
  pub preview_refused : (r : Told) → (tell_preview result ≡ refuses r) ↔ First (previewing (t, o, number)).refusals r
  preview_refused = refused_exactly d

  pub preview_given : (tell_preview result ≡ gives (previewing (t, o, number)).values) ↔ None (previewing (t, o, number)).refusals
  preview_given = given_exactly d

  -- past the last exactly from so many calls on as there are points and contours (PREVIEW-5)
  pub preview_past : (tell_preview result ≡ gives NoCall) ↔ (Drawable t o × (length t.points / 2 + length t.ends ≤ number))
  preview_past = (
    (λ e. let g = given_verdict d e in (g.0, (past_exactly o t (draw_tested t o g.0).layer.tested number).0 (sym g.1))),
    (λ w. preview_given.1 (fine_none _ w.0) ∙ ap gives ((past_exactly o t (draw_tested t o w.0).layer.tested number).1 w.1)),
  )

  pub preview_only : {other : Result (Option PathCall) Refusal} → Previews t o number other → result ≡ other
  preview_only e = (only_outcome preview_recovers d e).0

module _ {t : FlatLayer} {o : Origin} {number : ℕ} {u u' : CallTables} {result : Result ℕ Refusal} (d : PreviewsRun t o number u result u') where
  pub run_refused : (r : Told) → (tell_preview_run result ≡ refuses r) ↔ First (preview_running (t, o, number, u)).refusals r
  run_refused = refused_exactly d

  pub run_given : (tell_preview_run result ≡ gives (preview_running (t, o, number, u)).values) ↔ None (preview_running (t, o, number, u)).refusals
  run_given = given_exactly d

  pub run_only : {other : Result ℕ Refusal} {u'' : CallTables} → PreviewsRun t o number u other u'' → (result ≡ other) × (u' ≡ u'')
  run_only = only_outcome run_recovers d

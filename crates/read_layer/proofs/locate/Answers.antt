-- `locate` meets its contract.
use mathlib.Core.Path.{◌≡◌, sym, ap, ◌∙◌, subst}
use mathlib.Core.List.{List}
use Rattle.std.specs.Prelude.{Ok, Option}
use Rattle.mesh.proofs.Raising.{raised}
use Rattle.mesh.specs.Operation.{refuses}
use Rattle.mesh.specs.Refusals.{told_of}
use Rattle.mesh.specs.declared.Refusal.{Refusal}
use Rattle.file_formats.specs.Formats.{Parse}
use Rattle.file_formats.specs.LayerFile.{Layer, most_layers, lowest}
use Rattle.file_formats.specs.Positions.{number_at}
use Rattle.file_formats.specs.PositionLaws.{took}
use Rattle.read_layer.specs.ReadingLaws.{verdict_absent}
use Rattle.read_layer.specs.Places.{last_layers, Searched}
use Rattle.read_layer.specs.declared.LayerPlace.{LayerPlace}
use Rattle.read_layer.proofs.Answering.{located_broken, no_count, searched_broken, searched_missing, searched_found, refused_broken, refused_short, ready}
use Rattle.read_layer.proofs.locate.Goals as goal
use Rattle.read_layer.proofs.locate.Goals.{In-Ok, In_ok-count}

pub returns-in_err-count : goal.returns-in_err-count
returns-in_err-count c = record {
  result = located_broken _ _ _ _ (no_count _ (sym c.read_number.ensures.value ∙ c.in_err-count.was)) _ (raised _ c.from_residual.ensures.1);
}

-- the layer count, and where the layers start
count : (c : In_ok-count) → number_at most_layers c.args.file.now 0 ≡ Ok (c.in_ok-count.count, c.in_ok-count.start)
count c = sym c.read_number.ensures.value ∙ c.in_ok-count.was

pub find_layer-requires : goal.find_layer-requires
find_layer-requires c = (took (count c)).inside

pub refusal_at-requires : goal.refusal_at-requires
refusal_at-requires c = (took (count (goal.at.refusal_at-requires c).In_ok-count)).inside

pub returns-in-Err : goal.returns-in-Err
returns-in-Err c =
    let at = goal.at.returns-in-Err c in
    let p = c.args.profile in
    let i = c.args.i in
    let h = searched_broken p _ (count at.In_ok-count) i c.in-Err.ensures.result in record {
      result = refused_broken p _ (count at.In_ok-count) i _ h ∙ ap (λ (r : Refusal). refuses (told_of r)) (sym c.refusal_at.ensures.value);
    }

-- what the search says
module _ (c : In-Ok) where
  -- the layers
  abbrev layers : Parse (List Layer)
  layers = last_layers c.args.profile c.in_ok-count.count lowest c.args.file.now c.in_ok-count.start

  sought : {o : Option LayerPlace} → c.in-Ok.found ≡ o → Searched c.args.file.now c.args.i layers (Ok o)
  sought e = subst (λ (o : Option LayerPlace). Searched c.args.file.now c.args.i layers (Ok o)) e c.in-Ok.ensures.result

pub returns-in_default : goal.returns-in_default
returns-in_default c =
    let at = goal.at.returns-in_default c in
    let q = searched_missing c.args.profile _ (count at.In_ok-count) _ (sought at.In-Ok c.in_default.is) in
    record { result = verdict_absent _ _ _ c.args.profile q.1 q.2 }

pub returns-then-read_layer_room_for : goal.returns-then-read_layer_room_for
returns-then-read_layer_room_for c =
    let at = goal.at.returns-then-read_layer_room_for c in
    let held = searched_found c.args.profile _ (count at.In_ok-count) _ (sought at.In-Ok c.in-Some.is) in
    record { result = ready c.args.profile _ held (sym c.read_layer_room_for.ensures.value ∙ c.if-read_layer_room_for.true) }

pub returns : goal.returns
returns c =
    let at = goal.at.returns c in
    let held = searched_found c.args.profile _ (count at.In_ok-count) _ (sought at.In-Ok c.in-Some.is) in
    record { result = refused_short c.args.profile _ held (sym c.read_layer_room_for.ensures.value ∙ c.if-read_layer_room_for.false) }

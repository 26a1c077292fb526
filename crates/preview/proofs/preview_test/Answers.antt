-- `preview_test` meets its contract.
use Rattle.polygons.specs.Flat.{flat}
use Rattle.preview.proofs.Fetching.{origin_refused, origin_passed}
use Rattle.preview.proofs.preview_test.Goals as goal

pub returns-then-not-whole_origin : goal.returns-then-not-whole_origin
returns-then-not-whole_origin c = record {
  told = origin_refused (flat c.args.points.now c.args.ends.now) _ c.whole_origin.ensures.value c.if-not-whole_origin.true;
}

pub returns : goal.returns
returns c = record {
  told = origin_passed (flat c.args.points.now c.args.ends.now) _ c.whole_origin.ensures.value c.if-not-whole_origin.false c.layer_test.ensures.told;
}

-- `unchecked_layers::write_layer` meets its contract.
use mathlib.Core.Path.{◌≡◌, ap, ◌∙◌}
use mir.Syntax.{w32, w64}
use mir.ValLaws.{to_z-of_z}
use Rattle.laws.specs.Machine.{same}
use Rattle.file_formats.specs.Numbers.{zigzag}
use Rattle.file_write.proofs.Writing.{height_room, count_room, contours_room, layer_put}
use Rattle.file_write.proofs.unchecked_layers.write_layer.Goals as goal
use Rattle.file_write.proofs.unchecked_layers.write_layer.Goals.{After-unsigned_of}

-- what the height is sent as
sent : (c : After-unsigned_of) → c.unsigned_of.result ≡ zigzag c.args.h
sent c =
    c.unsigned_of.ensures.value ∙ ap zigzag (same w64 c.from.result c.from.type_inv ∙ c.from.ensures ∙ to_z-of_z w32 c.args.h c.ranges.h)

pub write_number-p-requires : goal.write_number-p-requires
write_number-p-requires c =
    height_room c.args.output.now _ c.requires.fact_1 c.args.h (sent c) c.requires.fact_2

pub write_number-q-requires : goal.write_number-q-requires
write_number-q-requires c =
    count_room c.args.output.now _ c.requires.fact_1 c.args.h (sent (goal.at.write_number-q-requires c).After-unsigned_of)
    c.requires.fact_2 c.write_number-p.ensures.outcome

pub write_contours-requires : goal.write_contours-requires
write_contours-requires c = record {
  fact_1 = c.requires.fact_1;
  fact_2 = contours_room c.args.output.now _ c.requires.fact_1 c.args.h (sent (goal.at.write_contours-requires c).After-unsigned_of)
      c.requires.fact_2 c.write_number-p.ensures.outcome c.write_number-q.ensures.outcome;
}

pub returns : goal.returns
returns c = record {
  outcome = layer_put _ _ c.requires.fact_1 _ (sent (goal.at.returns c).After-unsigned_of) c.requires.fact_2
      c.write_number-p.ensures.outcome c.write_number-q.ensures.outcome c.write_contours.ensures.outcome;
}

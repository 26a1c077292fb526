-- `unchecked_lines::write_layers_line` meets its contract: after each call one word less of the line is left.
use Rattle.list_lines.proofs.Lines.{layers_words_lem, word_room, word_put, words_2, words_put}
use Rattle.list_lines.proofs.unchecked_lines.write_layers_line.Goals as goal

pub write_text-a-requires : goal.write_text-a-requires
write_text-a-requires c = word_room (layers_words_lem c.args.count c.requires)

pub write_decimal-b-requires : goal.write_decimal-b-requires
write_decimal-b-requires c = word_room (word_put (layers_words_lem c.args.count c.requires) c.write_text-a.ensures.outcome)

pub write_text-requires : goal.write_text-requires
write_text-requires c = word_room (words_2 (layers_words_lem c.args.count c.requires) c.write_text-a.ensures.outcome c.write_decimal-b.ensures.outcome)

pub returns : goal.returns
returns c = record {
  outcome = words_put (word_put (words_2 (layers_words_lem c.args.count c.requires) c.write_text-a.ensures.outcome c.write_decimal-b.ensures.outcome)
      c.write_text.ensures.outcome);
}

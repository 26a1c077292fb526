-- `unchecked_lines::write_refusal` meets its contract: after each call one word less of the line is left.
use native.Mathlib.Omega.{arith}
use Rattle.mesh.specs.Refusals.{told_of}
use Rattle.list_lines.proofs.Lines.{refused_words_lem, word_room, word_put, words_2, words_put}
use Rattle.list_lines.proofs.unchecked_lines.write_refusal.Goals as goal

pub write_text-a-requires : goal.write_text-a-requires
write_text-a-requires c =
    let words = refused_words_lem (told_of c.args.r) c.number_of-n.ensures.value c.place_of-p.ensures.value (omega arith) (omega arith) c.requires in
    word_room words

pub write_decimal-b-requires : goal.write_decimal-b-requires
write_decimal-b-requires c =
    let words = refused_words_lem (told_of c.args.r) c.number_of-n.ensures.value c.place_of-p.ensures.value (omega arith) (omega arith) c.requires in
    word_room (word_put words c.write_text-a.ensures.outcome)

pub write_text-c-requires : goal.write_text-c-requires
write_text-c-requires c =
    let words = refused_words_lem (told_of c.args.r) c.number_of-n.ensures.value c.place_of-p.ensures.value (omega arith) (omega arith) c.requires in
    word_room (words_2 words c.write_text-a.ensures.outcome c.write_decimal-b.ensures.outcome)

pub write_decimal-d-requires : goal.write_decimal-d-requires
write_decimal-d-requires c =
    let words = refused_words_lem (told_of c.args.r) c.number_of-n.ensures.value c.place_of-p.ensures.value (omega arith) (omega arith) c.requires in
    word_room (word_put (words_2 words c.write_text-a.ensures.outcome c.write_decimal-b.ensures.outcome) c.write_text-c.ensures.outcome)

pub write_text-requires : goal.write_text-requires
write_text-requires c =
    let words = refused_words_lem (told_of c.args.r) c.number_of-n.ensures.value c.place_of-p.ensures.value (omega arith) (omega arith) c.requires in
    let two = words_2 words c.write_text-a.ensures.outcome c.write_decimal-b.ensures.outcome in
    word_room (words_2 two c.write_text-c.ensures.outcome c.write_decimal-d.ensures.outcome)

pub returns : goal.returns
returns c =
    let words = refused_words_lem (told_of c.args.r) c.number_of-n.ensures.value c.place_of-p.ensures.value (omega arith) (omega arith) c.requires in
    let two = words_2 words c.write_text-a.ensures.outcome c.write_decimal-b.ensures.outcome in
    let four = words_2 two c.write_text-c.ensures.outcome c.write_decimal-d.ensures.outcome in
    record { outcome = words_put (word_put four c.write_text.ensures.outcome) }

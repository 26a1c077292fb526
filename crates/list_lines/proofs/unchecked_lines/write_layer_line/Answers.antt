-- `unchecked_lines::write_layer_line` meets its contract: after each call one word less of the line is left.
use Prim.Native.Nat.{ℕ}
use mathlib.Core.List.{List}
use lib.IntN.{ℤ}
use mir.Syntax.{w32, w64}
use mir.Val.{SFits, to_z, of_z}
use mir.ValLaws.{to_z-of_z}
use Rattle.laws.specs.Machine.{fit, cast, cast_ok}
use Rattle.list_decimals.specs.Texts.{TextRoom}
use Rattle.list_lines.specs.Lines.{layer_line_words, layer_line}
use Rattle.list_lines.proofs.Lines.{WordsLeft, layer_words_lem, word_room, word_put, words_2, words_put}
use Rattle.list_lines.proofs.unchecked_lines.write_layer_line.Goals as goal

-- the words of the line, with the height and the area as the calls get them
words : {l : List ℕ} {at : ℕ} {h : ℤ} (j k : ℕ) {a : ℤ} → SFits w32 h → SFits w64 a → TextRoom l at (layer_line h j k a)
    → WordsLeft l at (layer_line h j k a) l at (layer_line_words (to_z w64 (of_z w64 (to_z w32 (of_z w32 h)))) j k (to_z w64 (of_z w64 a)))
words j k {a} f g r = layer_words_lem j k (cast {w' = w64} (fit f) tt).is (to_z-of_z w64 a g) r

pub write_text-a-requires : goal.write_text-a-requires
write_text-a-requires c =
    let w = words c.args.contours c.args.points c.ranges.h c.ranges.area c.requires in
    word_room w

pub overflow_cast-h : goal.overflow_cast-h
overflow_cast-h c = cast_ok (fit c.ranges.h) tt

pub write_signed-b-requires : goal.write_signed-b-requires
write_signed-b-requires c =
    let w = words c.args.contours c.args.points c.ranges.h c.ranges.area c.requires in
    word_room (word_put w c.write_text-a.ensures.outcome)

pub write_text-c-requires : goal.write_text-c-requires
write_text-c-requires c =
    let w = words c.args.contours c.args.points c.ranges.h c.ranges.area c.requires in
    word_room (words_2 w c.write_text-a.ensures.outcome c.write_signed-b.ensures.outcome)

pub write_decimal-d-requires : goal.write_decimal-d-requires
write_decimal-d-requires c =
    let w = words c.args.contours c.args.points c.ranges.h c.ranges.area c.requires in
    let two = words_2 w c.write_text-a.ensures.outcome c.write_signed-b.ensures.outcome in
    word_room (word_put two c.write_text-c.ensures.outcome)

pub write_text-e-requires : goal.write_text-e-requires
write_text-e-requires c =
    let w = words c.args.contours c.args.points c.ranges.h c.ranges.area c.requires in
    let two = words_2 w c.write_text-a.ensures.outcome c.write_signed-b.ensures.outcome in
    word_room (words_2 two c.write_text-c.ensures.outcome c.write_decimal-d.ensures.outcome)

pub write_decimal-f-requires : goal.write_decimal-f-requires
write_decimal-f-requires c =
    let w = words c.args.contours c.args.points c.ranges.h c.ranges.area c.requires in
    let two = words_2 w c.write_text-a.ensures.outcome c.write_signed-b.ensures.outcome in
    let four = words_2 two c.write_text-c.ensures.outcome c.write_decimal-d.ensures.outcome in
    word_room (word_put four c.write_text-e.ensures.outcome)

pub write_text-g-requires : goal.write_text-g-requires
write_text-g-requires c =
    let w = words c.args.contours c.args.points c.ranges.h c.ranges.area c.requires in
    let two = words_2 w c.write_text-a.ensures.outcome c.write_signed-b.ensures.outcome in
    let four = words_2 two c.write_text-c.ensures.outcome c.write_decimal-d.ensures.outcome in
    word_room (words_2 four c.write_text-e.ensures.outcome c.write_decimal-f.ensures.outcome)

pub write_signed-i-requires : goal.write_signed-i-requires
write_signed-i-requires c =
    let w = words c.args.contours c.args.points c.ranges.h c.ranges.area c.requires in
    let two = words_2 w c.write_text-a.ensures.outcome c.write_signed-b.ensures.outcome in
    let four = words_2 two c.write_text-c.ensures.outcome c.write_decimal-d.ensures.outcome in
    let six = words_2 four c.write_text-e.ensures.outcome c.write_decimal-f.ensures.outcome in
    word_room (word_put six c.write_text-g.ensures.outcome)

pub write_text-requires : goal.write_text-requires
write_text-requires c =
    let w = words c.args.contours c.args.points c.ranges.h c.ranges.area c.requires in
    let two = words_2 w c.write_text-a.ensures.outcome c.write_signed-b.ensures.outcome in
    let four = words_2 two c.write_text-c.ensures.outcome c.write_decimal-d.ensures.outcome in
    let six = words_2 four c.write_text-e.ensures.outcome c.write_decimal-f.ensures.outcome in
    word_room (words_2 six c.write_text-g.ensures.outcome c.write_signed-i.ensures.outcome)

pub returns : goal.returns
returns c =
    let w = words c.args.contours c.args.points c.ranges.h c.ranges.area c.requires in
    let two = words_2 w c.write_text-a.ensures.outcome c.write_signed-b.ensures.outcome in
    let four = words_2 two c.write_text-c.ensures.outcome c.write_decimal-d.ensures.outcome in
    let six = words_2 four c.write_text-e.ensures.outcome c.write_decimal-f.ensures.outcome in
    let eight = words_2 six c.write_text-g.ensures.outcome c.write_signed-i.ensures.outcome in
    record { outcome = words_put (word_put eight c.write_text.ensures.outcome) }

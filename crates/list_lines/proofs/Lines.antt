-- The lines of a listing, word by word, and how long they are.
use Prim.Native.Nat.{ℕ, ◌^◌, ◌≤◌, ◌<◌}
use mathlib.Core.Path.{◌≡◌, refl, sym}
use mathlib.Core.List.{List, [], ◌∷◌, flatten}
use native.Mathlib.Omega.{arith}
use lib.ListN.{length}
use lib.IntN.{ℤ}
use lib.Signed.{mag}
use Rattle.mesh.specs.Refusals.{Told, refusal}
use Rattle.polygons.proofs.FlatLaws.{length_flatten}
use Rattle.list_decimals.proofs.DecimalLaws.{decimal_word, signed_word_lem}
use Rattle.list_decimals.specs.Texts.{TextRoom, PutsText}
use Rattle.list_decimals.specs.TextLaws.{TextWriting, text_writing, next_room, next_put, all_put}
use Rattle.list_lines.specs.Lines.{refused_words, refused_line, layers_words, layers_line, layer_line_words, layer_line}
use Rattle.list_lines.specs.Steps.{most_first, most_line, most_refused}

-- ---- a line goes to a position of an output l, which has room for it and is m now: those words that are left go to p

pub record WordsLeft (l : List ℕ) (at : ℕ) (line m : List ℕ) (p : ℕ) (words : List (List ℕ)) : Type 0 where
  pub room : TextRoom l at line
  pub left : TextWriting l at line m p words

words_start : {l : List ℕ} {at : ℕ} {line : List ℕ} {words : List (List ℕ)} → TextRoom l at line → line ≡ flatten words → WordsLeft l at line l at words
words_start h e = record { room = h; left = text_writing (omega (arith, h.within)) e }

module _ {l : List ℕ} {at : ℕ} {line m : List ℕ} {p : ℕ} where
  module _ {w : List ℕ} {ws : List (List ℕ)} (k : WordsLeft l at line m p (w ∷ ws)) where
    pub word_room : TextRoom m p w
    word_room = next_room k.left k.room

    pub word_put : {q : ℕ} {n : List ℕ} → PutsText m p w q n → WordsLeft l at line n q ws
    word_put v = record { room = k.room; left = next_put k.left v }

  pub words_put : WordsLeft l at line m p [] → PutsText l at line p m
  words_put k = all_put k.left

-- and the next one too
pub words_2 : {l : List ℕ} {at : ℕ} {line m : List ℕ} {p : ℕ} {v w : List ℕ} {ws : List (List ℕ)} {q r : ℕ} {n o : List ℕ}
    → WordsLeft l at line m p (v ∷ w ∷ ws) → PutsText m p v q n → PutsText n q w r o → WordsLeft l at line o r ws
words_2 k a b = word_put (word_put k a) b

-- ---- each line: as long as its words

refused_short : (r : Told) → r.number < 2 ^ 64 → r.place < 2 ^ 64 → length (refused_line r) ≤ most_refused
unfolding refused_line
refused_short r g h = omega (arith, length_flatten (refused_words r), decimal_word r.number g, decimal_word r.place h)

pub refused_words_lem : {l : List ℕ} (r : Told) {n p : ℕ} → n ≡ r.number → p ≡ r.place → n < 2 ^ 64 → p < 2 ^ 64 → most_refused ≤ length l
    → WordsLeft l 0 (refused_line r) l 0 (refused_words (refusal n p))
unfolding refused_line
refused_words_lem r e f g h long =
    words_start (record { within = omega (arith, refused_short r (omega arith) (omega arith)) }) (λ i. flatten (refused_words (refusal (sym e i) (sym f i))))

pub layers_short : (count : ℕ) → count < 2 ^ 64 → length (layers_line count) ≤ most_first
unfolding layers_line
layers_short count h = omega (arith, length_flatten (layers_words count), decimal_word count h)

pub layers_words_lem : {l : List ℕ} {at : ℕ} (count : ℕ) → TextRoom l at (layers_line count) → WordsLeft l at (layers_line count) l at (layers_words count)
unfolding layers_line
layers_words_lem count h = words_start h refl

pub layer_line_short : (h : ℤ) (j k : ℕ) (a : ℤ) → mag h < 2 ^ 63 → j < 2 ^ 64 → k < 2 ^ 64 → mag a < 2 ^ 63 → length (layer_line h j k a) ≤ most_line
unfolding layer_line
layer_line_short h j k a eh ej ek ea =
    omega (arith, length_flatten (layer_line_words h j k a), signed_word_lem h eh, decimal_word j ej, decimal_word k ek, signed_word_lem a ea)

-- the height and the area as the calls get them
pub layer_words_lem : {l : List ℕ} {at : ℕ} {h g : ℤ} (j k : ℕ) {a b : ℤ} → g ≡ h → b ≡ a → TextRoom l at (layer_line h j k a)
    → WordsLeft l at (layer_line h j k a) l at (layer_line_words g j k b)
unfolding layer_line
layer_words_lem j k e f r = words_start r (λ i. flatten (layer_line_words (sym e i) j k (sym f i)))

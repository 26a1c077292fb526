-- An answer as the C interface tells it: the number returned, and the words of `out`.
use Rattle.std.specs.Prelude.{ℕ, ◌-◌, ◌≡◌, List, [], ◌∷◌, set, ℤ, pos, negsuc, Float, Option, None, Some}
use Rattle.std.proofs.lemmas.List.Edits.{sets}
use Rattle.mesh.specs.Operation.{Answer, gives, refuses}
use Rattle.mesh.specs.Refusals.{Told, number_in}
use Rattle.sweep.specs.Operations.{StepGives, passes, top}
use Rattle.preview.specs.declared.PathCall.{PathCall}
use Rattle.preview.specs.declared.PathCall.TheVariants.{Move, Line, Close}
use Rattle.preview.specs.Preview.{kind_of}

-- the place on refusal, on success the values as words; the other numbers stay
unfoldable pub out_after : {G : Type 0} → (G → List ℕ) → Answer Told G → List ℕ → List ℕ
out_after words (gives g) out = sets out 0 (words g)
out_after words (refuses r) out = set out 0 r.place

-- an answer is told: 0 or the refusal's number is returned, and `out` has the place, or the values as words
pub record Says {G : Type 0} (words : G → List ℕ) (answer : Answer Told G) (out : List ℕ) (returned : ℕ) (out' : List ℕ) : Type 0 where
  pub returns : returned ≡ number_in answer
  pub writes : out' ≡ out_after words answer out

-- a signed value in two's complement, of 64 bits
unfoldable pub word_of : ℤ → ℕ
word_of (pos n) = n
word_of (negsuc n) = 18446744073709551615 - n

-- ---- the values of each operation, in their order

-- Check, Nesting: none
abbrev pub no_words : Unit {0} → List ℕ
no_words _ = []

-- Start: the count of passed vertices; All layers: the length of the file; Ink: the charge
abbrev pub one_word : ℕ → List ℕ
one_word n = n ∷ []

-- Area: the doubled area
abbrev pub signed_word : ℤ → List ℕ
signed_word z = word_of z ∷ []

-- Cut, Clean: the counts of contours and points
abbrev pub cut_words : ℕ × ℕ → List ℕ
cut_words (contours, points) = contours ∷ points ∷ []

-- Step: the count of passed vertices, and 1 where it was the top, else 0
abbrev pub step_words : ℕ → StepGives → List ℕ
step_words passed (passes n) = n ∷ 0 ∷ []
step_words passed top = passed ∷ 1 ∷ []

-- Layer: the count of passed vertices, and the counts of contours and points
abbrev pub layer_words : ℕ × (ℕ × ℕ) → List ℕ
layer_words (passed, (contours, points)) = passed ∷ contours ∷ points ∷ []

-- Read layer: the layer count, the layer's height, and its counts of contours and points
abbrev pub read_layer_words : ℕ × ℤ × ℕ × ℕ → List ℕ
read_layer_words (layers, height, contours, points) = layers ∷ word_of height ∷ contours ∷ points ∷ []

-- Read part: the counts of vertices, triangles and heights
abbrev pub read_part_words : ℕ × ℕ × ℕ → List ℕ
read_part_words (vertices, triangles, heights) = vertices ∷ triangles ∷ heights ∷ []

-- Preview: 0 for a move, 1 for a line, 2 for a close, 3 past the last
abbrev pub preview_words : Option PathCall → List ℕ
preview_words (Some c) = kind_of c ∷ []
preview_words None = 3 ∷ []

-- ---- the two floats of Preview, which a move and a line write

abbrev pub xy_after : Answer Told (Option PathCall) → List Float → List Float
xy_after (gives (Some (Move x y))) xy = sets xy 0 (x ∷ y ∷ [])
xy_after (gives (Some (Line x y))) xy = sets xy 0 (x ∷ y ∷ [])
xy_after (gives (Some Close)) xy = xy
xy_after (gives None) xy = xy
xy_after (refuses r) xy = xy

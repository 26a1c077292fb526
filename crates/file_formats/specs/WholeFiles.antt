-- What operations that read a file share: what the file holds, and refusals 13 (READ-6 to READ-8) and 18 (READCLEAN-3).
use Rattle.std.specs.Prelude.{ℕ, suc, Bool, false, List, [], eqb, length}
use Rattle.mesh.specs.Operation.{Condition}
use Rattle.mesh.specs.Refusals.{Told, refusal}
use Rattle.file_formats.specs.Formats.{Decoded, holds, broken}
use Rattle.file_formats.specs.LayerFile.{Layer, layers_of}

module _ {A : Type 0} where
  -- a decoded file is refused at this place
  unfoldable pub broken_at : Decoded A → ℕ → Bool
  broken_at (holds a) i = false
  broken_at (broken place) i = eqb i place

  -- a file that is refused, by this number, at that place
  abbrev pub form_as : ℕ → List ℕ → Decoded A → Condition Told
  form_as number file decoded = record { tells = refusal number; places = suc (length file); fits = broken_at decoded }

  -- 13: the first byte of the first value that is refused (READ-6), or the first
  -- byte left over (READ-8); for a missing value the file's length (READ-7)
  abbrev pub form : List ℕ → Decoded A → Condition Told
  form = form_as 13

  -- 18, asked after 13 of what the clean profile's format says: then only a contour that is not clean
  -- is refused, at its first byte, that of its point count (READCLEAN-3)
  abbrev pub unclean_form : List ℕ → Decoded A → Condition Told
  unclean_form = form_as 18

  -- what a file holds; where it is refused, `none`, which decides nothing, as 13 comes first
  unfoldable pub held_or : A → Decoded A → A
  held_or none (holds a) = a
  held_or none (broken place) = none

-- the layers of a file; where the bytes are no layer file there are none, which decides nothing, as 13 comes first
abbrev pub layers_in : List ℕ → List Layer
layers_in file = held_or [] (layers_of file)

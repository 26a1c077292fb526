-- A text (a list of bytes) that is written at a position of an output.
use Rattle.std.specs.Prelude.{ℕ, ◌+◌, ◌≤◌, ◌≡◌, List, length}
use Rattle.std.proofs.lemmas.List.Edits.{sets}

-- a text has room in an output from a position on
pub record TextRoom (output : List ℕ) (at : ℕ) (text : List ℕ) : Type 0 where
  pub within : at + length text ≤ length output

-- it stands there: the position after it, the room that it had, and the output with all before and after it as it was
pub record PutsText (output : List ℕ) (at : ℕ) (text : List ℕ) (end : ℕ) (output' : List ℕ) : Type 0 where
  pub ends : end ≡ at + length text
  pub within : end ≤ length output
  pub is : output' ≡ sets output at text

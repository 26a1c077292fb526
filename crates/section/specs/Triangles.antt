-- The ring entries of a triangle, written together: which of its vertices are passed, and a table with three entries set.
use Rattle.std.specs.Prelude.{ℕ, ◌+◌, ◌<◌, ◌≡◌, Bool, List, length, set}
use Rattle.mesh.specs.Corners.{start_of, end_of}
use Rattle.section.specs.Section.{VertexSet}

-- whether the two ends of corner c are passed
pub record Between (passed : VertexSet) (corners : List ℕ) (c : ℕ) (start end : Bool) : Type 0 where
  pub corner : c < length corners
  pub start_is : passed (start_of corners c) ≡ start
  pub end_is : passed (end_of corners c) ≡ end

-- the table with f of c, c + 1 and c + 2 there
abbrev pub set_three : (ℕ → ℕ) → ℕ → List ℕ → List ℕ
set_three f c t = set (set (set t c (f c)) (c + 1) (f (c + 1))) (c + 2) (f (c + 2))

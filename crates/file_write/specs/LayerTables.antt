-- What is asked of a table of points and a table of ends that hold a layer.
use Rattle.std.specs.Prelude.{ℕ, ◌*◌, ◌≤◌, List, [], ◌∷◌, length, take, ℤ}

-- ends do not fall, from `from` on, nor pass a table of n numbers
abbrev pub EndsWithin : ℕ → ℕ → List ℕ → Type 0
EndsWithin n from [] = Unit {0}
EndsWithin n from (end ∷ ends) = (from ≤ end) × (2 * end ≤ n) × EndsWithin n end ends

-- the tables hold a layer of j contours
pub record LayerTables (points : List ℤ) (ends : List ℕ) (j : ℕ) : Type 0 where
  pub there : j ≤ length ends
  pub rise : EndsWithin (length points) 0 (take j ends)

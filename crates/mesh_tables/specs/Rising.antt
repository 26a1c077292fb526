-- The rising prefix of a table of vertices, each before the next.
use Rattle.std.specs.Prelude.{ℕ, ◌-◌, Bool, not, ◌&&◌, ◌||◌, List, ltb, eqb, length, get_or, ℤ}
use Rattle.laws.specs.Least.{least}
use Rattle.mesh.specs.Corners.{vertex_count}
use Rattle.mesh.specs.Order.{before, rank}

-- entry i is there, is a vertex, and stands after the entry in front of it
unfoldable pub rises_at : List ℤ → List ℕ → ℕ → Bool
rises_at coords order i =
    ltb i (length order) && (ltb (get_or order i 0) (vertex_count coords) && (eqb i 0 || before coords (get_or order (i - 1) 0) (get_or order i 0)))

-- how many entries rise
unfoldable pub rising_count : List ℤ → List ℕ → ℕ
rising_count coords order = least (vertex_count coords) (λ i. not (rises_at coords order i))

-- entry i has another rank than i
unfoldable pub misplaced_at : List ℤ → List ℕ → ℕ → Bool
misplaced_at coords order i = not (eqb (rank coords (get_or order i 0)) i)

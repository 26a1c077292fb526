-- How a mesh uses its edges: equally often both ways (CHECK-17), or none twice, and pairing and 6 as they are there (CHECK-18).
use Rattle.std.specs.Prelude.{ℕ, ◌<◌, ◌≡◌, not, List, length}
use Rattle.laws.specs.Least.{least, some}
use Rattle.laws.specs.Tables.{tabulate}
use Rattle.mesh.specs.Corners.{start_of, end_of}
use Rattle.mesh.specs.Operation.{Condition}
use Rattle.mesh.specs.Refusals.{Told, refusal}
use Rattle.mesh.specs.Tests.{reverse}
use Rattle.check_pairing.specs.Partners.{uses}

-- corner c stands for the directed edge from a to b (MESH-7), as a statement
abbrev pub StandsFor : List ℕ → ℕ → ℕ → ℕ → Type 0
StandsFor corners a b c = (start_of corners c ≡ a) × (end_of corners c ≡ b)

-- as many corners have a directed edge as have the reverse (CHECK-17)
abbrev pub EvenEdges : List ℕ → Type 0
EvenEdges corners = (a b : ℕ) → uses corners a b (length corners) ≡ uses corners b a (length corners)

-- no two corners have the same directed edge (CHECK-18)
abbrev pub SingleEdges : List ℕ → Type 0
SingleEdges corners =
    (c d : ℕ) → c < length corners → d < length corners → start_of corners c ≡ start_of corners d → end_of corners c ≡ end_of corners d → c ≡ d

-- the pairing by edges alone: the least corner with the reverse edge
abbrev pub pairing_by_edges : List ℕ → List ℕ
pairing_by_edges corners = tabulate (length corners) (λ c. least (length corners) (reverse corners c))

-- 6 by edges alone: a corner whose reverse edge occurs nowhere
abbrev pub open_by_edges : List ℕ → Condition Told
open_by_edges corners = record { tells = refusal 6; places = length corners; fits = λ c. not (some (length corners) (reverse corners c)) }

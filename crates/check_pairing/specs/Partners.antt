-- The pairing of a mesh (CHECK-1) and refusal 6 (CHECK-11). Several sheets may share an edge: the first corner with a directed edge, in corner order, is
-- paired with the first that has the reverse, the second with the second, and so on.
use Rattle.std.specs.Prelude.{ℕ, Bool, not, ◌&&◌, List, eqb, length}
use Rattle.laws.specs.Count.{count}
use Rattle.laws.specs.Least.{least, some}
use Rattle.laws.specs.Tables.{tabulate}
use Rattle.mesh.specs.Corners.{start_of, end_of}
use Rattle.mesh.specs.Operation.{Condition}
use Rattle.mesh.specs.Refusals.{Told, refusal}
use Rattle.mesh.specs.Tests.{reverse}

-- ---- how often an edge is used

-- corner c stands for the directed edge from a to b (MESH-7)
unfoldable pub stands_for : List ℕ → ℕ → ℕ → ℕ → Bool
stands_for corners a b c = eqb (start_of corners c) a && eqb (end_of corners c) b

-- how many of the corners below k do
unfoldable pub uses : List ℕ → ℕ → ℕ → ℕ → ℕ
uses corners a b k = count k (stands_for corners a b)

-- how many corners before c have its directed edge
abbrev pub edge_rank : List ℕ → ℕ → ℕ
edge_rank corners c = uses corners (start_of corners c) (end_of corners c) c

-- ---- the pairing (CHECK-1)

-- corner d has the reverse edge of c, and as many corners with its own before it as c has
unfoldable pub partners : List ℕ → ℕ → ℕ → Bool
partners corners c d = reverse corners c d && eqb (edge_rank corners d) (edge_rank corners c)

-- the partner of corner c, its pair (MESH-8): where 6 does not fit there is one
unfoldable pub partner_of : List ℕ → ℕ → ℕ
partner_of corners c = least (length corners) (partners corners c)

-- the partner of each corner in turn
unfoldable pub pairing_of : List ℕ → List ℕ
pairing_of corners = tabulate (length corners) (partner_of corners)

-- ---- 6: a corner that finds no partner (CHECK-11, SCOPE-3)

unfoldable pub open_at : List ℕ → ℕ → Bool
open_at corners c = not (some (length corners) (partners corners c))

-- refusal 6
abbrev pub open_edge : List ℕ → Condition Told
open_edge corners = record { tells = refusal 6; places = length corners; fits = open_at corners }

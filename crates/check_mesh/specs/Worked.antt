-- The worked pieces on Check (WORKED-4, WORKED-13) and pairings on an edge that two solids share, by computation from the definitions.
use Rattle.std.specs.Prelude.{◌≡◌, refl, List, [], ◌∷◌, ℕ, ℤ, pos}
use Rattle.laws.specs.Count.{count}
use Rattle.laws.specs.Least.{least, some}
use Rattle.laws.specs.Tables.{tabulate}
use Rattle.mesh.specs.Order.{before, place, order_up_to, order_of}
use Rattle.mesh.specs.Meshes.{mesh}
use Rattle.mesh.specs.Operation.{gives, refuses, test, ◌then◌, verdict, answer_of}
use Rattle.mesh.specs.Refusals.{refusal}
use Rattle.mesh.specs.Tests.{sizes_fit, out_of_range, names_none, names_twice, reverse}
use Rattle.check_mesh.specs.Check.{check_tables, check_room_for, checking}
use Rattle.check_pairing.specs.Partners.{stands_for, uses, partners, open_at, partner_of, pairing_of}

-- part P
abbrev coords : List ℤ
coords = pos 0 ∷ pos 0 ∷ pos 0 ∷ pos 10 ∷ pos 0 ∷ pos 0 ∷ pos 0 ∷ pos 10 ∷ pos 0 ∷ pos 0 ∷ pos 0 ∷ pos 10 ∷ []

abbrev corners : List ℕ
corners = 0 ∷ 2 ∷ 1 ∷ 0 ∷ 1 ∷ 3 ∷ 0 ∷ 3 ∷ 2 ∷ 1 ∷ 2 ∷ 3 ∷ []

abbrev zeros : List ℕ
zeros = 0 ∷ 0 ∷ 0 ∷ 0 ∷ 0 ∷ 0 ∷ 0 ∷ 0 ∷ 0 ∷ 0 ∷ 0 ∷ 0 ∷ []

accepted : answer_of (checking (mesh coords corners, check_tables zeros zeros)) ≡ gives tt
unfolding verdict ◌then◌ test some least sizes_fit check_room_for out_of_range names_none names_twice open_at partners reverse uses count stands_for
accepted = refl

pairing : pairing_of corners ≡ 8 ∷ 9 ∷ 3 ∷ 2 ∷ 11 ∷ 6 ∷ 5 ∷ 10 ∷ 0 ∷ 1 ∷ 7 ∷ 4 ∷ []
unfolding pairing_of partner_of tabulate least partners reverse uses count stands_for
pairing = refl

order : order_of coords ≡ 0 ∷ 1 ∷ 2 ∷ 3 ∷ []
unfolding order_of order_up_to place before
order = refl

-- P without triangle 3: refusal 6, place 1 (WORKED-13)
opened : answer_of (checking (mesh coords (0 ∷ 2 ∷ 1 ∷ 0 ∷ 1 ∷ 3 ∷ 0 ∷ 3 ∷ 2 ∷ []), check_tables zeros zeros)) ≡ refuses (refusal 6 1)
unfolding verdict ◌then◌ test some least sizes_fit check_room_for out_of_range names_none names_twice open_at partners reverse uses count stands_for
opened = refl

-- ---- P and a second tetrahedron 0, 1, 4, 5 that shares its edge between vertices 0 and 1

-- corners 2 and 14 lead from 1 to 0, and corners 3 and 15 back
pub shared_pairing : pairing_of (0 ∷ 2 ∷ 1 ∷ 0 ∷ 1 ∷ 3 ∷ 0 ∷ 3 ∷ 2 ∷ 1 ∷ 2 ∷ 3 ∷ 0 ∷ 4 ∷ 1 ∷ 0 ∷ 1 ∷ 5 ∷ 0 ∷ 5 ∷ 4 ∷ 1 ∷ 4 ∷ 5 ∷ [])
    ≡ 8 ∷ 9 ∷ 3 ∷ 2 ∷ 11 ∷ 6 ∷ 5 ∷ 10 ∷ 0 ∷ 1 ∷ 7 ∷ 4 ∷ 20 ∷ 21 ∷ 15 ∷ 14 ∷ 23 ∷ 18 ∷ 17 ∷ 22 ∷ 12 ∷ 13 ∷ 19 ∷ 16 ∷ []
unfolding pairing_of partner_of tabulate least partners reverse uses count stands_for
shared_pairing = refl

-- the triangles in another order: corners 2 and 17 lead from 1 to 0, and corners 3 and 6 back. The first is paired with the first, though 2 is of P and 3 is
-- not: normals would pair 2 with 6, and 17 with 3
pub mixed_pairing : pairing_of (0 ∷ 2 ∷ 1 ∷ 0 ∷ 1 ∷ 5 ∷ 0 ∷ 1 ∷ 3 ∷ 0 ∷ 3 ∷ 2 ∷ 1 ∷ 2 ∷ 3 ∷ 0 ∷ 4 ∷ 1 ∷ 0 ∷ 5 ∷ 4 ∷ 1 ∷ 4 ∷ 5 ∷ [])
    ≡ 11 ∷ 12 ∷ 3 ∷ 2 ∷ 23 ∷ 18 ∷ 17 ∷ 14 ∷ 9 ∷ 8 ∷ 13 ∷ 0 ∷ 1 ∷ 10 ∷ 7 ∷ 20 ∷ 21 ∷ 6 ∷ 5 ∷ 22 ∷ 15 ∷ 16 ∷ 19 ∷ 4 ∷ []
unfolding pairing_of partner_of tabulate least partners reverse uses count stands_for
mixed_pairing = refl

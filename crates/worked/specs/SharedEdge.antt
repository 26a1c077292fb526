-- Two cubes that touch along an edge (WORKED-22, WORKED-23), and an edge used twice one way and once the other (WORKED-24).
use Rattle.std.specs.Prelude.{◌≡◌, refl, ℕ, ℤ, pos}
use Rattle.std.proofs.Common.{ap, ◌∙◌}
use mathlib.Core.List.{List, [], ◌∷◌, flatten}
use Rattle.laws.specs.Count.{count}
use Rattle.laws.specs.Least.{least, some}
use Rattle.laws.specs.Tables.{tabulate, overwrite}
use Rattle.mesh.specs.Meshes.{Mesh, mesh, OrderedMesh, ordered}
use Rattle.mesh.specs.Operation.{test, ◌then◌, verdict, after}
use Rattle.mesh.specs.Order.{before, place, order_up_to, order_of}
use Rattle.mesh.specs.Tests.{sizes_fit, out_of_range, names_none, names_twice, reverse, paired_at}
use Rattle.check_pairing.specs.Partners.{stands_for, uses, partners, open_at, partner_of, pairing_of}
use Rattle.check_mesh.specs.Check.{check_room_for}
use Rattle.section.specs.Section.{below, rising, rising_in, successor}
use Rattle.section.specs.Contours.{member, walk, trace_at, trace_to, trace, ends_from}
use Rattle.cut_points.specs.Points.{numerator, denominator, rounded, exact_over, exact_under, point_at, numbers_of}
use Rattle.cut.specs.Cut.{cut_room_for, met_at}
use Rattle.worked.specs.Pieces.{refused, paired, LayerResult, layer, with_tables, checked_as, cut_as}

-- vertices 0 to 7 are the first cube's, 2, 6 and 8 to 13 the second's: bottom 2, 8, 9, 10, top 6, 11, 12, 13
abbrev coords : List ℤ
coords =
    pos 0 ∷ pos 0 ∷ pos 0 ∷ pos 10 ∷ pos 0 ∷ pos 0 ∷ pos 10 ∷ pos 10 ∷ pos 0 ∷ pos 0 ∷ pos 10 ∷ pos 0
    ∷ pos 0 ∷ pos 0 ∷ pos 10 ∷ pos 10 ∷ pos 0 ∷ pos 10 ∷ pos 10 ∷ pos 10 ∷ pos 10 ∷ pos 0 ∷ pos 10 ∷ pos 10
    ∷ pos 20 ∷ pos 10 ∷ pos 0 ∷ pos 20 ∷ pos 20 ∷ pos 0 ∷ pos 10 ∷ pos 20 ∷ pos 0
    ∷ pos 20 ∷ pos 10 ∷ pos 10 ∷ pos 20 ∷ pos 20 ∷ pos 10 ∷ pos 10 ∷ pos 20 ∷ pos 10 ∷ []

abbrev corners : List ℕ
corners =
    0 ∷ 2 ∷ 1 ∷ 0 ∷ 3 ∷ 2 ∷ 4 ∷ 5 ∷ 6 ∷ 4 ∷ 6 ∷ 7 ∷ 0 ∷ 1 ∷ 5 ∷ 0 ∷ 5 ∷ 4 ∷ 1 ∷ 2 ∷ 6 ∷ 1 ∷ 6 ∷ 5 ∷ 2 ∷ 3 ∷ 7 ∷ 2 ∷ 7 ∷ 6 ∷ 3 ∷ 0 ∷ 4 ∷ 3 ∷ 4 ∷ 7
    ∷ 2 ∷ 9 ∷ 8 ∷ 2 ∷ 10 ∷ 9 ∷ 6 ∷ 11 ∷ 12 ∷ 6 ∷ 12 ∷ 13 ∷ 2 ∷ 8 ∷ 11 ∷ 2 ∷ 11 ∷ 6 ∷ 8 ∷ 9 ∷ 12 ∷ 8 ∷ 12 ∷ 11
    ∷ 9 ∷ 10 ∷ 13 ∷ 9 ∷ 13 ∷ 12 ∷ 10 ∷ 2 ∷ 6 ∷ 10 ∷ 6 ∷ 13 ∷ []

abbrev pub cubes : Mesh
cubes = mesh coords corners

-- corners 19 and 67 lead up the common edge, from vertex 2 to vertex 6, and corners 29 and 53 down: 19 is paired with 29, and 67 with 53
abbrev pub cubes_pairing : List ℕ
cubes_pairing =
    5 ∷ 18 ∷ 12 ∷ 30 ∷ 24 ∷ 0 ∷ 16 ∷ 22 ∷ 9 ∷ 8 ∷ 28 ∷ 34 ∷ 2 ∷ 23 ∷ 15 ∷ 14 ∷ 6 ∷ 31 ∷ 1 ∷ 29 ∷ 21 ∷ 20 ∷ 7 ∷ 13 ∷ 4 ∷ 35 ∷ 27 ∷ 26 ∷ 10 ∷ 19
    ∷ 3 ∷ 17 ∷ 33 ∷ 32 ∷ 11 ∷ 25 ∷ 41 ∷ 54 ∷ 48 ∷ 66 ∷ 60 ∷ 36 ∷ 52 ∷ 58 ∷ 45 ∷ 44 ∷ 64 ∷ 70 ∷ 38 ∷ 59 ∷ 51 ∷ 50 ∷ 42 ∷ 67 ∷ 37 ∷ 65 ∷ 57 ∷ 56
    ∷ 43 ∷ 49 ∷ 40 ∷ 71 ∷ 63 ∷ 62 ∷ 46 ∷ 55 ∷ 39 ∷ 53 ∷ 69 ∷ 68 ∷ 47 ∷ 61 ∷ []

-- their layer at 5: a square for each, which meet in the point (10,10)
abbrev pub cubes_at_five : LayerResult
cubes_at_five = record {
  count = 2;
  total = 16;
  names = 13 ∷ 21 ∷ 19 ∷ 27 ∷ 25 ∷ 33 ∷ 31 ∷ 15 ∷ 49 ∷ 57 ∷ 55 ∷ 63 ∷ 61 ∷ 69 ∷ 67 ∷ 51 ∷ [];
  points =
      pos 10 ∷ pos 0 ∷ pos 10 ∷ pos 5 ∷ pos 10 ∷ pos 10 ∷ pos 5 ∷ pos 10 ∷ pos 0 ∷ pos 10 ∷ pos 0 ∷ pos 5 ∷ pos 0 ∷ pos 0 ∷ pos 5 ∷ pos 0
      ∷ pos 20 ∷ pos 10 ∷ pos 20 ∷ pos 15 ∷ pos 20 ∷ pos 20 ∷ pos 15 ∷ pos 20 ∷ pos 10 ∷ pos 20 ∷ pos 10 ∷ pos 15 ∷ pos 10 ∷ pos 10 ∷ pos 15 ∷ pos 10 ∷ [];
  ends = 8 ∷ 16 ∷ [];
}

-- part P with one triangle more on its edge between vertices 0 and 1, which leads from 1 to 0 a second time
abbrev pub uneven : Mesh
uneven =
    mesh (pos 0 ∷ pos 0 ∷ pos 0 ∷ pos 10 ∷ pos 0 ∷ pos 0 ∷ pos 0 ∷ pos 10 ∷ pos 0 ∷ pos 0 ∷ pos 0 ∷ pos 10 ∷ pos 10 ∷ pos 10 ∷ pos 10 ∷ [])
    (0 ∷ 2 ∷ 1 ∷ 0 ∷ 1 ∷ 3 ∷ 0 ∷ 3 ∷ 2 ∷ 1 ∷ 2 ∷ 3 ∷ 1 ∷ 0 ∷ 4 ∷ [])

-- ---- by computation

pub cubes_accepted : checked_as cubes ≡ paired cubes_pairing
unfolding checked_as verdict ◌then◌ test some least after overwrite tabulate sizes_fit check_room_for out_of_range names_none names_twice open_at partners
    reverse
    uses count stands_for pairing_of partner_of
cubes_accepted = refl

pub uneven_refused : checked_as uneven ≡ refused 6 12
unfolding checked_as verdict ◌then◌ test some least sizes_fit check_room_for out_of_range names_none names_twice open_at partners reverse uses count stands_for
uneven_refused = refl

abbrev ready : OrderedMesh
ready = ordered coords corners cubes_pairing (0 ∷ 1 ∷ 2 ∷ 3 ∷ 8 ∷ 9 ∷ 10 ∷ 4 ∷ 5 ∷ 6 ∷ 7 ∷ 11 ∷ 12 ∷ 13 ∷ [])

tables : with_tables cubes ≡ ready
unfolding with_tables verdict ◌then◌ test some least after overwrite tabulate sizes_fit check_room_for out_of_range names_none names_twice open_at partners
    reverse
    uses count stands_for pairing_of partner_of order_of order_up_to place before
tables = refl

cut_ready : cut_as ready (pos 5) ≡ layer cubes_at_five
unfolding cut_as verdict ◌then◌ test some least after overwrite sizes_fit cut_room_for out_of_range names_none names_twice reverse paired_at met_at
    trace trace_to trace_at flatten walk member rising rising_in successor below ends_from numbers_of point_at exact_over exact_under numerator denominator
    rounded
cut_ready = refl

pub cubes_cut : cut_as (with_tables cubes) (pos 5) ≡ layer cubes_at_five
cubes_cut = ap (λ (m : OrderedMesh). cut_as m (pos 5)) tables ∙ cut_ready

-- A worked run on part P, by computation from the definitions: a
-- start, two refused calls among steps and rises, up to the top.
use Rattle.std.specs.Prelude.{ℕ, ◌≡◌, refl, true, false, get_or, replicate, ℤ, pos, Some, None, Ok, Err}
use Rattle.std.proofs.Common.{subst, inr, arith}
use mathlib.Core.List.{List, [], ◌∷◌, flatten}
use Rattle.laws.specs.Count.{count}
use Rattle.laws.specs.Least.{least, some}
use Rattle.laws.specs.Tables.{tabulate, overwrite}
use Rattle.mesh.specs.Order.{before, place, order_up_to, order_of}
use Rattle.mesh.specs.Meshes.{OrderedMesh, ordered}
use Rattle.mesh.specs.Operation.{test, ◌then◌, verdict, after}
use Rattle.mesh.specs.Tests.{sizes_fit, out_of_range, names_none, names_twice, reverse, paired_at, ordered_at}
use Rattle.mesh.specs.declared.Refusal.TheVariants.{Pairing, Height}
use Rattle.section.specs.Section.{below, rising, rising_in, successor, no_corner, ring_entry}
use Rattle.section.specs.Rings.{Ring}
use Rattle.section.specs.Contours.{member, walk, trace_at, trace_to, ends_from}
use Rattle.section.specs.Links.{has_link, trace_links}
use Rattle.cut_points.specs.Points.{numerator, denominator, rounded, exact_over, exact_under, point_at, numbers_of}
use Rattle.cut.specs.Cut.{CutTables, lent, cut_room_for, met_at}
use Rattle.sweep.specs.Sweep.{Sweep, sweep, passed_at, fresh_ring, touches, relinked, step_ring, may_rise, risen_to, risen_ring, count_below}
use Rattle.sweep.specs.Operations.{at, unless_refused, linked_at, passed_high, Starts, Steps, Rises}
use Rattle.demand_three.specs.Claim.{Call, step, rise, refused, given, passed_after, ring_after, Run, done, skipped, taken, up, to, move_of, moved}
use Rattle.demand_three.specs.Claim.{plane_after, fed, Swept}
use Rattle.demand_three.specs.ClaimLaws.{sweep_claim}
use Rattle.demand_three.specs.RunLaws.{risen_at}

-- ---- part P, its pairing and its order

abbrev coords : List ℤ
coords = pos 0 ∷ pos 0 ∷ pos 0 ∷ pos 10 ∷ pos 0 ∷ pos 0 ∷ pos 0 ∷ pos 10 ∷ pos 0 ∷ pos 0 ∷ pos 0 ∷ pos 10 ∷ []

abbrev corners : List ℕ
corners = 0 ∷ 2 ∷ 1 ∷ 0 ∷ 1 ∷ 3 ∷ 0 ∷ 3 ∷ 2 ∷ 1 ∷ 2 ∷ 3 ∷ []

abbrev pairing : List ℕ
pairing = 8 ∷ 9 ∷ 3 ∷ 2 ∷ 11 ∷ 6 ∷ 5 ∷ 10 ∷ 0 ∷ 1 ∷ 7 ∷ 4 ∷ []

abbrev order : List ℕ
order = 0 ∷ 1 ∷ 2 ∷ 3 ∷ []

abbrev p : OrderedMesh
p = ordered coords corners pairing order

-- ---- the tables

-- a lent ring table, and the ring tables with none, one and three passed
abbrev ring : List ℕ
ring = replicate 12 0

abbrev ring0 : List ℕ
ring0 = replicate 12 no_corner

-- one vertex passed: ring 0, 6, 3
abbrev ring1 : List ℕ
ring1 = 6 ∷ no_corner ∷ no_corner ∷ 0 ∷ no_corner ∷ no_corner ∷ 3 ∷ no_corner ∷ no_corner ∷ no_corner ∷ no_corner ∷ no_corner ∷ []

-- three passed: ring 4, 10, 6
abbrev ring3 : List ℕ
ring3 = no_corner ∷ no_corner ∷ no_corner ∷ no_corner ∷ 10 ∷ no_corner ∷ 4 ∷ no_corner ∷ no_corner ∷ no_corner ∷ 6 ∷ no_corner ∷ []

-- ---- the calls

started : Starts p.paired.mesh ring (Ok (at 0)) ring0
unfolding verdict ◌then◌ test some least sizes_fit unless_refused fresh_ring tabulate overwrite
started = record { answers = refl; leaves = refl }

-- a step with no pairing: refusal 7 at corner 0
abbrev unpaired : Sweep
unpaired = sweep (ordered coords corners [] order) ring0 0

wrong : Steps unpaired (Err (Pairing 0)) ring0
unfolding verdict ◌then◌ test some least sizes_fit out_of_range names_none names_twice reverse paired_at unless_refused
wrong = record { answers = refl; leaves = refl }

-- the first vertex
first : Steps (sweep p ring0 0) (Ok (Some (at 1))) ring1
unfolding verdict ◌then◌ test some least sizes_fit out_of_range names_none names_twice reverse paired_at ordered_at order_of order_up_to place before
    unless_refused
    step_ring relinked touches passed_at member ring_entry rising rising_in successor tabulate overwrite
first = record { answers = refl; leaves = refl }

-- the rise to 5 passes two more. In the lent tables: names 4, 10, 6 and points (5,0), (0,5), (0,0); unused entries stay
abbrev tables : CutTables
tables = lent (replicate 12 7) (replicate 24 (pos 7)) (replicate 12 7) (replicate 12 7)

abbrev layer5 : CutTables
layer5 = lent (4 ∷ 10 ∷ 6 ∷ replicate 9 7) (pos 5 ∷ pos 0 ∷ pos 0 ∷ pos 5 ∷ pos 0 ∷ pos 0 ∷ replicate 18 (pos 7)) (3 ∷ replicate 11 7) (replicate 12 0)

risen : Rises (sweep p ring1 1) (pos 5) tables (Ok (risen_at 3 1 3)) ring3 layer5
unfolding verdict ◌then◌ test some least sizes_fit cut_room_for out_of_range names_none names_twice reverse paired_at ordered_at order_of order_up_to place
    before linked_at
    passed_high met_at unless_refused after may_rise risen_to risen_ring step_ring relinked touches passed_at member ring_entry rising rising_in successor below
    tabulate overwrite trace_links trace_to trace_at flatten walk has_link ends_from numbers_of point_at exact_over exact_under numerator denominator rounded
risen = record { answers = refl; leaves = refl }

-- no rise goes down: at height 0 refusal 12, place 0
low : Rises (sweep p ring3 3) (pos 0) tables (Err (Height 0)) ring3 tables
unfolding verdict ◌then◌ test some least sizes_fit cut_room_for out_of_range names_none names_twice reverse paired_at ordered_at order_of order_up_to place
    before linked_at
    passed_high unless_refused after passed_at member ring_entry rising rising_in successor below
low = record { answers = refl; leaves = refl }

-- the last vertex
last : Steps (sweep p ring3 3) (Ok (Some (at 4))) ring0
unfolding verdict ◌then◌ test some least sizes_fit out_of_range names_none names_twice reverse paired_at ordered_at order_of order_up_to place before
    unless_refused
    step_ring relinked touches passed_at member ring_entry rising rising_in successor tabulate overwrite
last = record { answers = refl; leaves = refl }

-- the top
at_top : Steps (sweep p ring0 4) (Ok None) ring0
unfolding verdict ◌then◌ test some least sizes_fit out_of_range names_none names_twice reverse paired_at ordered_at order_of order_up_to place before
    unless_refused
at_top = record { answers = refl; leaves = refl }

-- ---- the list

-- its beginning, where three are passed and the ring 4, 10, 6 is crossed
abbrev begun : List Call
begun =
    step unpaired (Err (Pairing 0)) ring0 wrong
    ∷ step (sweep p ring0 0) (Ok (Some (at 1))) ring1 first
    ∷ rise (sweep p ring1 1) (pos 5) tables (Ok (risen_at 3 1 3)) ring3 layer5 risen
    ∷ []

abbrev calls : List Call
calls =
    step unpaired (Err (Pairing 0)) ring0 wrong
    ∷ step (sweep p ring0 0) (Ok (Some (at 1))) ring1 first
    ∷ rise (sweep p ring1 1) (pos 5) tables (Ok (risen_at 3 1 3)) ring3 layer5 risen
    ∷ rise (sweep p ring3 3) (pos 0) tables (Err (Height 0)) ring3 tables low
    ∷ step (sweep p ring3 3) (Ok (Some (at 4))) ring0 last
    ∷ step (sweep p ring0 4) (Ok None) ring0 at_top
    ∷ []

-- the plain sweep is fed this
fed_is : fed calls ≡ (up, true) ∷ (up, false) ∷ (to (pos 5), false) ∷ (to (pos 0), true) ∷ (up, false) ∷ (up, false) ∷ []
unfolding fed move_of refused
fed_is = refl

-- and ends at 4
plane_is : plane_after coords 0 (fed calls) ≡ 4
unfolding plane_after fed move_of refused moved count_below count below
plane_is = refl

-- it is a run
run : Run p 0 ring0 calls 4 ring0
unfolding refused given passed_after ring_after
run = skipped refl (taken refl refl (taken refl refl (skipped refl (taken refl refl (taken refl refl done)))))

-- so the claim holds of it
swept : Swept p calls 4 4 ring0
swept = subst (λ (n : ℕ). Swept p calls n 4 ring0) plane_is (sweep_claim p ring (Ok (at 0)) 0 ring0 started refl calls 4 ring0 run)

-- and of its beginning
run_begun : Run p 0 ring0 begun 3 ring3
unfolding refused given passed_after ring_after
run_begun = skipped refl (taken refl refl (taken refl refl done))

plane_begun : plane_after coords 0 (fed begun) ≡ 3
unfolding plane_after fed move_of refused moved count_below count below
plane_begun = refl

swept_begun : Swept p begun 3 3 ring3
swept_begun = subst (λ (n : ℕ). Swept p begun n 3 ring3) plane_begun (sweep_claim p ring (Ok (at 0)) 0 ring0 started refl begun 3 ring3 run_begun)

-- the edge of corners 4 and 11 lies on that ring
on_ring : Ring (λ k. get_or ring3 k 0) 12 4
unfolding rising passed_at member
on_ring = swept_begun.rings 11 4 (omega arith) (inr refl) refl

-- where every call is refused the claim asks nothing of pairing and order
swept_refused : (pairs order : List ℕ) → Swept (ordered coords corners pairs order) (step unpaired (Err (Pairing 0)) ring0 wrong ∷ []) 0 0 ring0
unfolding plane_after fed refused
swept_refused pairs order =
    sweep_claim (ordered coords corners pairs order) ring (Ok (at 0)) 0 ring0 started refl (step unpaired (Err (Pairing 0)) ring0 wrong ∷ []) 0 ring0
    (skipped refl done)

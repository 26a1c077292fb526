-- `unchecked_contours::successor` meets its contract.
use Prim.Native.Nat.{ℕ, ◌<◌}
use mathlib.Core.Path.{◌≡◌, refl, sym, ap, ◌∙◌}
use native.Mathlib.Omega.{arith}
use lib.ListN.{length, get_or}
use lib.IntN.{ℤ}
use mir.Syntax.{w32}
use mir.ValLaws.{to_z-of_z}
use Rattle.mesh.specs.Corners.{next_corner}
use Rattle.mesh.specs.Meshes.{paired}
use Rattle.section.specs.Section.{below}
use Rattle.all_contours.proofs.ContourWalking.{Across, pair_below, third_below, third_vertex, third_passed, third_above}
use Rattle.all_contours.proofs.unchecked_contours.successor.Goals as goal
use Rattle.all_contours.proofs.unchecked_contours.successor.Goals.{After-is_below, After-previous_corner-f}

-- the corners that were read, and the vertex of the third
across : (c : After-previous_corner-f) {v : ℕ} → v ≡ get_or c.args.corners.now c.previous_corner-f.result 0
    → Across (paired c.args.coords.now c.args.corners.now c.args.pairing.now) c.args.c (get_or c.args.pairing.now c.args.c 0) c.next_corner-e.result
    c.previous_corner-f.result v
across c e =
    record {
      pair = refl;
      next = c.next_corner-e.ensures.value;
      third = c.previous_corner-f.ensures.value ∙ ap next_corner (sym c.next_corner-e.ensures.value);
      vertex = e;
    }

-- the third corner is one
below_all : (c : After-previous_corner-f) → c.previous_corner-f.result < length c.args.corners.now
below_all c = third_below c.requires.fact_1 c.args.h c.requires.fact_2 (across c refl)

-- what the code has found of its vertex
found : (c : After-is_below) → below c.args.coords.now c.args.h (get_or c.args.corners.now c.previous_corner-f.result 0) ≡ c.is_below.result
found c =
    ap (λ (z : ℤ). below c.args.coords.now z (get_or c.args.corners.now c.previous_corner-f.result 0)) (sym (to_z-of_z w32 c.args.h c.ranges.h))
    ∙ sym c.is_below.ensures.value

pub bounds-pairing-c : goal.bounds-pairing-c
bounds-pairing-c c = (c.requires.fact_1.linked.each c.args.c c.requires.fact_2.below).there

pub next_corner-e-requires : goal.next_corner-e-requires
next_corner-e-requires c =
    omega (arith, pair_below c.requires.fact_1 c.args.h c.requires.fact_2 refl, c.requires.fact_1.named.whole.few)

pub previous_corner-f-requires : goal.previous_corner-f-requires
previous_corner-f-requires c =
    omega (arith, pair_below c.requires.fact_1 c.args.h c.requires.fact_2 refl, c.requires.fact_1.named.whole.few)

pub offset_bounds-corners-f : goal.offset_bounds-corners-f
offset_bounds-corners-f c = omega (arith, below_all c, c.requires.fact_1.named.whole.few)

pub bounds-corners-f : goal.bounds-corners-f
bounds-corners-f c = below_all (goal.at.bounds-corners-f c).After-previous_corner-f

pub is_below-requires : goal.is_below-requires
is_below-requires c =
    let here = (goal.at.is_below-requires c).After-previous_corner-f in
    third_vertex c.requires.fact_1 c.args.h c.requires.fact_2 (across here refl)

pub returns-then-is_below : goal.returns-then-is_below
returns-then-is_below c =
    let at = goal.at.returns-then-is_below c in record {
      value = third_passed c.requires.fact_1 c.args.h c.requires.fact_2 (across at.After-previous_corner-f refl)
          (found at.After-is_below ∙ c.if-is_below.true);
    }

pub returns-else-is_below : goal.returns-else-is_below
returns-else-is_below c =
    let at = goal.at.returns-else-is_below c in record {
      value = third_above c.requires.fact_1 c.args.h c.requires.fact_2 (across at.After-previous_corner-f refl)
          (found at.After-is_below ∙ c.if-is_below.false);
    }

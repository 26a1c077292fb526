-- The solid lies left of every crossing of a right mesh (SECTION-9, RESULT-2).
use Rattle.std.specs.Prelude.{ℕ, zero, suc, ◌+◌, ◌*◌, ◌/◌, ◌%◌, ◌≡◌, refl, List, ℤ, pos, neg_ℤ, ◌-ℤ◌, ◌*ℤ◌, ◌≤ℤ◌, ◌<ℤ◌}
use Rattle.std.proofs.Common.{sym, ap, ◌∙◌, subst, ⊎_elim, arith}
use Rattle.laws.specs.Booleans.{clash}
use Rattle.laws.specs.Integers.{diff, le_in, lt_in, le_out}
use Rattle.mesh.specs.Corners.{triangle_of, next_corner, start_of, end_of, coord_of, z_of}
use Rattle.mesh.specs.Meshes.{PairedMesh}
use Rattle.mesh.specs.Tests.{pair_of}
use Rattle.section.specs.Section.{below, successor, Crossing, Right}
use Rattle.section.proofs.SectionLaws.{next_thrice, same_triangle, rising_parts, falling_parts, turned, pair_falls, successor_triangle, successor_crosses}
use Rattle.cut_points.specs.Points.{numerator, denominator, exact_under}
use Rattle.cut_points.specs.Climbs.{Climbs}
use Rattle.cut_points.specs.PointLaws.{climbs_by, over_of, under_of, under_positive}
use Rattle.cut_points.specs.NormalLaws.{way_below_x, way_below_y, way_above_x, way_above_y, normal_x_turned, normal_y_turned}
use Rattle.cut.specs.Solid.{way, cross_x, cross_y, normal_xOf, normal_yOf, SolidLeft}

-- what does not change when three corners are turned is the same from each corner of a triangle
same_round : (f : ℕ → ℕ → ℕ → ℤ) → ((i j k : ℕ) → f j k i ≡ f i j k) → (d : ℕ)
    → f d (next_corner d) (next_corner (next_corner d)) ≡ f (3 * triangle_of d) (3 * triangle_of d + 1) (3 * triangle_of d + 2)
same_round f turn d = by (d % 3) refl
  where
    at : {i j k i' j' k' : ℕ} → i ≡ i' → j ≡ j' → k ≡ k' → f i j k ≡ f i' j' k'
    at p q r = λ i. f (p i) (q i) (r i)

    by : (k : ℕ) → d % 3 ≡ k → f d (next_corner d) (next_corner (next_corner d)) ≡ f (3 * (d / 3)) (3 * (d / 3) + 1) (3 * (d / 3) + 2)
    by zero e = at (omega arith) (omega arith) (omega arith)
    by (suc zero) e = at (omega arith) (omega arith) (omega arith) ∙ turn (3 * (d / 3)) (3 * (d / 3) + 1) (3 * (d / 3) + 2)
    by (suc (suc k)) e =
        at (omega arith) (omega arith) (omega arith) ∙ turn (3 * (d / 3) + 1) (3 * (d / 3) + 2) (3 * (d / 3))
        ∙ turn (3 * (d / 3)) (3 * (d / 3) + 1) (3 * (d / 3) + 2)

module _ (m : PairedMesh) where
  abbrev coords : List ℤ
  coords = m.mesh.coords

  abbrev corners : List ℕ
  corners = m.mesh.corners

  abbrev pairing : List ℕ
  pairing = m.pairing

  turn_x : (i j k : ℕ) → cross_x coords (start_of corners j) (start_of corners k) (start_of corners i)
      ≡ cross_x coords (start_of corners i) (start_of corners j) (start_of corners k)
  turn_x i j k = normal_x_turned _ _ _ _ _ _

  turn_y : (i j k : ℕ) → cross_y coords (start_of corners j) (start_of corners k) (start_of corners i)
      ≡ cross_y coords (start_of corners i) (start_of corners j) (start_of corners k)
  turn_y i j k = normal_y_turned _ _ _ _ _ _

  -- the normal of a triangle, from corner d on
  normal_x_lem : (d : ℕ) → cross_x coords (start_of corners d) (end_of corners d) (end_of corners (next_corner d)) ≡ normal_xOf m.mesh (triangle_of d)
  unfolding normal_xOf
  normal_x_lem d = same_round (λ i j k. cross_x coords (start_of corners i) (start_of corners j) (start_of corners k)) turn_x d

  normal_y_lem : (d : ℕ) → cross_y coords (start_of corners d) (end_of corners d) (end_of corners (next_corner d)) ≡ normal_yOf m.mesh (triangle_of d)
  unfolding normal_yOf
  normal_y_lem d = same_round (λ i j k. cross_y coords (start_of corners i) (start_of corners j) (start_of corners k)) turn_y d

  module _ (h : ℤ) where
    -- the way by the vertices of both edges
    way_of : (c s a b u v : ℕ) → start_of corners c ≡ a → end_of corners c ≡ b → start_of corners s ≡ u → end_of corners s ≡ v → (axis : ℕ)
        → way m.mesh h axis c s
        ≡ numerator (coord_of coords axis u) (coord_of coords axis v) (z_of coords u) (z_of coords v) h *ℤ denominator (z_of coords a) (z_of coords b)
        -ℤ numerator (coord_of coords axis a) (coord_of coords axis b) (z_of coords a) (z_of coords b) h *ℤ denominator (z_of coords u) (z_of coords v)
    unfolding way
    way_of c s a b u v ea eb eu ev axis =
        λ i. over_of m.mesh h s u v eu ev axis i *ℤ under_of m.mesh h c a b ea eb i -ℤ over_of m.mesh h c a b ea eb axis i *ℤ under_of m.mesh h s u
        v eu ev i

    module _ (right : Right m) (c : ℕ) (crossing : Crossing (below coords h) corners c) where
      -- the edge of a crossing goes up through h
      pub crossing_climbs : Climbs m.mesh h c
      unfolding below
      crossing_climbs =
          let p = rising_parts (below coords h) corners c crossing.upward in
          climbs_by m.mesh right.named.whole right.inside right.named.vertices h c crossing.below p.0 p.1

      -- so its denominator is above zero
      pub crossing_under : pos 0 <ℤ exact_under m.mesh c
      crossing_under = under_positive m.mesh h c crossing_climbs

      -- d has the reverse edge, and s rises in the triangle of d
      abbrev d : ℕ
      d = pair_of pairing c

      abbrev s : ℕ
      s = successor (below coords h) corners pairing c

      reversed : (start_of corners d ≡ end_of corners c) × (end_of corners d ≡ start_of corners c)
      reversed = turned (below coords h) corners pairing right.linked c crossing.below

      not_pair : s ≡ d → ⊥
      not_pair e =
          clash (rising_parts (below coords h) corners s (successor_crosses (below coords h) corners pairing right.linked c crossing).upward).0
          (ap (λ (k : ℕ). below coords h (start_of corners k)) e ∙ (falling_parts (below coords h) corners d
          (pair_falls (below coords h) corners pairing right.linked c crossing)).1)

      -- the end of d is below h, its start and the third vertex are not
      to_next : s ≡ next_corner d → SolidLeft m h c
      to_next e =
          let a = end_of corners d in
          let l : z_of coords a <ℤ h = subst (λ (v : ℕ). z_of coords v <ℤ h) (sym reversed.1) (crossing_climbs.edge 0 (omega arith)).below in
          let w = way_of c s a (start_of corners d) a (end_of corners (next_corner d)) (sym reversed.1) (sym reversed.0) (ap (start_of corners) e)
          (ap (end_of corners) e) in
          record {
            factor = h -ℤ z_of coords a;
            not_below = le_out (omega (arith, lt_in l, diff h (z_of coords a)));
            along_x = w 0 ∙ way_below_x _ _ _ _ _ _ h
                ∙ ap (λ (n : ℤ). (h -ℤ z_of coords a) *ℤ neg_ℤ n) (turn_y d (next_corner d) (next_corner (next_corner d)) ∙ normal_y_lem d);
            along_y = w 1 ∙ way_below_y _ _ _ _ _ _ h
                ∙ ap (λ (n : ℤ). (h -ℤ z_of coords a) *ℤ n) (turn_x d (next_corner d) (next_corner (next_corner d)) ∙ normal_x_lem d);
          }

      -- the start of d is not below h, its end and the third vertex are
      to_last : s ≡ next_corner (next_corner d) → SolidLeft m h c
      to_last e =
          let a = start_of corners d in
          let l : h ≤ℤ z_of coords a = subst (λ (v : ℕ). h ≤ℤ z_of coords v) (sym reversed.0) (crossing_climbs.edge 0 (omega arith)).upto in
          let w = way_of c s (end_of corners d) a (end_of corners (next_corner d)) a (sym reversed.1) (sym reversed.0) (ap (start_of corners) e)
          (ap (end_of corners) e ∙ ap (start_of corners) (next_thrice d)) in
          record {
            factor = z_of coords a -ℤ h;
            not_below = le_out (omega (arith, le_in l, diff (z_of coords a) h));
            along_x = w 0 ∙ way_above_x _ _ _ _ _ _ h ∙ ap (λ (n : ℤ). (z_of coords a -ℤ h) *ℤ neg_ℤ n) (normal_y_lem d);
            along_y = w 1 ∙ way_above_y _ _ _ _ _ _ h ∙ ap (λ (n : ℤ). (z_of coords a -ℤ h) *ℤ n) (normal_x_lem d);
          }

      left : SolidLeft m h c
      left =
          ⊎_elim (λ e. absurd (not_pair e)) (⊎_elim to_next to_last)
          (same_triangle d s (sym (successor_triangle (below coords h) corners pairing right.linked c crossing)))

-- the solid lies left of the way from every crossing to its successor
pub solid_left : (m : PairedMesh) (h : ℤ) (c : ℕ) → Right m → Crossing (below m.mesh.coords h) m.mesh.corners c → SolidLeft m h c
solid_left m h c right crossing = left m h right c crossing

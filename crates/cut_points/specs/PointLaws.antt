-- Laws of points: the exact crossing of an edge; the points of a list of names. What rests on how a value is rounded stands in proofs/RoundedLaws.antt.
use Rattle.std.specs.Prelude.{ℕ, zero, suc, ◌+◌, ◌*◌, ◌<◌, ◌≤◌, ◌≡◌, List, [], ◌∷◌, ◌++◌, map, Bool, true, false, not, T, length, get_or, ℤ, pos, ◌+ℤ◌, ◌-ℤ◌}
use Rattle.std.specs.Prelude.{◌*ℤ◌, ◌≤ℤ◌, ◌<ℤ◌}
use Rattle.std.proofs.Common.{sym, ◌∙◌, subst}
use Rattle.std.proofs.Math.Path.{ap}
use Rattle.std.proofs.lemmas.List.{map-append, length-map}
use Rattle.std.proofs.Math.Nat.{mul-le-mul_right}
use native.Mathlib.Omega.{arith}
use Rattle.std.proofs.Math.IntN.{nat_abs}
use Rattle.std.specs.Int.Signed.{lt_z, lt_z_yes, lt_z_no}
use Rattle.laws.specs.Integers.{one_zero, abs_is, abs_add, abs_sub, abs_mul, diff, le_in, lt_in, le_out, lt_out}
use Rattle.laws.specs.Ring.{x, ◌⊕◌, ◌⊖◌, ◌⊗◌, ring}
use Rattle.mesh.specs.Corners.{largest, vertex_count, next_corner, start_of, end_of, coord_of, z_of}
use Rattle.mesh.specs.Meshes.{Mesh}
use Rattle.mesh.specs.Tests.{WholeTriangles}
use Rattle.mesh.specs.TestLaws.{next_below}
use Rattle.polygons.specs.Flat.{Point, no_point}
use Rattle.polygons.proofs.FlatLaws.{length_numbers, numbers_append, number_x, number_y, map_at}
use Rattle.cut_points.specs.Points.{numerator, denominator, exact_over, exact_under, point_at, point_of, numbers_of, points_of}
use Rattle.cut_points.specs.Climbs.{Fraction, CrossedEdge, Climbs}

-- ---- the exact crossing

module _ (u0 u1 z0 z1 h : ℤ) where
  parts : numerator u0 u1 z0 z1 h ≡ u0 *ℤ (z1 -ℤ h) +ℤ u1 *ℤ (h -ℤ z0)
  unfolding numerator
  parts = ring (u0 ∷ u1 ∷ z0 ∷ z1 ∷ h ∷ []) (x 0 ⊗ (x 3 ⊖ x 2) ⊕ (x 1 ⊖ x 0) ⊗ (x 4 ⊖ x 2)) (x 0 ⊗ (x 3 ⊖ x 4) ⊕ x 1 ⊗ (x 4 ⊖ x 2)) tt

  -- in every range from −k to k that both ends are in
  pub numerator_in : (k : ℕ) → nat_abs u0 ≤ k → nat_abs u1 ≤ k → z0 ≤ℤ h → h ≤ℤ z1 → nat_abs (numerator u0 u1 z0 z1 h) ≤ k * nat_abs (denominator z0 z1)
  unfolding denominator
  numerator_in k a b l m =
      let p = u0 *ℤ (z1 -ℤ h) in
      let q = u1 *ℤ (h -ℤ z0) in
      let s : nat_abs (z1 -ℤ z0) ≡ nat_abs (z1 -ℤ h) + nat_abs (h -ℤ z0) =
      omega (
        arith,
        le_in l,
        le_in m,
        diff z1 z0,
        diff z1 h,
        diff h z0,
        abs_is (z1 -ℤ z0),
        abs_is (z1 -ℤ h),
        abs_is (h -ℤ z0),
        one_zero (z1 -ℤ z0),
        one_zero
            (z1 -ℤ h),
        one_zero (h -ℤ z0),
      ) in
      omega (
        arith,
        ap nat_abs parts,
        abs_add p q,
        abs_mul u0 (z1 -ℤ h),
        abs_mul u1 (h -ℤ z0),
        mul-le-mul_right (nat_abs (z1 -ℤ h)) a,
        mul-le-mul_right (nat_abs (h -ℤ z0)) b,
        ap (λ (n : ℕ). k * n) s,
      )

-- an edge up through h has a crossing in coordinate range
pub edge_fraction : {u0 u1 z0 z1 h : ℤ} → CrossedEdge u0 u1 z0 z1 h → Fraction (numerator u0 u1 z0 z1 h) (denominator z0 z1)
unfolding denominator
edge_fraction {u0} {u1} {z0} {z1} {h} e =
    let b = lt_in e.below in
    record {
      positive = omega (arith, lt_out, diff z1 z0, b, le_in e.upto);
      small = omega (arith, e.z0_in, e.z1_in, abs_sub z1 z0);
      inside = numerator_in u0 u1 z0 z1 h largest e.u0_in e.u1_in (le_out (omega (arith, b))) e.upto;
    }

-- its height is in coordinate range
pub edge_height : {u0 u1 z0 z1 h : ℤ} → CrossedEdge u0 u1 z0 z1 h → nat_abs h ≤ largest
edge_height {z0 = z0} {z1 = z1} {h = h} e = omega (arith, e.z0_in, e.z1_in, abs_is h, abs_is z0, abs_is z1, one_zero h, lt_in e.below, le_in e.upto)

-- ---- the crossing of a corner

-- what the tests 1, 2 and 3 say of a mesh, and two comparisons
pub climbs_of : (m : Mesh) → WholeTriangles (length m.corners) → ((i : ℕ) → i < length m.coords → nat_abs (get_or m.coords i (pos 0)) ≤ largest)
    → ((c : ℕ) → c < length m.corners → start_of m.corners c < vertex_count m.coords)
    → (h : ℤ) (c : ℕ) → c < length m.corners → z_of m.coords (start_of m.corners c) <ℤ h → h ≤ℤ z_of m.coords (end_of m.corners c) → Climbs m h c
climbs_of m w range vertices h c l below upto =
    let n : next_corner c < length m.corners = next_below (length m.corners) c w.threes l in
    let a : 3 * start_of m.corners c + 2 < length m.coords = omega (arith, vertices c l) in
    let b : 3 * end_of m.corners c + 2 < length m.coords = omega (arith, vertices (next_corner c) n) in
    record {
      few = omega (arith, w.few);
      corner = l;
      next = n;
      start_in = a;
      end_in = b;
      edge = λ axis k.
          record {
            u0_in = range (3 * start_of m.corners c + axis) (omega arith);
            u1_in = range (3 * end_of m.corners c + axis) (omega arith);
            z0_in = range (3 * start_of m.corners c + 2) a;
            z1_in = range (3 * end_of m.corners c + 2) b;
            below = below;
            upto = upto;
          };
    }

-- the same by the tests of the code: the start is below h, and the end is not
pub climbs_by : (m : Mesh) → WholeTriangles (length m.corners) → ((i : ℕ) → i < length m.coords → nat_abs (get_or m.coords i (pos 0)) ≤ largest)
    → ((c : ℕ) → c < length m.corners → start_of m.corners c < vertex_count m.coords)
    → (h : ℤ) (c : ℕ) → c < length m.corners → lt_z (z_of m.coords (start_of m.corners c)) h ≡ true
    → lt_z (z_of m.coords (end_of m.corners c)) h ≡ false → Climbs m h c
climbs_by m w range vertices h c l e f =
    climbs_of m w range vertices h c l (lt_z_yes (subst T (sym e) tt)) (lt_z_no (subst (λ (b : Bool). T (not b)) (sym f) tt))

module _ (m : Mesh) (h : ℤ) where
  -- the exact crossing by the two ends of the edge
  module _ (c a b : ℕ) (ea : start_of m.corners c ≡ a) (eb : end_of m.corners c ≡ b) where
    pub over_of : (axis : ℕ)
        → exact_over m h axis c ≡ numerator (coord_of m.coords axis a) (coord_of m.coords axis b) (z_of m.coords a) (z_of m.coords b) h
    unfolding exact_over
    over_of axis = λ i. numerator (coord_of m.coords axis (ea i)) (coord_of m.coords axis (eb i)) (z_of m.coords (ea i)) (z_of m.coords (eb i)) h

    pub under_of : exact_under m c ≡ denominator (z_of m.coords a) (z_of m.coords b)
    unfolding exact_under
    under_of = λ i. denominator (z_of m.coords (ea i)) (z_of m.coords (eb i))

  module _ (c : ℕ) (t : Climbs m h c) where
    fraction : (axis : ℕ) → axis ≤ 1 → Fraction (exact_over m h axis c) (exact_under m c)
    unfolding exact_over exact_under
    fraction axis k = edge_fraction (t.edge axis k)

    pub under_positive : pos 0 <ℤ exact_under m c
    under_positive = (fraction 0 (omega arith)).positive

  -- ---- the points of a list of names

  pub points_append : (cs ds : List ℕ) → points_of m h (cs ++ ds) ≡ points_of m h cs ++ points_of m h ds
  points_append cs ds = ap numbers_of (map-append (point_of m h) cs ds) ∙ numbers_append (map (point_of m h) cs) (map (point_of m h) ds)

  pub length_points_of : (names : List ℕ) → length (points_of m h names) ≡ 2 * length names
  length_points_of names = length_numbers (map (point_of m h) names) ∙ ap (λ (n : ℕ). 2 * n) (length-map names (point_of m h))

  -- entries 2 i and 2 i + 1 are those of name i
  module _ (names : List ℕ) (i : ℕ) (l : i < length names) where
    pub points_x : get_or (points_of m h names) (2 * i) (pos 0) ≡ point_at m h 0 (get_or names i 0)
    points_x = number_x (map (point_of m h) names) i ∙ ap (λ (p : Point). p.x) (map_at (point_of m h) names i 0 no_point l)

    pub points_y : get_or (points_of m h names) (2 * i + 1) (pos 0) ≡ point_at m h 1 (get_or names i 0)
    points_y = number_y (map (point_of m h) names) i ∙ ap (λ (p : Point). p.y) (map_at (point_of m h) names i 0 no_point l)

    pub points_at_lem : (axis : ℕ) → axis ≤ 1 → get_or (points_of m h names) (2 * i + axis) (pos 0) ≡ point_at m h axis (get_or names i 0)
    points_at_lem zero k = let e : 2 * i + 0 ≡ 2 * i = omega arith in ap (λ (j : ℕ). get_or (points_of m h names) j (pos 0)) e ∙ points_x
    points_at_lem (suc zero) k = points_y
    points_at_lem (suc (suc axis)) k = absurd (omega arith)

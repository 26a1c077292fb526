-- Laws of points that rest on how a value is rounded: a point is within half a unit of the exact crossing (RESULT-3) and in coordinate range; the negated
-- crossing's point.
use Rattle.std.specs.Prelude.{ℕ, zero, suc, ◌+◌, ◌*◌, ◌/◌, ◌%◌, ◌<◌, ◌≤◌, refl, List, [], ◌∷◌, length, get_or, ℤ, pos, negsuc, neg_ℤ, ◌-ℤ◌, ◌*ℤ◌, ◌<ℤ◌, ◌≡◌}
use Rattle.std.proofs.Common.{sym, ◌∙◌, subst, lt_of_mul-lt-mul_right, div-add-mod', mod-lt}
use Rattle.std.proofs.Math.Path.{ap}
use Rattle.std.proofs.Math.Nat.{div-eq_of_lt}
use native.Mathlib.Omega.{arith}
use Rattle.std.proofs.Math.IntN.{neg_ℤ-neg_ℤ, nat_abs}
use Rattle.laws.specs.Integers.{one_zero, abs_is, abs_neg, abs_mul, diff, lt_in}
use Rattle.laws.specs.Ring.{x, ◌⊖◌, ◌⊗◌, ⊝, ring}
use Rattle.mesh.specs.Corners.{largest}
use Rattle.mesh.specs.Meshes.{Mesh}
use Rattle.cut_points.specs.Points.{numerator, denominator, nearest, rounded, exact_over, exact_under, point_at, points_of}
use Rattle.cut_points.specs.Climbs.{CrossedEdge, Climbs}
use Rattle.cut_points.specs.PointLaws.{edge_fraction, under_positive, length_points_of, points_at_lem}

-- ---- rounding

nearest_zero : (d : ℕ) → nearest 0 d ≡ 0
nearest_zero zero = refl
nearest_zero (suc d) = div-eq_of_lt (omega arith)

-- an exact value negated has its point negated (POINT-4)
pub rounded_neg : (n d : ℤ) → rounded (neg_ℤ n) d ≡ neg_ℤ (rounded n d)
unfolding rounded
rounded_neg (pos zero) d = let e = nearest_zero (nat_abs d) in ap pos e ∙ ap (λ (k : ℕ). neg_ℤ (pos k)) (sym e)
rounded_neg (pos (suc n)) d = refl
rounded_neg (negsuc n) d = sym (neg_ℤ-neg_ℤ (pos (nearest (suc n) (nat_abs d))))

-- at most half a unit from n / d
near_size : (n d : ℕ) → 0 < d → 2 * nat_abs (pos (d * nearest n d) -ℤ pos n) ≤ d
near_size n d h =
    let q = nearest n d in
    let e = pos (d * q) -ℤ pos n in
    omega (arith, div-add-mod' (2 * n + d) (2 * d), mod-lt (2 * n + d) {m = 2 * d} (omega arith), abs_is e, one_zero e, diff (pos (d * q)) (pos n))

pub rounded_near : (n d : ℤ) → pos 0 <ℤ d → 2 * nat_abs (d *ℤ rounded n d -ℤ n) ≤ nat_abs d
unfolding rounded
rounded_near (pos n) (pos d) h = near_size n d (omega (arith, lt_in h))
rounded_near (negsuc n) (pos d) h =
    let q = pos (nearest (suc n) d) in
    let e = ring (pos d ∷ q ∷ pos (suc n) ∷ []) (x 0 ⊗ ⊝ (x 1) ⊖ ⊝ (x 2)) (⊝ (x 0 ⊗ x 1 ⊖ x 2)) tt in
    subst (λ (k : ℕ). 2 * k ≤ d) (sym (ap nat_abs e ∙ abs_neg (pos d *ℤ q -ℤ pos (suc n)))) (near_size (suc n) d (omega (arith, lt_in h)))
rounded_near n (negsuc d) h = absurd h.lt

-- in every range from −k to k that n / d is in
pub rounded_in : (n d : ℤ) (k : ℕ) → pos 0 <ℤ d → nat_abs n ≤ k * nat_abs d → nat_abs (rounded n d) ≤ k
rounded_in n d k h l =
    let r = rounded n d in
    let e = d *ℤ r -ℤ n in
    let m : nat_abs d * nat_abs r ≤ nat_abs e + nat_abs n =
    omega (arith, abs_mul d r, diff (d *ℤ r) n, abs_is (d *ℤ r), abs_is e, abs_is n, one_zero (d *ℤ r)) in
    let p : 0 < nat_abs d = omega (arith, lt_in h, abs_is d) in
    let s : nat_abs r < suc k = lt_of_mul-lt-mul_right (2 * nat_abs d) (omega (arith, rounded_near n d h)) in
    omega arith

-- ---- the crossing of an edge and of a corner

-- its point is in coordinate range
pub edge_point : {u0 u1 z0 z1 h : ℤ} → CrossedEdge u0 u1 z0 z1 h → nat_abs (rounded (numerator u0 u1 z0 z1 h) (denominator z0 z1)) ≤ largest
edge_point e = let f = edge_fraction e in rounded_in _ _ largest f.positive f.inside

module _ (m : Mesh) (h : ℤ) where
  module _ (c : ℕ) (t : Climbs m h c) where
    -- at most half a unit from the exact crossing, multiplied out
    pub point_near : (axis : ℕ) → 2 * nat_abs (exact_under m c *ℤ point_at m h axis c -ℤ exact_over m h axis c) ≤ nat_abs (exact_under m c)
    unfolding point_at
    point_near axis = rounded_near (exact_over m h axis c) (exact_under m c) (under_positive m h c t)

    pub point_in_lem : (axis : ℕ) → axis ≤ 1 → nat_abs (point_at m h axis c) ≤ largest
    unfolding point_at exact_over exact_under
    point_in_lem axis k = rounded_in (exact_over m h axis c) (exact_under m c) largest (under_positive m h c t) (edge_fraction (t.edge axis k)).inside

  -- all in coordinate range
  pub points_in_lem : (names : List ℕ) → ((i : ℕ) → i < length names → Climbs m h (get_or names i 0)) → (j : ℕ) → j < length (points_of m h names)
      → nat_abs (get_or (points_of m h names) j (pos 0)) ≤ largest
  points_in_lem names t j l =
      let e : 2 * (j / 2) + j % 2 ≡ j = omega arith in
      let i : j / 2 < length names = omega (arith, length_points_of m h names) in
      let k : j % 2 ≤ 1 = omega arith in
      subst (λ (n : ℕ). nat_abs (get_or (points_of m h names) n (pos 0)) ≤ largest) e
      (rw (points_at_lem m h names (j / 2) i (j % 2) k) (point_in_lem (get_or names (j / 2) 0) (t (j / 2) i) (j % 2) k))

-- Halves away from zero (POINT-2): what lies half way between two whole numbers is rounded to the one further from zero.
use Rattle.std.specs.Prelude.{ℕ, ◌+◌, ◌*◌, ◌/◌, ◌≡◌, [], ◌∷◌, ℤ, pos, negsuc, neg_ℤ, ◌*ℤ◌, ◌<ℤ◌}
use Rattle.std.proofs.Common.{sym, ap, ◌∙◌, mul-div_cancel, arith}
use Rattle.std.proofs.Math.IntN.{neg_ℤ-neg_ℤ}
use Rattle.laws.specs.Integers.{lt_in, eq_in, prod}
use Rattle.laws.specs.Ring.{x, #, ◌⊗◌, ⊝, ring}
use Rattle.mesh.specs.Meshes.{Mesh}
use Rattle.cut_points.specs.Points.{rounded, exact_over, exact_under, point_at}
use Rattle.cut_points.proofs.RoundedLaws.{rounded_neg}

-- n / d is k + 1/2: twice n is 2 k + 1 times d
pub half_above : (n d : ℤ) (k : ℕ) → pos 0 <ℤ d → pos 2 *ℤ n ≡ pos (2 * k + 1) *ℤ d → rounded n d ≡ pos (k + 1)
unfolding rounded
half_above (pos n) (pos d) k h e =
    let m : 2 * n + d ≡ (k + 1) * (2 * d) = omega (arith, eq_in e) in
    ap pos (ap (λ (a : ℕ). a / (2 * d)) m ∙ mul-div_cancel (k + 1) (omega (arith, lt_in h)))
half_above (negsuc n) (pos d) k h e = absurd (omega (arith, eq_in e, prod (pos 2) (negsuc n)))
half_above n (negsuc d) k h e = absurd h.lt

-- n / d is −(k + 1/2)
pub half_below : (n d : ℤ) (k : ℕ) → pos 0 <ℤ d → pos 2 *ℤ n ≡ neg_ℤ (pos (2 * k + 1)) *ℤ d → rounded n d ≡ neg_ℤ (pos (k + 1))
half_below n d k h e =
    let a = ring (n ∷ []) (# (pos 2) ⊗ ⊝ (x 0)) (⊝ (# (pos 2) ⊗ x 0)) tt in
    let b = ring (pos (2 * k + 1) ∷ d ∷ []) (⊝ (⊝ (x 0) ⊗ x 1)) (x 0 ⊗ x 1) tt in
    sym (neg_ℤ-neg_ℤ (rounded n d)) ∙ ap neg_ℤ (sym (rounded_neg n d) ∙ half_above (neg_ℤ n) d k h (a ∙ ap neg_ℤ e ∙ b))

-- so is x or y of a point
module _ (m : Mesh) (h : ℤ) (axis c k : ℕ) (up : pos 0 <ℤ exact_under m c) where
  pub point_half_above : pos 2 *ℤ exact_over m h axis c ≡ pos (2 * k + 1) *ℤ exact_under m c → point_at m h axis c ≡ pos (k + 1)
  unfolding point_at
  point_half_above = half_above (exact_over m h axis c) (exact_under m c) k up

  pub point_half_below : pos 2 *ℤ exact_over m h axis c ≡ neg_ℤ (pos (2 * k + 1)) *ℤ exact_under m c → point_at m h axis c ≡ neg_ℤ (pos (k + 1))
  unfolding point_at
  point_half_below = half_below (exact_over m h axis c) (exact_under m c) k up

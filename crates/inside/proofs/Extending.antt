-- The loop of `extent_of`: none of the first k points is past the extent.
use Prim.Native.Nat.{ℕ, ◌+◌, ◌/◌, ◌^◌, ◌≤◌, ◌<◌}
use mathlib.Core.Path.{◌≡◌, sym, ap, ◌∙◌, subst}
use mathlib.Core.List.{List}
use mathlib.Core.Logic.{⊎_elim}
use native.Mathlib.Omega.{arith}
use lib.ListN.{length}
use lib.IntN.{ℤ}
use lib.Signed.{◌≤ℤ◌, mag, ≤ℤ_refl}
use mir.Syntax.{w32}
use Rattle.laws.specs.Booleans.{split_lt}
use Rattle.laws.specs.Machine.{same}
use Rattle.polygons.specs.Flat.{Point, point, nth_point, points_in}
use Rattle.contours.specs.Areas.{x_of, y_of}
use Rattle.contours.specs.Runs.{PointRun}
use Rattle.inside.specs.declared.ContourExtent.{ContourExtent}
use Rattle.inside.specs.Extents.{InExtent, SpansTo, Spans}
use Rattle.inside.specs.OrderLaws.{le_via}
use Rattle.inside.specs.PointLaws.{row_count, number_back}
use Rattle.inside.proofs.Rounds.{point_loaded}

-- ---- one point more

abbrev extent : ℤ → ℤ → ℤ → ℤ → ContourExtent
extent left right low high = record { left = left; right = right; low = low; high = high }

-- a turn gives l, r, d and u; q is the point at hand
module _ (l r d u : ℤ) {e : ContourExtent} {q : Point}
    (to-left : (l ≤ℤ e.left) × (l ≤ℤ q.x)) (to_right : (e.right ≤ℤ r) × (q.x ≤ℤ r))
    (to_low : (d ≤ℤ e.low) × (d ≤ℤ q.y)) (to_high : (e.high ≤ℤ u) × (q.y ≤ℤ u)) where
  still : {p : Point} → InExtent e p → InExtent (extent l r d u) p
  still s =
      record {
        from_left = le_via to-left.0 s.from_left;
        to_right = le_via s.to_right to_right.0;
        from_low = le_via to_low.0 s.from_low;
        to_high = le_via s.to_high to_high.0;
      }

  new : {p : Point} → q ≡ p → InExtent (extent l r d u) p
  new at =
      subst (InExtent (extent l r d u)) at (record { from_left = to-left.1; to_right = to_right.1; from_low = to_low.1; to_high = to_high.1 })

  spans_more : (c : List Point) {k : ℕ} → SpansTo c k e → q ≡ nth_point c k → SpansTo c (k + 1) (extent l r d u)
  spans_more c {k} s at i h =
      ⊎_elim (λ m. still (s i m)) (λ m. let same_place : k ≡ i = omega arith in new (at ∙ ap (nth_point c) same_place)) (split_lt i k)

-- ---- the loop

pub record Extended (row : List ℤ) (left right low high : ℤ) (k : ℕ) : Type 0 where
  pub run : PointRun row
  pub upto : k ≤ length row / 2
  pub spans : SpansTo (points_in row) k (extent left right low high)

-- a point is in its own extent
alone : (x y : ℤ) → InExtent (extent x x y y) (point x y)
alone x y = record { from_left = ≤ℤ_refl x; to_right = ≤ℤ_refl x; from_low = ≤ℤ_refl y; to_high = ≤ℤ_refl y }

pub extended_start : {row : List ℤ} → PointRun row → 0 < length row
    → Extended row (number_back (x_of row 0)) (number_back (x_of row 0)) (number_back (y_of row 0)) (number_back (y_of row 0)) 1
extended_start {row} run h =
    record {
      run = run;
      upto = omega (arith, run.even);
      spans = λ i l. let first : 0 ≡ i = omega arith in subst (InExtent _) (point_loaded run 0 ∙ ap (nth_point (points_in row)) first) (alone _ _);
    }

module _ {row : List ℤ} {left right low high : ℤ} {k : ℕ} (s : Extended row left right low high k) where
  -- a turn: the lesser and the greater of the extent and the point at hand
  pub extended_again : (l r d u : ℤ) → (mag l < 2 ^ 31) × (mag r < 2 ^ 31) × (mag d < 2 ^ 31) × (mag u < 2 ^ 31)
      → (l ≤ℤ left) × (l ≤ℤ number_back (x_of row k)) → (right ≤ℤ r) × (number_back (x_of row k) ≤ℤ r)
      → (d ≤ℤ low) × (d ≤ℤ number_back (y_of row k)) → (high ≤ℤ u) × (number_back (y_of row k) ≤ℤ u)
      → k < length row / 2 → Extended row (number_back l) (number_back r) (number_back d) (number_back u) (k + 1)
  extended_again l r d u ok to-left to_right to_low to_high h =
      let held : extent (number_back l) (number_back r) (number_back d) (number_back u) ≡ extent l r d u =
      λ t. extent (same w32 l ok.0 t) (same w32 r ok.1 t) (same w32 d ok.2 t) (same w32 u ok.3 t) in
      record {
        run = s.run;
        upto = omega arith;
        spans = subst (SpansTo (points_in row) (k + 1)) (sym held)
            (spans_more l r d u to-left to_right to_low to_high (points_in row) s.spans (point_loaded s.run k));
      }

  pub extended_end : length row / 2 ≤ k → Spans (points_in row) (extent left right low high)
  extended_end h =
      let all : k ≡ length (points_in row) = omega (arith, s.upto, row_count row s.run.even) in
      subst (λ (m : ℕ). SpansTo (points_in row) m (extent left right low high)) all s.spans

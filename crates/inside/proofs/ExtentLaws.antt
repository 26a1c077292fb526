-- A point that is not within the extent of a contour does not lie in it: below and above it no edge passes the level, right of it none meets the level further
-- right, and left of it every edge that passes the level counts, of which there is an even number.
use Rattle.std.specs.Prelude.{ℕ, ◌+◌, ◌≤◌, ◌<◌, ◌≡◌, true, false, List, ◌⊎◌, length, ◌≤ℤ◌, ◌<ℤ◌}
use Rattle.std.proofs.Common.{sym, ◌∙◌, inl, inr, arith}
use Rattle.std.proofs.Math.Path.{ap}
use Rattle.std.specs.Int.Signed.{<ℤ-≤ℤ_trans}
use Rattle.laws.specs.Booleans.{clash, is_true, is_false, and_of, split_lt}
use Rattle.laws.specs.CountLaws.{count_same, count_nothing}
use Rattle.polygons.specs.Flat.{Point, nth_point}
use Rattle.contours.specs.Areas.{next_point}
use Rattle.contours.specs.AreaLaws.{next_on, next_round}
use Rattle.inside.specs.declared.ContourExtent.{ContourExtent}
use Rattle.inside.specs.Inside.{not_higher, counts_for, edge_counts, is_odd, lies_in}
use Rattle.inside.specs.Extents.{InExtent, Spans, within}
use Rattle.inside.specs.OrderLaws.{le_via, le_z_of, le_z_not, le_z_false, lt_z_false}
use Rattle.inside.specs.ParityLaws.{odd_none, round_even}
use Rattle.inside.specs.EdgeLaws.{counts_level}
use Rattle.inside.proofs.RightLaws.{counts_left, counts_right}

pub next_point_below : (n i : ℕ) → i < n → next_point n i < n
next_point_below n i h = by (split_lt (i + 1) n)
  where
    by : (i + 1 < n) ⊎ (n ≤ i + 1) → next_point n i < n
    by (inl l) = omega (arith, next_on n i l)
    by (inr l) = omega (arith, next_round n i (omega arith))

module _ (p : Point) (c : List Point) (e : ContourExtent) (s : Spans c e) where
  abbrev n : ℕ
  n = length c

  -- what follows for two points that are in the extent follows for the ends of edge i
  edge_ends : {A : Point → Point → Type 0} → ((a b : Point) → InExtent e a → InExtent e b → A a b)
      → (i : ℕ) → i < n → A (nth_point c i) (nth_point c (next_point n i))
  edge_ends h i l = h (nth_point c i) (nth_point c (next_point n i)) (s i l) (s (next_point n i) (next_point_below n i l))

  none_count : ((a b : Point) → InExtent e a → InExtent e b → counts_for p a b ≡ false) → lies_in p c ≡ false
  unfolding lies_in
  none_count h = ap is_odd (count_nothing n (edge_counts p c) (edge_ends h)) ∙ odd_none

  below_out : p.y <ℤ e.low → lies_in p c ≡ false
  below_out h = none_count (λ a b sa sb. counts_level p a b (above a sa ∙ sym (above b sb)))
    where
      above : (a : Point) → InExtent e a → not_higher p a ≡ false
      above a sa = le_z_not a.y p.y (<ℤ-≤ℤ_trans h sa.from_low)

  above_out : e.high ≤ℤ p.y → lies_in p c ≡ false
  above_out h = none_count (λ a b sa sb. counts_level p a b (below a sa ∙ sym (below b sb)))
    where
      below : (a : Point) → InExtent e a → not_higher p a ≡ true
      below a sa = le_z_of a.y p.y (le_via sa.to_high h)

  right_out : e.right ≤ℤ p.x → lies_in p c ≡ false
  right_out h = none_count (λ a b sa sb. counts_left p a b (le_via sa.to_right h) (le_via sb.to_right h))

  left_out : p.x <ℤ e.left → lies_in p c ≡ false
  unfolding lies_in
  left_out h =
      ap is_odd (count_same n _ _ (edge_ends (λ a b sa sb. counts_right p a b (<ℤ-≤ℤ_trans h sa.from_left) (<ℤ-≤ℤ_trans h sb.from_left))))
      ∙ round_even (λ i. not_higher p (nth_point c i)) n

  -- a point that lies in a contour is within its extent
  pub inside_within : lies_in p c ≡ true → within e p ≡ true
  unfolding within
  inside_within t =
      let left = is_true _ (λ f. clash t (left_out (le_z_false _ _ f))) in
      let right = is_true _ (λ f. clash t (right_out (lt_z_false _ _ f))) in
      let low = is_true _ (λ f. clash t (below_out (le_z_false _ _ f))) in
      let high = is_true _ (λ f. clash t (above_out (lt_z_false _ _ f))) in
      and_of (and_of (and_of left right) low) high

  -- and one that is not does not
  pub without_outside : within e p ≡ false → lies_in p c ≡ false
  without_outside w = is_false (lies_in p c) (λ t. clash (inside_within t) w)

-- Laws of contours that rest on what makes one (`contour_parts`): where there is none, there are no numbers; a contour lies within the table, and
-- has the numbers that stand there. A contour of points in range is no run that Area refuses.
use Rattle.std.specs.Prelude.{ℕ, zero, suc, ◌+◌, ◌-◌, ◌*◌, ◌/◌, ◌≤◌, ◌<◌, ◌≡◌, Bool, List, ◌⊎◌, length, get_or, take, drop, ℤ, pos, nat_abs}
use Rattle.std.proofs.Math.Path.{refl, ap}
use Rattle.std.proofs.Math.Bool.{true, false, cond}
use Rattle.std.proofs.Math.ListN.{get_or-eq_default}
use Rattle.std.proofs.Common.{sym, ◌∙◌, inl, inr, arith, length-take, length-drop, get_or-take, get_or-drop}
use Rattle.laws.specs.Booleans.{clash, is_false, split_lt}
use Rattle.mesh.specs.Corners.{largest}
use Rattle.polygons.specs.Flat.{points_between}
use Rattle.contours.specs.Areas.{most_points}
use Rattle.contours.specs.Contours.{prior_end, own_end, is_contour, span_of, first_of, contour_of}
use Rattle.contours.specs.ContourLaws.{HasContour, contour_parts, contour_of_lem, span_there, first_there, first_none, span_even, contour_is, contour_none}
use Rattle.contours.specs.Runs.{PointRun}

module _ (n : ℕ) (ends : List ℕ) (j : ℕ) where
  pub not_contour : (HasContour n ends j → ⊥) → is_contour n ends j ≡ false
  not_contour h = is_false (is_contour n ends j) (λ e. h (contour_parts n ends j e))

  pub span_none : (HasContour n ends j → ⊥) → span_of n ends j ≡ 0
  unfolding span_of
  span_none h = ap (λ (b : Bool). cond b (2 * (own_end ends j - prior_end ends j)) 0) (not_contour h)

  -- only a contour has numbers
  pub span_contour : 0 < span_of n ends j → HasContour n ends j
  span_contour h = by (is_contour n ends j) refl
    where
      by : (b : Bool) → is_contour n ends j ≡ b → HasContour n ends j
      by true e = contour_parts n ends j e
      by false e = absurd (omega (arith, span_none (λ c. clash (contour_of_lem n ends j c) e)))

  -- it ends within the table
  pub span_fits : first_of n ends j + span_of n ends j ≤ n
  span_fits = by (span_of n ends j) refl
    where
      by : (s : ℕ) → span_of n ends j ≡ s → first_of n ends j + span_of n ends j ≤ n
      by zero e = omega (arith, first_none n ends j e)
      by (suc s) e =
          let c = span_contour (omega arith) in
          omega (arith, c.rises, c.within, span_there n ends j c, first_there n ends j (omega arith))

module _ (points : List ℤ) (ends : List ℕ) (j : ℕ) where
  -- it lies where `first_of` and `span_of` say
  pub contour_lies : contour_of points ends j ≡ take (span_of (length points) ends j) (drop (first_of (length points) ends j) points)
  contour_lies = by (is_contour (length points) ends j) refl
    where
      -- no numbers, or those from the previous end on
      here : HasContour (length points) ends j → (k : ℕ) → span_of (length points) ends j ≡ k
          → points_between points (prior_end ends j) (own_end ends j) ≡ take (span_of (length points) ends j) (drop (first_of (length points) ends j) points)
      here c zero q =
          ap (λ (k : ℕ). take k (drop (2 * prior_end ends j) points)) (sym (span_there (length points) ends j c) ∙ q)
          ∙ sym (ap (λ (k : ℕ). take k (drop (first_of (length points) ends j) points)) q)
      here c (suc k) q =
          sym (λ i. take (span_there (length points) ends j c i) (drop (first_there (length points) ends j (omega arith) i) points))

      by : (b : Bool) → is_contour (length points) ends j ≡ b
          → contour_of points ends j ≡ take (span_of (length points) ends j) (drop (first_of (length points) ends j) points)
      by true e = contour_is points ends j e ∙ here (contour_parts (length points) ends j e) (span_of (length points) ends j) refl
      by false e =
          contour_none points ends j e
          ∙ sym (ap (λ (k : ℕ). take k (drop (first_of (length points) ends j) points))
          (span_none (length points) ends j (λ c. clash (contour_of_lem (length points) ends j c) e)))

  pub length_contour : length (contour_of points ends j) ≡ span_of (length points) ends j
  length_contour = ap length contour_lies ∙ simp (length-take, length-drop) (omega (arith, span_fits (length points) ends j))

  -- number i of contour j
  pub contour_at_lem : (i : ℕ) (d : ℤ) → i < span_of (length points) ends j → get_or (contour_of points ends j) i d ≡ get_or points (2 * prior_end ends j + i) d
  contour_at_lem i d h =
      ap (λ (l : List ℤ). get_or l i d) contour_lies
      ∙ get_or-take (span_of (length points) ends j) (drop (first_of (length points) ends j) points) i d h
      ∙ get_or-drop (first_of (length points) ends j) points i d
      ∙ ap (λ (k : ℕ). get_or points (k + i) d) (first_there (length points) ends j (omega arith))

-- a contour of points in range, of which there are not too many
pub contour_run : (points : List ℤ) (ends : List ℕ) (j : ℕ) → own_end ends j ≤ most_points
    → ((i : ℕ) → i < 2 * own_end ends j → nat_abs (get_or points i (pos 0)) ≤ largest) → PointRun (contour_of points ends j)
contour_run points ends j few ranged =
    record { even = rw len (span_even n ends j); few = rw len (short (split_lt 0 (span_of n ends j))); ranged = λ i. at i (split_lt i (span_of n ends j)) }
  where
    n : ℕ
    n = length points

    len : length (contour_of points ends j) ≡ span_of n ends j
    len = length_contour points ends j

    short : (0 < span_of n ends j) ⊎ (span_of n ends j ≤ 0) → span_of n ends j / 2 ≤ most_points
    short (inl h) = omega (arith, span_there n ends j (span_contour n ends j h))
    short (inr h) = omega arith

    at : (i : ℕ) → (i < span_of n ends j) ⊎ (span_of n ends j ≤ i) → nat_abs (get_or (contour_of points ends j) i (pos 0)) ≤ largest
    at i (inl h) =
        let c = span_contour n ends j (omega arith) in
        rw (contour_at_lem points ends j i (pos 0) h) (ranged (2 * prior_end ends j + i) (omega (arith, span_there n ends j c, c.rises)))
    at i (inr h) =
        let e : get_or (contour_of points ends j) i (pos 0) ≡ pos 0 = get_or-eq_default (contour_of points ends j) (pos 0) (omega (arith, len)) in
        omega (arith, ap nat_abs e)

-- Laws of contours: what makes one, and that one has the numbers from the previous end to its own (CONTOUR-1). That a contour lies within the table, and
-- is empty exactly as CONTOUR-3 to CONTOUR-5 say, is in proofs/ContourLaws.antt.
use Rattle.std.specs.Prelude.{ℕ, ◌-◌, ◌*◌, ◌%◌, ◌≤◌, ◌<◌, ◌≡◌, Bool, List, [], length, ℤ}
use Rattle.std.proofs.Math.Path.{refl, ap}
use Rattle.std.proofs.Math.Bool.{true, false, cond}
use native.Mathlib.Omega.{arith}
use borrow.Author.Tests.{ltb-true, leb-true, lt-ltb, le-ltb, le-leb}
use Rattle.laws.specs.Booleans.{and_parts}
use Rattle.polygons.specs.Flat.{points_between}
use Rattle.contours.specs.Contours.{prior_end, own_end, is_contour, span_of, first_of, contour_of}

module _ (n : ℕ) (ends : List ℕ) (j : ℕ) where
  -- what makes a contour
  pub record HasContour : Type 0 where
    pub there : j < length ends
    pub rises : prior_end ends j ≤ own_end ends j
    pub within : 2 * own_end ends j ≤ n

  pub contour_parts : is_contour n ends j ≡ true → HasContour
  unfolding is_contour
  contour_parts e =
      let p = and_parts _ _ e in
      let q = and_parts _ _ p.0 in
      record { there = ltb-true _ _ q.0; rises = leb-true _ _ q.1; within = leb-true _ _ p.1 }

  pub contour_of_lem : HasContour → is_contour n ends j ≡ true
  unfolding is_contour
  contour_of_lem c =
      let there = lt-ltb j (length ends) c.there in
      let rises = le-leb (prior_end ends j) (own_end ends j) c.rises in
      let within = le-leb (2 * own_end ends j) n c.within in
      simp (there, rises, within)

  -- how many numbers it has, and where
  pub span_there : HasContour → span_of n ends j ≡ 2 * (own_end ends j - prior_end ends j)
  unfolding span_of
  span_there c = ap (λ (b : Bool). cond b (2 * (own_end ends j - prior_end ends j)) 0) (contour_of_lem c)

  pub first_there : 0 < span_of n ends j → first_of n ends j ≡ 2 * prior_end ends j
  unfolding first_of
  first_there h = ap (λ (b : Bool). cond b (2 * prior_end ends j) 0) (lt-ltb 0 (span_of n ends j) h)

  pub first_none : span_of n ends j ≡ 0 → first_of n ends j ≡ 0
  unfolding first_of
  first_none e = ap (λ (b : Bool). cond b (2 * prior_end ends j) 0) (le-ltb 0 (span_of n ends j) (omega arith))

  pub span_even : span_of n ends j % 2 ≡ 0
  unfolding span_of
  span_even = by (is_contour n ends j)
    where
      by : (b : Bool) → cond b (2 * (own_end ends j - prior_end ends j)) 0 % 2 ≡ 0
      by true = omega arith
      by false = refl

module _ (points : List ℤ) (ends : List ℕ) (j : ℕ) where
  -- from the previous end to its own
  pub contour_is : is_contour (length points) ends j ≡ true → contour_of points ends j ≡ points_between points (prior_end ends j) (own_end ends j)
  unfolding contour_of
  contour_is e = ap (λ (b : Bool). cond b (points_between points (prior_end ends j) (own_end ends j)) []) e

  -- or the empty part
  pub contour_none : is_contour (length points) ends j ≡ false → contour_of points ends j ≡ []
  unfolding contour_of
  contour_none e = ap (λ (b : Bool). cond b (points_between points (prior_end ends j) (own_end ends j)) []) e

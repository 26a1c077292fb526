-- The loop of `doubled_area`: before point k is added, the point at hand is the one before it, and the sum has the trapezoids of each point before that
-- and the next.
use Prim.Native.Nat.{ℕ, ◌+◌, ◌*◌, ◌^◌, ◌≤◌, ◌<◌}
use mathlib.Core.Path.{◌≡◌, refl, sym, ap, ◌∙◌, subst}
use mathlib.Core.Bool.{Bool, true, false}
use mathlib.Core.List.{List, [], ◌∷◌}
use native.Mathlib.Omega.{arith}
use native.Mathlib.Numerals.{add-one}
use native.Mathlib.Nat.{mul-le-mul_right, le_trans}
use borrow.Author.Tests.{eqb-true, eqb-false}
use lib.Dec.{eqb}
use lib.ListN.{length}
use lib.IntN.{ℤ, pos, nat_abs, ◌+ℤ◌, ◌-ℤ◌, ◌*ℤ◌}
use lib.Signed.{mag}
use mir.Syntax.{w32, w64}
use mir.Val.{SFits, to_z, of_z}
use Rattle.laws.specs.Machine.{Rd, got, same, same_in, add, add_ok}
use Rattle.mesh.specs.Corners.{largest}
use Rattle.contours.specs.Areas.{most_points, point_count, x_of, y_of, sum_of, area_of}
use Rattle.contours.specs.AreaLaws.{sum_bound, area_none}
use Rattle.contours.specs.Runs.{largest_cross, PointRun}
use Rattle.contours.specs.TrapezoidLaws.{trapezoid_of, trapezoid_at, trapezoid_bound, area_trapezoids}

-- a number that is written to a local of 64 bits and read back
abbrev pub held : ℤ → ℤ
held z = to_z w64 (of_z w64 z)

-- (x, y) is point i
pub record PointHeld (points : List ℤ) (i : ℕ) (x y : ℤ) : Type 0 where
  pub x_is : x ≡ x_of points i
  pub y_is : y ≡ y_of points i

pub record TrapezoidsSummed (points : List ℤ) (x y sum : ℤ) (k : ℕ) : Type 0 where
  pub run : PointRun points
  pub at : ℕ
  pub next : at + 1 ≡ k
  pub upto : k ≤ point_count points
  pub held : PointHeld points at x y
  pub sum_is : sum ≡ sum_of at (trapezoid_at points)

-- no points, by the test that there are none
pub area_empty : (points : List ℤ) {b : Bool} → b ≡ eqb (length points) 0 → b ≡ true → pos 0 ≡ area_of points
area_empty [] e t = sym area_none
area_empty (z ∷ points) e t = let none = eqb-true _ _ (sym e ∙ t) in absurd (omega (arith, none))

module _ {points : List ℤ} (r : PointRun points) where
  -- point i, loaded and made wider
  pub loaded : (i : ℕ) {x y : ℤ} → mag x < 2 ^ 63 → mag y < 2 ^ 63 → x ≡ to_z w32 (of_z w32 (x_of points i)) → y ≡ to_z w32 (of_z w32 (y_of points i))
      → PointHeld points i (held x) (held y)
  loaded i {x} {y} f g d e =
      let x_back = same_in w32 (x_of points i) largest (r.ranged (2 * i)) tt in
      let y_back = same_in w32 (y_of points i) largest (r.ranged (2 * i + 1)) tt in
      record { x_is = same w64 x f ∙ d ∙ x_back; y_is = same w64 y g ∙ e ∙ y_back }

  pub held_x : {i : ℕ} {x y : ℤ} → PointHeld points i x y → nat_abs x ≤ largest
  held_x {i} h = rw h.x_is (r.ranged (2 * i))

  pub held_y : {i : ℕ} {x y : ℤ} → PointHeld points i x y → nat_abs y ≤ largest
  held_y {i} h = rw h.y_is (r.ranged (2 * i + 1))

  pub start : {b : Bool} {x y : ℤ} → b ≡ eqb (length points) 0 → b ≡ false → PointHeld points 0 x y → TrapezoidsSummed points x y (pos 0) 1
  unfolding sum_of
  start e t h =
      let some : 1 ≤ point_count points = omega (arith, r.even, eqb-false (length points) 0 (sym e ∙ t)) in
      record { run = r; at = 0; next = refl; upto = some; held = h; sum_is = refl }

-- in a turn, where the sum so far is held as bits
module _ {points : List ℤ} {x y : ℤ} (sum : ℕ) {k : ℕ} (s : TrapezoidsSummed points x y (to_z w64 sum) k) where
  sum_le : nat_abs (sum_of s.at (trapezoid_at points)) ≤ most_points * (2 * largest_cross)
  sum_le =
      let few : s.at ≤ most_points = omega (arith, s.run.few, s.next, s.upto) in
      le_trans (sum_bound s.at (2 * largest_cross) (trapezoid_at points) (λ i l. trapezoid_bound points s.run i (i + 1)))
      (mul-le-mul_right (2 * largest_cross) few)

  abbrev whole : Rd w64 (sum_of s.at (trapezoid_at points)) (most_points * (2 * largest_cross))
  whole = record { n = sum; is = s.sum_is; le = sum_le }

  -- what `trapezoid` promises of its result, for the point at hand and (u, v)
  abbrev Trapezoid : ℤ → ℤ → ℤ → Type 0
  Trapezoid u v z = z ≡ (x -ℤ u) *ℤ (y +ℤ v)

  module _ (z : ℤ) (f : mag z < 2 ^ 63) (h : nat_abs z ≤ 2 * largest_cross) where
    abbrev more : Rd w64 z (2 * largest_cross)
    more = got f refl h

    -- a trapezoid more fits
    pub sum_ok : SFits w64 (to_z w64 sum +ℤ to_z w64 (of_z w64 z))
    sum_ok = add_ok whole more tt

    module _ {m : ℕ} {u v : ℤ} (b : PointHeld points m u v) (e : Trapezoid u v z) where
      trapezoid_is : z ≡ trapezoid_of points s.at m
      unfolding trapezoid_of
      trapezoid_is = e ∙ (λ t. (s.held.x_is t -ℤ b.x_is t) *ℤ (s.held.y_is t +ℤ b.y_is t))

      added : to_z w64 (of_z w64 (to_z w64 sum +ℤ to_z w64 (of_z w64 z))) ≡ sum_of s.at (trapezoid_at points) +ℤ trapezoid_of points s.at m
      added = (add whole more tt).is ∙ ap (λ (y : ℤ). sum_of s.at (trapezoid_at points) +ℤ y) trapezoid_is

    -- a turn: the next point
    pub again : {u v : ℤ} (b : PointHeld points k u v) → Trapezoid u v z → k < point_count points
        → TrapezoidsSummed points u v (to_z w64 (of_z w64 (to_z w64 sum +ℤ to_z w64 (of_z w64 z)))) (k + 1)
    unfolding sum_of
    again {u} {v} b e l =
        let there = subst (λ (n : ℕ). PointHeld points n u v) (sym s.next) b in
        let summed = added there e ∙ ap (λ (n : ℕ). sum_of n (trapezoid_at points)) (sym (add-one s.at)) in
        record { run = s.run; at = s.at + 1; next = omega (arith, s.next); upto = omega arith; held = there; sum_is = summed }

    -- the end: closed round
    pub closed : {u v : ℤ} (b : PointHeld points 0 u v) → Trapezoid u v z → point_count points ≤ k
        → to_z w64 (of_z w64 (to_z w64 sum +ℤ to_z w64 (of_z w64 z))) ≡ area_of points
    closed b e g = added b e ∙ area_trapezoids points s.at (omega (arith, s.next, s.upto))

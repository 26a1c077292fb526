-- Summing the areas of contours: the sum has 64 bits.
use Prim.Native.Nat.{ℕ, ◌+◌, ◌*◌, ◌≤◌, ◌<◌}
use mathlib.Core.Path.{◌≡◌, refl, sym, ap, ◌∙◌, subst}
use mathlib.Core.List.{List}
use Rattle.std.specs.Prelude.{Result, Ok, Err, IsOk}
use native.Mathlib.Omega.{arith}
use native.Mathlib.Numerals.{add-one}
use native.Mathlib.Nat.{mul-le-mul_right, le_trans}
use lib.IntN.{ℤ, pos, nat_abs, ◌+ℤ◌}
use mir.Syntax.{w64}
use mir.Val.{SFits, to_z, of_z}
use mir.ValLaws.{to_z-of_z}
use Rattle.laws.specs.Integers.{abs_add}
use Rattle.laws.specs.Machine.{ok}
use Rattle.mesh.specs.OperationLaws.{apart}
use Rattle.mesh.specs.declared.Refusal.{Refusal}
use Rattle.contours.specs.Areas.{point_count, cross_of, next_point, sum_of, area_of, tell_area, Measures}
use Rattle.contours.specs.AreaLaws.{sum_bound, cross_bound, run_measured, area_is}
use Rattle.contours.specs.Contours.{contour_of}
use Rattle.contours.specs.Runs.{largest_cross, PointRun}
use Rattle.list_lines.specs.Limits.{held_entries}
use Rattle.list_lines.specs.Steps.{areas_in, Summable}

-- ---- one contour

-- a part of the points that is contour i
module _ {points run : List ℤ} (e : run ≡ points) where
  pub measured_area : {result : Result ℤ Refusal} → Measures run result → {a : ℤ} → result ≡ Ok a → a ≡ area_of points
  measured_area d {a} f = area_is d a (ap tell_area f) ∙ ap area_of e

  -- which is never refused
  pub run_is_measured : (result : Result ℤ Refusal) → Measures run result → PointRun points → IsOk result
  run_is_measured (Ok a) d runs = refl
  run_is_measured (Err r) d runs = absurd (apart (run_measured d (subst PointRun (sym e) runs)))

-- ---- the sum

-- the area of a run of few points
area_most : (points : List ℤ) → PointRun points → point_count points ≤ held_entries → nat_abs (area_of points) ≤ held_entries * largest_cross
unfolding area_of
area_most points r h =
    let n = point_count points in
    le_trans (sum_bound n largest_cross (λ i. cross_of points i (next_point n i)) (λ i l. cross_bound points r i (next_point n i)))
    (mul-le-mul_right largest_cross h)

-- i contours are summed
pub record AreasSummed (points : List ℤ) (ends : List ℕ) (j : ℕ) (sum : ℤ) (i : ℕ) : Type 0 where
  pub upto : i ≤ j
  pub is : sum ≡ areas_in points ends i

pub summed_start : {points : List ℤ} {ends : List ℕ} {j : ℕ} → AreasSummed points ends j (pos 0) 0
unfolding areas_in sum_of
summed_start = record { upto = omega arith; is = refl }

module _ {points : List ℤ} {ends : List ℕ} {j : ℕ} (s : Summable points ends j) where
  sum_most : (i : ℕ) → i ≤ j → nat_abs (areas_in points ends i) ≤ held_entries * (held_entries * largest_cross)
  unfolding areas_in
  sum_most i h =
      let m : i ≤ held_entries = omega (arith, s.few) in
      le_trans
      (sum_bound i (held_entries * largest_cross) (λ k. area_of (contour_of points ends k))
      (λ k l. area_most (contour_of points ends k) (s.each k (omega arith)) (s.short k (omega arith))))
      (mul-le-mul_right (held_entries * largest_cross) m)

  module _ {sum : ℤ} {i : ℕ} (w : AreasSummed points ends j sum i) (h : i < j) {a : ℤ} (e : a ≡ area_of (contour_of points ends i)) where
    pub sum_fits : SFits w64 (sum +ℤ a)
    sum_fits =
        let this = area_most (contour_of points ends i) (s.each i h) (s.short i h) in
        let x = areas_in points ends i in
        let y = area_of (contour_of points ends i) in
        let both : nat_abs (x +ℤ y) ≤ held_entries * (held_entries * largest_cross) + held_entries * largest_cross =
        omega (arith, abs_add x y, sum_most i w.upto, this) in
        ok (λ k. w.is k +ℤ e k) both tt

    pub summed_next : AreasSummed points ends j (to_z w64 (of_z w64 (sum +ℤ a))) (i + 1)
    unfolding areas_in sum_of
    summed_next =
        record {
          upto = omega arith;
          is = to_z-of_z w64 (sum +ℤ a) sum_fits ∙ (λ k. w.is k +ℤ e k) ∙ ap (areas_in points ends) (sym (add-one i));
        }

  pub summed_end : {sum : ℤ} {i : ℕ} → AreasSummed points ends j sum i → j ≤ i → sum ≡ areas_in points ends j
  summed_end {sum} {i} w h = w.is ∙ ap (areas_in points ends) (let e : i ≡ j = omega (arith, w.upto) in e)

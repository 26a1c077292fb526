-- What Area promises: it refuses exactly if a listed condition holds, at the least place; its answer is at most 98,304 times the largest cross product; a run
-- without points has area 0; points in range, and contours of such, are never refused.
use Rattle.std.specs.Prelude.{ℕ, zero, suc, ◌+◌, ◌*◌, ◌/◌, ◌%◌, ◌≤◌, ◌<◌, ◌≡◌, refl, Bool, true, false, not, cond, List, [], ◌∷◌, ◌↔◌, length, get_or, ℤ}
use Rattle.std.specs.Prelude.{pos, nat_abs, ◌+ℤ◌, Result, Ok, Err}
use Rattle.std.proofs.Common.{sym, ap, ◌∙◌, ⊎_elim, arith, mul-le-mul_right, le_trans, leb-true, eqb-true, le-ltb, le-leb, eq-eqb, ne_eqb}
use Rattle.std.proofs.lemmas.Bool.{not-false}
use Rattle.std.proofs.Math.ListN.{get_or-eq_default}
use Rattle.laws.specs.Booleans.{and_parts, and_of, split_lt}
use Rattle.laws.specs.Integers.{abs_add}
use Rattle.mesh.specs.Corners.{largest}
use Rattle.mesh.specs.Operation.{gives, refuses}
use Rattle.mesh.specs.OperationLaws.{First, None, more, done, fine_none, Recovers, given_verdict, refused_exactly, given_exactly, only_outcome}
use Rattle.mesh.specs.Refusals.{Told}
use Rattle.mesh.specs.RefusalLaws.{refusal_of, refusal_once}
use Rattle.mesh.specs.Tests.{out_of_range, range}
use Rattle.mesh.specs.TestLaws.{in_range_lem}
use Rattle.polygons.specs.AreaBoundLaws.{cross_le}
use Rattle.mesh.specs.declared.Refusal.{Refusal}
use Rattle.contours.specs.Areas.{most_points, point_count, x_of, y_of, cross_of, next_point, sum_of, area_of}
use Rattle.contours.specs.Areas.{run_fits, run_size, measuring, tell_area, Measures}
use Rattle.contours.specs.Runs.{largest_cross, PointRun}

-- ---- sums

pub sum_same : (n : ℕ) (f g : ℕ → ℤ) → ((i : ℕ) → i < n → f i ≡ g i) → sum_of n f ≡ sum_of n g
unfolding sum_of
sum_same zero f g h = refl
sum_same (suc n) f g h = λ i. sum_same n f g (λ k l. h k (omega arith)) i +ℤ h n (omega arith) i

pub sum_bound : (n B : ℕ) (f : ℕ → ℤ) → ((i : ℕ) → i < n → nat_abs (f i) ≤ B) → nat_abs (sum_of n f) ≤ n * B
unfolding sum_of
sum_bound zero B f h = omega arith
sum_bound (suc n) B f h = omega (arith, abs_add (sum_of n f) (f n), h n (omega arith), sum_bound n B f (λ i l. h i (omega arith)))

-- ---- the area

-- a run without points
pub area_none : area_of [] ≡ pos 0
unfolding area_of sum_of
area_none = refl

-- the next point of a run that goes on, and of its last
pub next_on : (n i : ℕ) → i + 1 < n → next_point n i ≡ i + 1
unfolding next_point
next_on n i h = ap (λ (b : Bool). cond b 0 (i + 1)) (ne_eqb (i + 1) n (λ e. omega arith))

pub next_round : (n i : ℕ) → i + 1 ≡ n → next_point n i ≡ 0
unfolding next_point
next_round n i e = ap (λ (b : Bool). cond b 0 (i + 1)) (eq-eqb (i + 1) n e)

-- the crosses of neighbours, and that of the last and the first
pub area_closed : (points : List ℤ) (last : ℕ) → last + 1 ≡ point_count points
    → sum_of last (λ i. cross_of points i (i + 1)) +ℤ cross_of points last 0 ≡ area_of points
unfolding area_of sum_of
area_closed points last e =
    (λ i. neighbours i +ℤ cross_of points last (sym (next_round (point_count points) last e) i))
    ∙ ap (λ (n : ℕ). sum_of n f) count
  where
    f : ℕ → ℤ
    f i = cross_of points i (next_point (point_count points) i)

    neighbours : sum_of last (λ k. cross_of points k (k + 1)) ≡ sum_of last f
    neighbours =
        sum_same last (λ k. cross_of points k (k + 1)) f (λ k l. ap (cross_of points k) (sym (next_on (point_count points) k (omega arith))))

    count : suc last ≡ point_count points
    count = omega arith

-- ---- tested points

pub cross_bound : (points : List ℤ) → PointRun points → (i k : ℕ) → nat_abs (cross_of points i k) ≤ largest_cross
unfolding cross_of
cross_bound points r i k =
    cross_le (x_of points i) (y_of points i) (x_of points k) (y_of points k) (r.ranged (2 * i)) (r.ranged (2 * i + 1)) (r.ranged (2 * k)) (r.ranged (2 * k + 1))

pub run_bound : (points : List ℤ) → PointRun points → nat_abs (area_of points) ≤ most_points * largest_cross
unfolding area_of
run_bound points r =
    let n = point_count points in
    le_trans (sum_bound n largest_cross (λ i. cross_of points i (next_point n i)) (λ i l. cross_bound points r i (next_point n i)))
    (mul-le-mul_right largest_cross r.few)

-- what the two tests say of a run, and what passes them
pub fits_parts : (n : ℕ) → run_fits n ≡ true → (n % 2 ≡ 0) × (n / 2 ≤ most_points)
unfolding run_fits
fits_parts n e = let p = and_parts _ _ e in (eqb-true (n % 2) 0 p.0, leb-true (n / 2) most_points p.1)

pub fits_of : (n : ℕ) → n % 2 ≡ 0 → n / 2 ≤ most_points → run_fits n ≡ true
unfolding run_fits
fits_of n g h = and_of (eq-eqb (n % 2) 0 g) (le-leb (n / 2) most_points h)

range_passed : (points : List ℤ) (i : ℕ) → nat_abs (get_or points i (pos 0)) ≤ largest → out_of_range points i ≡ false
unfolding out_of_range
range_passed points i h = le-ltb largest (nat_abs (get_or points i (pos 0))) h

pub run_tested : (points : List ℤ) → None (run_size points ∷ range points ∷ []) → PointRun points
run_tested points (more s (more r done)) =
    let p = fits_parts (length points) (not-false _ (s 0 (omega arith))) in
    record {
      even = p.0;
      few = p.1;
      ranged =
          λ i. ⊎_elim (λ l. in_range_lem points i (r i l))
          (λ h. let e : get_or points i (pos 0) ≡ pos 0 = get_or-eq_default points (pos 0) h in omega (arith, ap nat_abs e))
          (split_lt i (length points));
    }

pub none_tested : (points : List ℤ) → PointRun points → None (run_size points ∷ range points ∷ [])
none_tested points r =
    more (λ i l. ap not (fits_of (length points) r.even r.few))
    (more (λ i l. range_passed points i (r.ranged i)) done)

-- these are all that Area asks
pub run_of : (points : List ℤ) → None (measuring points).refusals → PointRun points
run_of = run_tested

pub none_of : (points : List ℤ) → PointRun points → None (measuring points).refusals
none_of = none_tested

-- ---- Area

pub area_recovers : Recovers tell_area
area_recovers = record {
  back = elim [ gives a ↦ Ok a | refuses r ↦ Err (refusal_of r) ];
  once = elim [ Ok a ↦ refl | Err r ↦ ap Err (refusal_once r) ];
}

module _ {points : List ℤ} {result : Result ℤ Refusal} (d : Measures points result) where
  -- refused exactly if a listed condition holds, the first that fits, at the least place; measured exactly if none does; and one answer only
  pub area_refused : (r : Told) → (tell_area result ≡ refuses r) ↔ First (measuring points).refusals r
  area_refused = refused_exactly d

  pub area_given : (tell_area result ≡ gives (area_of points)) ↔ None (measuring points).refusals
  area_given = given_exactly d

  pub area_only : {other : Result ℤ Refusal} → Measures points other → result ≡ other
  area_only e = (only_outcome area_recovers d e).0

  pub run_measured : PointRun points → tell_area result ≡ gives (area_of points)
  run_measured r = (given_exactly d).1 (none_tested points r)

  -- an area that is answered is the area, and at most 98,304 × 2 × 2 ^ 40
  pub area_is : (a : ℤ) → tell_area result ≡ gives a → a ≡ area_of points
  area_is a e = (given_verdict d e).1

  pub area_bound : (a : ℤ) → tell_area result ≡ gives a → nat_abs a ≤ most_points * largest_cross
  area_bound a e =
      let f = given_verdict d e in
      rw f.1 (run_bound points (run_tested points (fine_none (measuring points).refusals f.0)))

-- The loop of `lies_in`: before the edge to point k the point at hand is the one before it, and so many of the edges before that count.
use Prim.Native.Nat.{ℕ, suc, ◌+◌, ◌/◌, ◌%◌, ◌≤◌, ◌<◌}
use mathlib.Core.Path.{◌≡◌, refl, sym, ap, ◌∙◌, subst}
use mathlib.Core.Bool.{Bool, true, false}
use mathlib.Core.List.{List}
use native.Mathlib.Omega.{arith}
use native.Mathlib.Numerals.{add-one}
use lib.Dec.{eqb}
use lib.ListN.{length}
use lib.IntN.{ℤ}
use Rattle.std.specs.Int.{from_bool}
use Rattle.laws.specs.Count.{count}
use Rattle.laws.specs.CountLaws.{tally, count_bound, count_start}
use Rattle.polygons.specs.Flat.{Point, point, nth_point, PointNear, points_in}
use Rattle.contours.specs.Areas.{next_point, x_of, y_of}
use Rattle.contours.specs.AreaLaws.{next_on, next_round}
use Rattle.contours.specs.Runs.{PointRun}
use Rattle.inside.specs.Inside.{counts_for, edge_counts, is_odd, lies_in}
use Rattle.inside.specs.PointLaws.{row_count, row_point_lem, row_near, run_near, number_back, read_back, back_same, back_near}

-- (ax, ay) is the point at hand
pub record Counted (row : List ℤ) (p : Point) (ax ay : ℤ) (n k : ℕ) : Type 0 where
  pub run : PointRun row
  pub near : PointNear p
  pub prior : ℕ
  pub next : prior + 1 ≡ k
  pub upto : k ≤ length (points_in row)
  pub at : point ax ay ≡ nth_point (points_in row) prior
  pub count_is : n ≡ count prior (edge_counts p (points_in row))

-- what one edge adds
pub one_told : (b : Bool) → from_bool b ≡ tally b
one_told true = refl
one_told false = refl

pub one_few : (b : Bool) → from_bool b ≤ 1
one_few true = omega arith
one_few false = omega arith

-- a point that was loaded
module _ {row : List ℤ} (run : PointRun row) (i : ℕ) where
  pub point_loaded : read_back (point (x_of row i) (y_of row i)) ≡ nth_point (points_in row) i
  point_loaded = back_same (point (x_of row i) (y_of row i)) (row_near run i) ∙ sym (row_point_lem row run.even i)

  pub near_loaded : PointNear (read_back (point (x_of row i) (y_of row i)))
  near_loaded = back_near (point (x_of row i) (y_of row i)) (row_near run i)

pub counted_start : {row : List ℤ} (p : Point) → PointRun row → PointNear p → 0 < length row
    → Counted row (read_back p) (number_back (x_of row 0)) (number_back (y_of row 0)) 0 1
counted_start {row} p run near h =
    let some : 1 ≤ length (points_in row) = omega (arith, row_count row run.even, run.even) in
    record { run = run; near = back_near p near; prior = 0; next = refl; upto = some; at = point_loaded run 0; count_is = count_start _ }

module _ {row : List ℤ} {p : Point} {n k : ℕ} {ax ay : ℤ} (s : Counted row p ax ay n k) where
  abbrev c : List Point
  c = points_in row

  -- the point at hand is in range
  pub at_near : PointNear (point ax ay)
  at_near = subst PointNear (sym s.at) (run_near s.run s.prior)

  pub counted_few : n ≤ k
  counted_few = omega (arith, s.count_is, s.next, count_bound s.prior (edge_counts p c))

  -- what the edge from the point at hand to the next one adds
  added : {q : Point} {b : Bool} {m : ℕ} → b ≡ counts_for p (point ax ay) q → m ≡ from_bool b → q ≡ nth_point c (next_point (length c) s.prior)
      → n + m ≡ count (suc s.prior) (edge_counts p c)
  unfolding count
  added told is e = omega (arith, s.count_is, is ∙ one_told _ ∙ ap tally (told ∙ (λ t. counts_for p (s.at t) (e t))))

  -- a turn: the next point
  pub counted_again : {u v : ℤ} {m : ℕ} {b : Bool} → point u v ≡ nth_point c k → b ≡ counts_for p (point ax ay) (point u v) → m ≡ from_bool b
      → k < length row / 2
      → Counted row p u v (n + m) (k + 1)
  counted_again e told is l =
      let few : k < length c = omega (arith, row_count row s.run.even) in
      let next : next_point (length c) s.prior ≡ k = next_on (length c) s.prior (omega (arith, s.next)) ∙ s.next in
      let total = added told is (e ∙ ap (nth_point c) (sym next)) ∙ ap (λ (j : ℕ). count j (edge_counts p c)) (sym (add-one s.prior) ∙ s.next) in
      record { run = s.run; near = s.near; prior = k; next = refl; upto = omega arith; at = e; count_is = total }

  -- the end: back to the first
  pub counted_round : {q : Point} {m : ℕ} {b : Bool} → q ≡ nth_point c 0 → b ≡ counts_for p (point ax ay) q → m ≡ from_bool b → length row / 2 ≤ k
      → eqb ((n + m) % 2) 1 ≡ lies_in p c
  unfolding lies_in is_odd
  counted_round e told is l =
      let all : suc s.prior ≡ length c = omega (arith, s.next, s.upto, row_count row s.run.even) in
      let first = sym (next_round (length c) s.prior (omega arith)) in
      ap is_odd (added told is (e ∙ ap (nth_point c) first) ∙ ap (λ (j : ℕ). count j (edge_counts p c)) all)

-- Where the contours of a layer lie in the tables that Cut leaves: Contour i of them has the points of contour i.
use Prim.Native.Nat.{ℕ, zero, suc, ◌+◌, ◌-◌, ◌*◌, ◌≤◌, ◌<◌}
use mathlib.Core.Path.{◌≡◌, refl, sym, ap, ◌∙◌, subst}
use mathlib.Core.List.{List, [], ◌∷◌, ◌++◌, flatten, append_assoc}
use native.Mathlib.Omega.{arith}
use lib.ListN.{length, get_or, take, drop, length-append}
use lib.Seq.{take_at, drop_at}
use lib.IntN.{ℤ, pos, nat_abs}
use Rattle.laws.specs.Tables.{overwrite}
use Rattle.laws.specs.TableLaws.{overwrite_at}
use Rattle.mesh.specs.Corners.{largest, most_points}
use Rattle.mesh.specs.Meshes.{Mesh}
use Rattle.polygons.proofs.FlatLaws.{length_ends}
use Rattle.section.specs.Contours.{names_of, ends_from, ends_of}
use Rattle.section.specs.Layers.{contour_at}
use Rattle.section.proofs.LayerLaws.{contours_few}
use Rattle.cut_points.specs.Points.{points_of}
use Rattle.cut_points.specs.PointLaws.{points_append, length_points_of}
use Rattle.polygons.specs.Flat.{end_before}
use Rattle.contours.specs.Areas.{point_count, area_of}
use Rattle.contours.specs.AreaLaws.{sum_same}
use Rattle.contours.proofs.ContourLaws.{contour_run}
use Rattle.contours.specs.Contours.{prior_end, own_end, contour_of}
use Rattle.contours.specs.ContourLaws.{contour_of_lem, contour_is}
use Rattle.contours.specs.Runs.{PointRun}
use Rattle.list_lines.specs.Limits.{held_entries}
use Rattle.list_lines.specs.Lines.{area_sum}
use Rattle.list_lines.specs.Steps.{areas_in, Summable}

-- ---- names and ends

-- how many names stand before contour i
abbrev names_before : List (List ℕ) → ℕ → ℕ
names_before rs i = length (names_of (take i rs))

before_next : (rs : List (List ℕ)) (i : ℕ) → i < length rs → names_before rs (suc i) ≡ names_before rs i + length (contour_at rs i)
unfolding flatten
before_next [] i h = absurd (omega arith)
before_next (r ∷ rs) zero h = omega (arith, length-append r [])
before_next (r ∷ rs) (suc i) h =
    omega (arith, length-append r (names_of (take (suc i) rs)), length-append r (names_of (take i rs)), before_next rs i (omega arith))

names_split : (rs : List (List ℕ)) (i : ℕ) → i < length rs → names_of rs ≡ names_of (take i rs) ++ (contour_at rs i ++ names_of (drop (suc i) rs))
unfolding flatten
names_split [] i h = absurd (omega arith)
names_split (r ∷ rs) zero h = refl
names_split (r ∷ rs) (suc i) h =
    ap (λ (l : List ℕ). r ++ l) (names_split rs i (omega arith))
    ∙ sym (append_assoc r (names_of (take i rs)) (contour_at rs i ++ names_of (drop (suc i) rs)))

end_at : (k : ℕ) (rs : List (List ℕ)) (i : ℕ) → i < length rs → get_or (ends_from k rs) i 0 ≡ k + names_before rs (suc i)
unfolding ends_from flatten
end_at k [] i h = absurd (omega arith)
end_at k (r ∷ rs) zero h = omega (arith, length-append r [])
end_at k (r ∷ rs) (suc i) h = omega (arith, end_at (k + length r) rs i (omega arith), length-append r (names_of (take (suc i) rs)))

-- ---- the tables

module _ (m : Mesh) (h : ℤ) (rs : List (List ℕ)) (points : List ℤ) (ends : List ℕ) where
  abbrev all : List ℤ
  all = points_of m h (names_of rs)

  abbrev points_after : List ℤ
  points_after = overwrite (points_of m h (names_of rs)) points

  abbrev ends_given : List ℕ
  ends_given = overwrite (ends_of rs) ends

  module _ (i : ℕ) (l : i < length rs) where
    own : own_end ends_given i ≡ names_before rs (suc i)
    own = overwrite_at (ends_of rs) ends i 0 (omega (arith, length_ends 0 rs)) ∙ end_at 0 rs i l ∙ omega arith

    prior : prior_end ends_given i ≡ names_before rs i
    unfolding end_before flatten
    prior = by i l
      where
        by : (k : ℕ) → k < length rs → prior_end ends_given k ≡ names_before rs k
        by zero q = refl
        by (suc k) q = overwrite_at (ends_of rs) ends k 0 (omega (arith, length_ends 0 rs)) ∙ end_at 0 rs k (omega arith) ∙ omega arith

    within : names_before rs (suc i) ≤ length (names_of rs)
    within =
        let later = names_of (drop (suc i) rs) in
        omega (
          arith,
          ap length (names_split rs i l),
          length-append (names_of (take i rs)) (contour_at rs i ++ later),
          length-append (contour_at rs i) later,
          before_next rs i l,
        )

    long : 2 * length (names_of rs) ≤ length points_after
    unfolding overwrite
    long = omega (arith, length-append all (drop (length all) points), length_points_of m h (names_of rs))

    there : i < length ends_given
    unfolding overwrite
    there = omega (arith, length-append (ends_of rs) (drop (length (ends_of rs)) ends), length_ends 0 rs)

    -- the points, by those before contour i, its own and those after it
    abbrev front : List ℤ
    front = points_of m h (names_of (take i rs))

    abbrev its : List ℤ
    its = points_of m h (contour_at rs i)

    abbrev back : List ℤ
    back = points_of m h (names_of (drop (suc i) rs)) ++ drop (length all) points

    split : points_after ≡ front ++ (its ++ back)
    unfolding overwrite
    split =
        let tail = drop (length all) points in
        let rest = points_of m h (names_of (drop (suc i) rs)) in
        ap (λ (ns : List ℕ). points_of m h ns ++ tail) (names_split rs i l)
        ∙ ap (λ (ps : List ℤ). ps ++ tail) (points_append m h (names_of (take i rs)) (contour_at rs i ++ names_of (drop (suc i) rs)))
        ∙ ap (λ (ps : List ℤ). (front ++ ps) ++ tail) (points_append m h (contour_at rs i) (names_of (drop (suc i) rs)))
        ∙ append_assoc front (its ++ rest) tail
        ∙ ap (λ (ps : List ℤ). front ++ ps) (append_assoc its rest tail)

    -- Contour i of the tables is contour i
    pub contour_here : contour_of points_after ends_given i ≡ points_of m h (contour_at rs i)
    contour_here =
        let n = before_next rs i l in
        let size : own_end ends_given i - prior_end ends_given i ≡ length (contour_at rs i) = omega (arith, own, prior, n) in
        contour_is points_after ends_given i
        (contour_of_lem (length points_after) ends_given i
        (record { there = there; rises = omega (arith, own, prior, n); within = omega (arith, own, within, long) }))
        ∙ (λ k. take (2 * size k) (drop (2 * prior k) (split k)))
        ∙ ap (take (2 * length (contour_at rs i))) (drop_at front (its ++ back) (2 * names_before rs i) (length_points_of m h (names_of (take i rs))))
        ∙ take_at its back (2 * length (contour_at rs i)) (length_points_of m h (contour_at rs i))

    -- and a run where the points are in range and few
    pub contour_runs : length (names_of rs) ≤ most_points → ((k : ℕ) → k < length all → nat_abs (get_or all k (pos 0)) ≤ largest)
        → PointRun (contour_of points_after ends_given i)
    contour_runs few ranged =
        contour_run points_after ends_given i (omega (arith, own, within))
        (λ k q.
        let b : k < length all = omega (arith, own, within, length_points_of m h (names_of rs)) in
        subst (λ (z : ℤ). nat_abs z ≤ largest) (sym (overwrite_at all points k (pos 0) b)) (ranged k b))

    pub contour_short : length (names_of rs) ≤ held_entries → point_count (contour_of points_after ends_given i) ≤ held_entries
    contour_short few = omega (arith, ap length contour_here ∙ length_points_of m h (contour_at rs i), before_next rs i l, within)

  -- the sum of the areas
  pub areas_here : areas_in points_after ends_given (length rs) ≡ area_sum m h rs
  unfolding areas_in area_sum
  areas_here =
      sum_same (length rs) (λ i. area_of (contour_of points_after ends_given i)) (λ i. area_of (points_of m h (contour_at rs i)))
      (λ i l. ap area_of (contour_here i l))

  pub summable : ((i : ℕ) → i < length rs → 1 ≤ length (contour_at rs i)) → length (names_of rs) ≤ held_entries
      → ((k : ℕ) → k < length all → nat_abs (get_or all k (pos 0)) ≤ largest)
      → Summable points_after ends_given (length rs)
  summable some few ranged =
      record {
        few = omega (arith, contours_few rs some);
        each = λ i l. contour_runs i l (omega arith) ranged;
        short = λ i l. contour_short i l few;
      }

-- Whether a point lies in a contour depends neither on where the contour starts (`any_start`) nor on which way it runs (`either_way`).
use Prim.Native.Nat.{ℕ, zero, suc, ◌+◌, ◌-◌, ◌≤◌, ◌<◌}
use Rattle.std.specs.Prelude.{◌≡◌, Bool, length}
use Rattle.std.proofs.Math.Path.{refl, ap}
use Rattle.std.proofs.Common.{sym, ◌∙◌, ⊎_elim, arith, add-one, length-append}
use mathlib.Core.List.{List, [], ◌∷◌, ◌++◌, reverse, reverse-cons, append-nil, append_assoc}
use Rattle.std.proofs.lemmas.List.{length-reverse}
use Rattle.std.proofs.Math.ListN.{get_or-append}
use Rattle.std.proofs.Math.Seq.{get_or-append_seam}
use Rattle.laws.specs.Booleans.{split_lt}
use Rattle.laws.specs.Count.{count}
use Rattle.laws.specs.CountLaws.{tally, count_same, count_first, count_back}
use Rattle.polygons.specs.Flat.{Point, no_point, nth_point}
use Rattle.contours.specs.Areas.{next_point}
use Rattle.contours.specs.AreaLaws.{next_on, next_round}
use Rattle.inside.specs.Inside.{counts_for, is_odd, lies_in}
use Rattle.inside.specs.EdgeLaws.{counts_either}

-- ---- points in a ring

module _ (p : Point) where
  -- whether edge i counts, of n points in a ring
  abbrev edge : ℕ → (ℕ → Point) → ℕ → Bool
  edge n at i = counts_for p (at i) (at (next_point n i))

  -- how many do
  abbrev around : ℕ → (ℕ → Point) → ℕ
  around n at = count n (edge n at)

  edge_is : (n : ℕ) (at : ℕ → Point) (i k : ℕ) → next_point n i ≡ k → edge n at i ≡ counts_for p (at i) (at k)
  edge_is n at i k e = ap (λ (j : ℕ). counts_for p (at i) (at j)) e

  -- each point one place earlier
  around_later : (n : ℕ) (at to : ℕ → Point) → ((i : ℕ) → i < n → to i ≡ at (next_point n i)) → around n to ≡ around n at
  unfolding count
  around_later zero at to h = refl
  around_later (suc n) at to h =
      omega (arith, last, count_same n (edge (suc n) to) (λ i. edge (suc n) at (i + 1)) before, count_first n (edge (suc n) at))
    where
      moved : (i k : ℕ) → i < suc n → k < suc n → next_point (suc n) i ≡ k → edge (suc n) to i ≡ edge (suc n) at k
      moved i k l m e = edge_is (suc n) to i k e ∙ (λ t. counts_for p ((h i l ∙ ap at e) t) (h k m t))

      last : tally (edge (suc n) to n) ≡ tally (edge (suc n) at 0)
      last = ap tally (moved n 0 (omega arith) (omega arith) (next_round (suc n) n (omega arith)))

      before : (i : ℕ) → i < n → edge (suc n) to i ≡ edge (suc n) at (i + 1)
      before i l = moved i (i + 1) (omega arith) (omega arith) (next_on (suc n) i (omega arith))

  -- the points from the last to the first: edge i is the edge from the point before to that point, the other way
  around_back : (n : ℕ) (at to : ℕ → Point) → ((i : ℕ) → i < n → to i ≡ at (n - suc i)) → around n to ≡ around n at
  unfolding count
  around_back zero at to h = refl
  around_back (suc n) at to h =
      omega (arith, last, count_same n (edge (suc n) to) (λ i. edge (suc n) at (n - suc i)) before, count_back n (edge (suc n) at))
    where
      from : (i k : ℕ) → i < suc n → suc n - suc i ≡ k → to i ≡ at k
      from i k l e = h i l ∙ ap at e

      turned : (i j k : ℕ) → next_point (suc n) i ≡ j → to i ≡ at (next_point (suc n) k) → to j ≡ at k → edge (suc n) to i ≡ edge (suc n) at k
      turned i j k e f g = edge_is (suc n) to i j e ∙ (λ t. counts_for p (f t) (g t)) ∙ counts_either p (at (next_point (suc n) k)) (at k)

      last : tally (edge (suc n) to n) ≡ tally (edge (suc n) at n)
      last =
          let round = next_round (suc n) n (omega arith) in
          ap tally (turned n 0 n round (from n 0 (omega arith) (omega arith) ∙ ap at (sym round)) (from 0 n (omega arith) (omega arith)))

      before : (i : ℕ) → i < n → edge (suc n) to i ≡ edge (suc n) at (n - suc i)
      before i l =
          let k = n - suc i in
          let on = next_on (suc n) k (omega arith) in
          turned i (i + 1) k (next_on (suc n) i (omega arith)) (from i (k + 1) (omega arith) (omega arith) ∙ ap at (sym on))
          (from (i + 1) k (omega arith) (omega arith))

  -- contours of as many points
  same_around : (c d : List Point) → length c ≡ length d → around (length d) (nth_point c) ≡ around (length d) (nth_point d) → lies_in p c ≡ lies_in p d
  unfolding lies_in
  same_around c d e a = ap is_odd (ap (λ (n : ℕ). around n (nth_point c)) e ∙ a)

-- ---- a point at the end of a list

module _ (q : Point) (c : List Point) where
  long : length (c ++ (q ∷ [])) ≡ length c + 1
  long = length-append c (q ∷ [])

  front : (i : ℕ) → i < length c → nth_point (c ++ (q ∷ [])) i ≡ nth_point c i
  front i l = get_or-append c (q ∷ []) no_point i l

  back : (i : ℕ) → i ≡ length c → nth_point (c ++ (q ∷ [])) i ≡ q
  back i e = ap (nth_point (c ++ (q ∷ []))) e ∙ get_or-append_seam c q [] no_point

-- ---- from another start

module _ (p : Point) where
  -- the first point put last
  start_later : (q : Point) (c : List Point) → lies_in p (c ++ (q ∷ [])) ≡ lies_in p (q ∷ c)
  start_later q c =
      same_around p (c ++ (q ∷ [])) (q ∷ c) (omega (arith, long q c))
      (around_later p n (nth_point (q ∷ c)) (nth_point (c ++ (q ∷ []))) (λ i l. ⊎_elim (on i) (end i l) (split_lt i (length c))))
    where
      n : ℕ
      n = length (q ∷ c)

      on : (i : ℕ) → i < length c → nth_point (c ++ (q ∷ [])) i ≡ nth_point (q ∷ c) (next_point n i)
      on i m = front q c i m ∙ ap (nth_point (q ∷ c)) (sym (next_on n i (omega arith) ∙ add-one i))

      end : (i : ℕ) → i < n → length c ≤ i → nth_point (c ++ (q ∷ [])) i ≡ nth_point (q ∷ c) (next_point n i)
      end i l m = back q c i (omega arith) ∙ ap (nth_point (q ∷ c)) (sym (next_round n i (omega arith)))

  -- the same points, from another start
  pub any_start : (a b : List Point) → lies_in p (a ++ b) ≡ lies_in p (b ++ a)
  any_start [] b = ap (lies_in p) (sym (append-nil b))
  any_start (q ∷ a) b =
      sym (start_later q (a ++ b))
      ∙ ap (lies_in p) (append_assoc a b (q ∷ []))
      ∙ any_start a (b ++ (q ∷ []))
      ∙ ap (lies_in p) (append_assoc b (q ∷ []) a)

-- ---- the other way round

reverse_at : (c : List Point) (i : ℕ) → i < length c → nth_point (reverse c) i ≡ nth_point c (length c - suc i)
reverse_at [] i l = absurd (omega arith)
reverse_at (q ∷ c) i l =
    ap (λ (d : List Point). nth_point d i) (reverse-cons q c)
    ∙ ⊎_elim (λ m. on m (reverse_at c i (omega (arith, many)))) end (split_lt i (length (reverse c)))
  where
    many : length (reverse c) ≡ length c
    many = length-reverse c

    on : i < length (reverse c) → nth_point (reverse c) i ≡ nth_point c (length c - suc i)
        → nth_point (reverse c ++ (q ∷ [])) i ≡ nth_point (q ∷ c) (length (q ∷ c) - suc i)
    on m before =
        let k : suc (length c - suc i) ≡ length (q ∷ c) - suc i = omega (arith, many) in
        front q (reverse c) i m ∙ before ∙ ap (nth_point (q ∷ c)) k

    end : length (reverse c) ≤ i → nth_point (reverse c ++ (q ∷ [])) i ≡ nth_point (q ∷ c) (length (q ∷ c) - suc i)
    end m =
        let k : 0 ≡ length (q ∷ c) - suc i = omega (arith, many) in
        back q (reverse c) i (omega (arith, many)) ∙ ap (nth_point (q ∷ c)) k

-- the same points, the other way round
pub either_way : (p : Point) (c : List Point) → lies_in p (reverse c) ≡ lies_in p c
either_way p c = same_around p (reverse c) c (length-reverse c) (around_back p (length c) (nth_point c) (nth_point (reverse c)) (reverse_at c))

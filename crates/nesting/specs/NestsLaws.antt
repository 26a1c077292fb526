-- Laws of depth and parent: the parent is one of the contours that are counted, the smallest of them, the lower number at a tie;
-- there is none exactly at depth 0; a depth is below the number of contours. Both are found contour by contour.
use Prim.Native.Nat.{ℕ, zero, suc, ◌+◌, ◌≤◌, ◌<◌}
use Rattle.std.specs.Prelude.{◌≡◌, Bool, ◌&&◌, List, ◌⊎◌, ◌↔◌, eqb, length}
use Rattle.std.proofs.Math.Path.{refl, sym, ap}
use Rattle.std.proofs.Common.{◌∙◌, subst, ⊎_elim, arith, add-one, not-suc-le-zero}
use Rattle.std.proofs.Math.Bool.{true, false, not, cond}
use Rattle.std.proofs.Math.Logic.{inl, inr}
use borrow.Author.Tests.{ltb-true, ltb-false, lt-ltb, le-ltb, eq-eqb, ne_eqb, not-true}
use Rattle.std.proofs.Math.Dec.{ltb}
use Rattle.laws.specs.Booleans.{clash, is_false, and_parts, and_of, not_of, split_lt}
use Rattle.laws.specs.Count.{count}
use Rattle.laws.specs.CountLaws.{count_lt, count_bound, count_one, count_none, count_nothing, count_some}
use Rattle.laws.specs.Least.{least, some}
use Rattle.laws.specs.LeastLaws.{least_is, least_none, some_of, some_at}
use Rattle.polygons.specs.Flat.{Point, nth_point}
use Rattle.inside.specs.Inside.{lies_in}
use Rattle.nesting.specs.Nests.{nth_contour, held_by, depth_of, size_of, smallest, no_parent, parent_of}
use Rattle.nesting.specs.Steps.{closer, next_depth, next_parent}

module _ (cs : List (List Point)) (i : ℕ) where
  -- ---- among the first m contours

  -- the depth, and the parent
  abbrev pub depth_to : ℕ → ℕ
  depth_to m = count m (held_by cs i)

  unfoldable pub parent_to : ℕ → ℕ
  parent_to zero = no_parent
  parent_to (suc m) = next_parent cs m i (parent_to m)

  -- q is the smallest of those that hold i, the lower number at a tie
  pub record ParentAmong (m q : ℕ) : Type 0 where
    pub there : q < m
    pub holding : held_by cs i q ≡ true
    pub least_size : (k : ℕ) → k < m → held_by cs i k ≡ true → size_of cs q ≤ size_of cs k
    pub first : (k : ℕ) → k < q → held_by cs i k ≡ true → size_of cs q < size_of cs k

  -- none holds i
  abbrev pub UnheldTo : ℕ → Type 0
  UnheldTo m = (k : ℕ) → k < m → held_by cs i k ≡ false

  -- q stands for the parent
  abbrev pub FoundTo : ℕ → ℕ → Type 0
  FoundTo m q = (UnheldTo m × (q ≡ no_parent)) ⊎ ParentAmong m q

  -- ---- one contour more: m

  -- what holds of the contours before m and of m
  upto : (P : ℕ → Type 0) (m : ℕ) → ((k : ℕ) → k < m → P k) → P m → (k : ℕ) → k < suc m → P k
  upto P m f p k l = ⊎_elim (f k) (λ g. let e : m ≡ k = omega arith in subst P e p) (split_lt k m)

  -- it does not hold i
  found_kept : (m q : ℕ) → held_by cs i m ≡ false → FoundTo m q → FoundTo (suc m) q
  found_kept m q e (inl u) = inl (upto (λ (k : ℕ). held_by cs i k ≡ false) m u.0 e, u.1)
  found_kept m q e (inr s) =
      inr
      (record {
        there = omega (arith, s.there);
        holding = s.holding;
        least_size = upto (λ (k : ℕ). held_by cs i k ≡ true → size_of cs q ≤ size_of cs k) m s.least_size (λ h. absurd (clash h e));
        first = s.first;
      })

  -- it is the first that does
  found_first : (m : ℕ) → held_by cs i m ≡ true → UnheldTo m → ParentAmong (suc m) m
  found_first m e u =
      record {
        there = omega arith;
        holding = e;
        least_size =
            upto (λ (k : ℕ). held_by cs i k ≡ true → size_of cs m ≤ size_of cs k) m (λ k l h. absurd (clash h (u k l))) (λ h. omega arith);
        first = λ k l h. absurd (clash h (u k l));
      }

  -- it does, and is smaller than q
  found_smaller : (m q : ℕ) → held_by cs i m ≡ true → size_of cs m < size_of cs q → ParentAmong m q → ParentAmong (suc m) m
  found_smaller m q e lt s =
      record {
        there = omega arith;
        holding = e;
        least_size =
            upto (λ (k : ℕ). held_by cs i k ≡ true → size_of cs m ≤ size_of cs k) m (λ k l h. omega (arith, s.least_size k l h)) (λ h. omega arith);
        first = λ k l h. omega (arith, s.least_size k l h);
      }

  -- it does, and is not smaller
  found_larger : (m q : ℕ) → size_of cs q ≤ size_of cs m → ParentAmong m q → ParentAmong (suc m) q
  found_larger m q le s =
      record {
        there = omega (arith, s.there);
        holding = s.holding;
        least_size = upto (λ (k : ℕ). held_by cs i k ≡ true → size_of cs q ≤ size_of cs k) m s.least_size (λ h. le);
        first = s.first;
      }

  found_next : (m q : ℕ) → m ≤ no_parent → FoundTo m q → FoundTo (suc m) (next_parent cs m i q)
  unfolding next_parent closer
  found_next m q few f = by (held_by cs i m) refl f
    where
      by : (b : Bool) → held_by cs i m ≡ b → FoundTo m q
          → FoundTo (suc m) (cond b (cond (cond (eqb q no_parent) true (ltb (size_of cs m) (size_of cs q))) m q) q)
      by false e g = found_kept m q e g
      by true e (inl u) = rw (eq-eqb q no_parent u.1) (inr (found_first m e u.0))
      by true e (inr s) = rw (ne_eqb q no_parent (λ r. omega (arith, s.there))) (sized (ltb (size_of cs m) (size_of cs q)) refl)
        where
          sized : (t : Bool) → ltb (size_of cs m) (size_of cs q) ≡ t → FoundTo (suc m) (cond t m q)
          sized true g = inr (found_smaller m q e (ltb-true _ _ g) s)
          sized false g = inr (found_larger m q (ltb-false _ _ g) s)

  -- the parent among the first m is found
  pub found_to : (m : ℕ) → m ≤ suc no_parent → FoundTo m (parent_to m)
  unfolding parent_to
  found_to zero few = inl ((λ k l. absurd (not-suc-le-zero l)), refl)
  found_to (suc m) few = found_next m (parent_to m) (omega arith) (found_to m (omega arith))

  -- what the next contour makes of depth and parent
  pub depth_more : (m : ℕ) → next_depth cs m i (depth_to m) ≡ depth_to (m + 1)
  unfolding next_depth
  depth_more m = by (held_by cs i m) refl
    where
      by : (b : Bool) → held_by cs i m ≡ b → cond (held_by cs i m) (depth_to m + 1) (depth_to m) ≡ depth_to (m + 1)
      by true e = rw e (count_one m (held_by cs i) e)
      by false e = rw e (count_none m (held_by cs i) e)

  pub parent_more : (m : ℕ) → next_parent cs m i (parent_to m) ≡ parent_to (m + 1)
  unfolding parent_to
  parent_more m = ap parent_to (sym (add-one m))

  -- ---- among all

  abbrev n : ℕ
  n = length cs

  -- contour k holds i and is smaller than j
  abbrev under : ℕ → ℕ → Bool
  under j k = held_by cs i k && ltb (size_of cs k) (size_of cs j)

  smallest_of : (j : ℕ) → held_by cs i j ≡ true → ((k : ℕ) → k < n → held_by cs i k ≡ true → size_of cs j ≤ size_of cs k) → smallest cs i j ≡ true
  unfolding smallest
  smallest_of j e h = and_of e (not_of (is_false (some n (under j)) none_under))
    where
      none_under : some n (under j) ≡ true → ⊥
      none_under s =
          let k = least n (under j) in
          let at = some_at n (under j) s in
          let both = and_parts (held_by cs i k) (ltb (size_of cs k) (size_of cs j)) at.1 in
          omega (arith, h k at.0 both.0, ltb-true (size_of cs k) (size_of cs j) both.1)

  not_smallest : (j q : ℕ) → q < n → held_by cs i q ≡ true → size_of cs q < size_of cs j → smallest cs i j ≡ false
  unfolding smallest
  not_smallest j q l e lt =
      is_false (smallest cs i j)
      (λ s. clash (some_of n (under j) q l (and_of e (lt-ltb _ _ lt))) (not-true (some n (under j)) (and_parts (held_by cs i j) _ s).1))

  unheld_smallest : (j : ℕ) → held_by cs i j ≡ false → smallest cs i j ≡ false
  unfolding smallest
  unheld_smallest j e = is_false (smallest cs i j) (λ s. clash (and_parts _ _ s).0 e)

  -- what was found among all is the parent
  pub found_parent : (q : ℕ) → FoundTo n q → q ≡ parent_of cs i
  unfolding parent_of some
  found_parent q (inl u) =
      u.1 ∙ sym (ap (λ (b : Bool). cond b (least n (smallest cs i)) no_parent) (le-ltb (least n (smallest cs i)) n (omega (arith, none))))
    where
      none : least n (smallest cs i) ≡ n
      none = least_none n (smallest cs i) (λ k l. unheld_smallest k (u.0 k l))
  found_parent q (inr s) =
      sym (ap (λ (b : Bool). cond b (least n (smallest cs i)) no_parent) (lt-ltb (least n (smallest cs i)) n (omega (arith, is, s.there))) ∙ is)
    where
      before : (k : ℕ) → k < q → (b : Bool) → held_by cs i k ≡ b → smallest cs i k ≡ false
      before k l true e = not_smallest k q s.there s.holding (s.first k l e)
      before k l false e = unheld_smallest k e

      is : least n (smallest cs i) ≡ q
      is = least_is n (smallest cs i) q s.there (smallest_of q s.holding s.least_size) (λ k l. before k l (held_by cs i k) refl)

  -- ---- what depth and parent promise

  -- a contour does not hold itself, so the depth of one of them is below their number
  pub not_itself : held_by cs i i ≡ false
  unfolding held_by
  not_itself = ap (λ (b : Bool). not b && lies_in (nth_point (nth_contour cs i) 0) (nth_contour cs i)) (eq-eqb i i refl)

  pub depth_few : i < n → depth_of cs i < n
  unfolding depth_of
  depth_few l =
      let all : count n (λ k. true) ≤ n = count_bound n (λ k. true) in
      omega (arith, all, count_lt (held_by cs i) (λ k. true) n (λ k h e. refl) i l not_itself refl)

  -- of contours whose numbers are below that for no parent
  module _ (few : n ≤ no_parent) where
    pub parent_to_lem : parent_to n ≡ parent_of cs i
    parent_to_lem = found_parent (parent_to n) (found_to n (omega arith))

    parent_found : FoundTo n (parent_of cs i)
    parent_found = subst (FoundTo n) parent_to_lem (found_to n (omega arith))

    -- a parent is one of those counted, the smallest, the lower number at a tie
    pub parent_smallest : (parent_of cs i ≡ no_parent → ⊥) → ParentAmong n (parent_of cs i)
    parent_smallest h = ⊎_elim (λ u. absurd (h u.1)) (λ s. s) parent_found

    -- no parent exactly at depth 0
    pub none_exactly : (depth_of cs i ≡ 0) ↔ (parent_of cs i ≡ no_parent)
    unfolding depth_of
    none_exactly = (λ e. to e parent_found, λ e. from e parent_found)
      where
        to : count n (held_by cs i) ≡ 0 → FoundTo n (parent_of cs i) → parent_of cs i ≡ no_parent
        to e (inl u) = u.1
        to e (inr s) = absurd (omega (arith, count_some n (held_by cs i) (parent_of cs i) s.there s.holding))

        from : parent_of cs i ≡ no_parent → FoundTo n (parent_of cs i) → count n (held_by cs i) ≡ 0
        from e (inl u) = count_nothing n (held_by cs i) u.0
        from e (inr s) = absurd (omega (arith, s.there))

    -- a contour that no other holds has depth 0 and no parent
    pub unheld_none : UnheldTo n → (depth_of cs i ≡ 0) × (parent_of cs i ≡ no_parent)
    unfolding depth_of
    unheld_none u = let e = count_nothing n (held_by cs i) u in (e, none_exactly.0 e)

-- Laws of the crossings of all heights: counted by heights or by corners they are as many.
use Rattle.std.specs.Prelude.{ℕ, zero, suc, ◌+◌, ◌-◌, ◌≤◌, ◌<◌, min, ◌≡◌, refl, Bool, true, false, not, cond, ◌&&◌, List, length, get_or, ℤ, ◌<ℤ◌}
use Rattle.std.proofs.Common.{sym, ap, ◌∙◌, subst, ⊎_elim, arith}
use Rattle.std.proofs.lemmas.Bool.{not-true}
use Rattle.std.specs.Int.Signed.{lt_z}
use Rattle.laws.specs.Booleans.{clash, and_parts, split_lt}
use Rattle.laws.specs.Integers.{le_in, lt_in}
use Rattle.laws.specs.Count.{count as tally}
use Rattle.file_formats.specs.Numbers.{Word}
use Rattle.file_formats.specs.LayerFile.{most_layers}
use Rattle.mesh.specs.Corners.{start_of, end_of, z_of, most_corners}
use Rattle.section.specs.Section.{below, rising}
use Rattle.section.specs.Layers.{Distinct}
use Rattle.section.specs.RingLaws.{pigeonhole}
use Rattle.all_active.specs.Lists.{CornerSet, active_at}
use Rattle.all_active.specs.Levels.{FirstAbove, LevelOf}
use Rattle.all_active.specs.LevelLaws.{lt_yes, lt_no, above_later, level_none, level_high, level_here}
use Rattle.all_active.specs.Totals.{sum_to, EdgeRises, RiseTotal, CrossingTotal}

-- ---- sums

sum_none : (m : ℕ) → sum_to m (λ k. 0) ≡ 0
unfolding sum_to
sum_none zero = refl
sum_none (suc m) = omega (arith, sum_none m)

sum_both : (m : ℕ) (f g : ℕ → ℕ) → sum_to m (λ k. f k + g k) ≡ sum_to m f + sum_to m g
unfolding sum_to
sum_both zero f g = omega arith
sum_both (suc m) f g = omega (arith, sum_both m f g)

sum_ticks : (m : ℕ) (t : ℕ → Bool) → sum_to m (λ k. cond (t k) 1 0) ≡ tally m t
unfolding sum_to tally
sum_ticks zero t = refl
sum_ticks (suc m) t = ap (λ (x : ℕ). cond (t m) 1 0 + x) (sum_ticks m t)

-- counted by heights or by corners
pub sum_across : (m n : ℕ) (p : ℕ → ℕ → Bool) → sum_to m (λ k. tally n (p k)) ≡ sum_to n (λ c. tally m (λ k. p k c))
unfolding sum_to tally
sum_across m zero p = sum_none m
sum_across m (suc n) p =
    sum_both m (λ k. cond (p k n) 1 0) (λ k. tally n (p k))
    ∙ (λ i. sum_ticks m (λ k. p k n) i + sum_across m n p i)

-- ---- distinct members of a set are no more than it has

rank_less : (p : CornerSet) (x y : ℕ) → x < y → p x ≡ true → tally x p < tally y p
unfolding tally
rank_less p x zero l e = absurd (omega arith)
rank_less p x (suc y) l e = ⊎_elim
    (λ h. by (p y) (rank_less p x y h e))
    (λ h. let q : x ≡ y = omega arith in last (p y) (ap p (sym q) ∙ e) (ap (λ (k : ℕ). tally k p) q))
    (split_lt x y)
  where
    by : (b : Bool) → tally x p < tally y p → tally x p < cond b 1 0 + tally y p
    by true h = omega arith
    by false h = omega arith

    last : (b : Bool) → b ≡ true → tally x p ≡ tally y p → tally x p < cond b 1 0 + tally y p
    last true q h = omega arith
    last false q h = absurd (clash q refl)

pub distinct_tally : (p : CornerSet) (n : ℕ) (l : List ℕ) → Distinct l → ((i : ℕ) → i < length l → (get_or l i 0 < n) × (p (get_or l i 0) ≡ true))
    → length l ≤ tally n p
distinct_tally p n l once all = ⊎_elim (λ h. absurd (more h)) (λ h. h) (split_lt (tally n p) (length l))
  where
    more : tally n p < length l → ⊥
    more m =
        let r = pigeonhole (tally n p) (λ i. tally (get_or l i 0) p) (λ i h. let a = all i (omega arith) in rank_less p (get_or l i 0) n a.0 a.1) in
        let a : r.first < length l = omega (arith, r.order, r.bound) in
        let b : r.second < length l = omega (arith, r.bound) in
        once r.first r.second r.order b (same (get_or l r.first 0) (get_or l r.second 0) (all r.first a).1 (all r.second b).1 r.equal)
      where
        same : (x y : ℕ) → p x ≡ true → p y ≡ true → tally x p ≡ tally y p → x ≡ y
        same x y e f q = ⊎_elim
            (λ h. absurd (omega (arith, rank_less p x y h e)))
            (λ h. ⊎_elim (λ k. absurd (omega (arith, rank_less p y x k f))) (λ k. omega arith) (split_lt y x))
            (split_lt x y)

-- ---- an edge

-- a test that passes from a to before b only
tally_range : (m a b : ℕ) (t : ℕ → Bool) → ((k : ℕ) → k < m → t k ≡ true → (a ≤ k) × (k < b)) → tally m t ≤ min m b - a
unfolding tally
tally_range zero a b t h = omega arith
tally_range (suc m) a b t h = by (t m) (h m (omega arith)) (tally_range m a b t (λ k l. h k (omega arith)))
  where
    by : (c : Bool) → (c ≡ true → (a ≤ m) × (m < b)) → tally m t ≤ min m b - a → cond c 1 0 + tally m t ≤ min (suc m) b - a
    by true f g = let q = f refl in omega (arith, q.0, q.1)
    by false f g = omega arith

module _ (hs : ℕ → ℤ) (count : ℕ) (few : count ≤ most_layers) (rises : (i j : ℕ) → i < j → j < count → hs i <ℤ hs j) (z y : ℤ) where
  -- an edge that is at no height both below it at its start and not at its end
  rises_never : ((k : ℕ) → k < count → lt_z z (hs k) ≡ true → lt_z y (hs k) ≡ false → ⊥) → EdgeRises hs count z y count 0
  rises_never none =
      record {
        begins = record { upto = omega arith; there = λ h. absurd (omega arith); only = λ j l m. absurd (none j l m.start_below m.end_not) };
        most = omega (arith, tally_range count 0 0 (λ k. lt_z z (hs k) && not (lt_z y (hs k))) nowhere);
        few = omega arith;
      }
    where
      nowhere : (k : ℕ) → k < count → (lt_z z (hs k) && not (lt_z y (hs k))) ≡ true → (0 ≤ k) × (k < 0)
      nowhere k l t = let p = and_parts (lt_z z (hs k)) (not (lt_z y (hs k))) t in absurd (none k l p.0 (not-true _ p.1))

  pub rises_flat : lt_z z y ≡ false → EdgeRises hs count z y count 0
  rises_flat e = rises_never (λ k l a b. omega (arith, le_in (lt_no z y e), lt_in (lt_yes z (hs k) a), le_in (lt_no y (hs k) b)))

  -- it ends below the first height
  pub rises_below : lt_z y (hs 0) ≡ true → EdgeRises hs count z y count 0
  rises_below e = rises_never (λ k l a b. clash e (above_later hs count rises y 0 k (omega arith) l b))

  -- it starts at the last one or above it
  pub rises_above : lt_z z (hs (count - 1)) ≡ false → EdgeRises hs count z y count 0
  rises_above e = rises_never (λ k l a b. clash a (above_later hs count rises z k (count - 1) (omega arith) (omega arith) e))

  module _ {a b : ℕ} (f : FirstAbove hs count 0 z a) (g : FirstAbove hs count a y b) where
    between : (k : ℕ) → k < count → (lt_z z (hs k) && not (lt_z y (hs k))) ≡ true → (a ≤ k) × (k < b)
    between k l t =
        let p = and_parts (lt_z z (hs k)) (not (lt_z y (hs k))) t in (
          ⊎_elim (λ h. absurd (clash p.0 (f.before k (omega arith) h))) (λ h. h) (split_lt k a),
          ⊎_elim (λ h. h) (λ h. absurd (clash (g.there (omega arith)) (above_later hs count rises y b k h l (not-true _ p.1)))) (split_lt k b),
        )

    counted : tally count (λ k. lt_z z (hs k) && not (lt_z y (hs k))) ≤ b - a
    counted = omega (arith, tally_range count a b (λ k. lt_z z (hs k) && not (lt_z y (hs k))) between, g.upto)

    pub rises_none : b ≤ a → EdgeRises hs count z y count 0
    rises_none h = record { begins = ⊎_elim high (level_none hs count rises z y a f) (split_lt a count); most = omega (arith, counted); few = omega arith }
      where
        high : a < count → LevelOf hs count z y count
        high l =
            let q : b ≡ a = omega (arith, g.from) in
            level_high hs count rises z y a f l (subst (λ (k : ℕ). lt_z y (hs k) ≡ true) q (g.there (omega arith)))

    pub rises_here : a < b → Word z → EdgeRises hs count z y a (b - a)
    rises_here h w =
        record {
          begins = level_here hs count rises z y a f (omega (arith, g.upto)) w (g.before a (omega arith) h);
          most = counted;
          few = omega (arith, g.upto);
        }

-- ---- all corners

module _ (coords : List ℤ) (corners : List ℕ) (hs : ℕ → ℤ) (count : ℕ) where
  pub total_start : RiseTotal coords corners hs count (length corners) 0
  total_start = record { most = omega arith; few = omega arith }

  pub total_more : {c total level r : ℕ} → RiseTotal coords corners hs count (suc c) total
      → EdgeRises hs count (z_of coords (start_of corners c)) (z_of coords (end_of corners c)) level r → RiseTotal coords corners hs count c (total + r)
  unfolding sum_to rising below
  total_more t e = record { most = omega (arith, t.most, e.most); few = omega (arith, t.few, e.few) }

  -- all heights have no more crossings than that
  pub total_end : {total : ℕ} → length corners ≤ most_corners → RiseTotal coords corners hs count 0 total → CrossingTotal coords corners hs count total
  unfolding sum_to
  total_end few t =
      record { most = omega (arith, t.most, sum_across count (length corners) (λ k. active_at coords corners (hs k))); few = omega (arith, t.few) }

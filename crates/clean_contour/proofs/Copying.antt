-- The loops of `copy_run` and `move_run`, which differ in where they read: points go from one table to a place in another, or within one.
use Prim.Native.Nat.{ℕ, suc, ◌+◌, ◌*◌, ◌≤◌, ◌<◌}
use mathlib.Core.Path.{◌≡◌, sym, ap, ◌∙◌, subst}
use mathlib.Core.Bool.{Bool, true, false}
use mathlib.Core.List.{List, [], ◌∷◌}
use native.Mathlib.Omega.{arith}
use lib.ListN.{length, set, drop}
use lib.Seq.{sets}
use lib.IntN.{ℤ}
use Rattle.polygons.specs.Flat.{Point, numbers_of}
use Rattle.cleaning.specs.Cleaning.{same_point, unrepeated}
use Rattle.cleaning.specs.PointLaws.{unrepeated_same, unrepeated_new}
use Rattle.clean_contour.specs.Parts.{point_in, contour_part, with_point, HasPoints, without_repeats, PointsStand}
use Rattle.clean_contour.specs.PartLaws.{part_none, part_next, ahead_part, ahead_more, ahead_point, length_put, put_ahead}

-- a point written before others
pub put_first : (t : List ℤ) (i : ℕ) (p : Point) (c : List Point) → sets (with_point t i p) (2 * (i + 1)) (numbers_of c) ≡ sets t (2 * i) (numbers_of (p ∷ c))
unfolding numbers_of
put_first t i p c =
    let k : 2 * i + 1 ≡ suc (2 * i) = omega arith in
    let m : 2 * (i + 1) ≡ suc (suc (2 * i)) = omega arith in
    λ j. sets (set (set t (2 * i) p.x) (k j) p.y) (m j) (numbers_of c)

-- what is left of the points from i on, where p stands before them
abbrev left : List ℤ → ℕ → Point → ℕ → List Point
left source end p i = unrepeated p (contour_part source i end)

-- points go to a table, which was table₀, from i₀ on to `to₀` on; those from i on, after the point p, go to `to` on
pub record RunCopying (source table₀ : List ℤ) (end : ℕ) (p₀ : Point) (to₀ i₀ : ℕ) (table : List ℤ) (p : Point) (to i : ℕ) : Type 0 where
  pub upto : i ≤ end
  pub behind : to ≤ i
  pub there : HasPoints source end
  pub room : HasPoints table end
  pub size : length table ≡ length table₀
  pub ends : to + length (left source end p i) ≡ to₀ + length (left source end p₀ i₀)
  pub goes : sets table (2 * to) (numbers_of (left source end p i)) ≡ sets table₀ (2 * to₀) (numbers_of (left source end p₀ i₀))
  pub ahead : drop (2 * i) table ≡ drop (2 * i) table₀

module _ {source table₀ : List ℤ} {end : ℕ} {p₀ : Point} {to₀ i₀ : ℕ} {table : List ℤ} {p : Point} {to i : ℕ}
    (s : RunCopying source table₀ end p₀ to₀ i₀ table p to i) where
  -- the next point, read in the table itself
  pub copy_read : table₀ ≡ source → point_in table i ≡ point_in source i
  copy_read e = ahead_point table source i (s.ahead ∙ ap (drop (2 * i)) e)

  module _ (l : i < end) {q : Point} (q_is : q ≡ point_in source i) {b : Bool} (e : b ≡ same_point p q) where
    next : contour_part source i end ≡ q ∷ contour_part source (i + 1) end
    next = part_next source i end l s.there ∙ ap (λ (r : Point). r ∷ contour_part source (i + 1) end) (sym q_is)

    further : drop (2 * (i + 1)) table ≡ drop (2 * (i + 1)) table₀
    further = ahead_more table table₀ (2 * i) (2 * (i + 1)) (omega arith) s.ahead

    -- it equals the one before
    pub copy_skip : b ≡ true → RunCopying source table₀ end p₀ to₀ i₀ table p to (i + 1)
    copy_skip h =
        let same_left : left source end p i ≡ left source end p (i + 1) =
        ap (unrepeated p) next ∙ unrepeated_same p q (contour_part source (i + 1) end) (sym e ∙ h) in
        record {
          upto = omega arith;
          behind = omega (arith, s.behind);
          there = s.there;
          room = s.room;
          size = s.size;
          ends = ap (λ (c : List Point). to + length c) (sym same_left) ∙ s.ends;
          goes = ap (λ (c : List Point). sets table (2 * to) (numbers_of c)) (sym same_left) ∙ s.goes;
          ahead = further;
        }

    -- or goes after it
    pub copy_next : b ≡ false → {table' : List ℤ} → table' ≡ with_point table to q → RunCopying source table₀ end p₀ to₀ i₀ table' q (to + 1) (i + 1)
    copy_next h w = subst (λ (t : List ℤ). RunCopying source table₀ end p₀ to₀ i₀ t q (to + 1) (i + 1)) (sym w) written
      where
        new : left source end p i ≡ q ∷ left source end q (i + 1)
        new = ap (unrepeated p) next ∙ unrepeated_new p q (contour_part source (i + 1) end) (sym e ∙ h)

        written : RunCopying source table₀ end p₀ to₀ i₀ (with_point table to q) q (to + 1) (i + 1)
        written =
            record {
              upto = omega arith;
              behind = omega (arith, s.behind);
              there = s.there;
              room = omega (arith, length_put table to q, s.room);
              size = length_put table to q ∙ s.size;
              ends = omega (arith, ap length new, s.ends);
              goes =
                  put_first table to q (left source end q (i + 1))
                  ∙ ap (λ (c : List Point). sets table (2 * to) (numbers_of c)) (sym new)
                  ∙ s.goes;
              ahead = put_ahead table to q (2 * (i + 1)) (omega (arith, s.behind)) ∙ further;
            }

  -- all have gone
  pub copy_end : end ≤ i → PointsStand (left source end p₀ i₀) table₀ to₀ to table
  unfolding unrepeated numbers_of
  copy_end h =
      let none : left source end p i ≡ [] = ap (unrepeated p) (part_none source i end h) in
      record {
        end = omega (arith, s.ends, ap length none);
        holds = ap (λ (c : List Point). sets table (2 * to) (numbers_of c)) (sym none) ∙ s.goes;
      }

-- with the first point, which was written before them; the points are those of the same table or of another that agrees there
pub run_stands : (points source : List ℤ) {table table₁ table₂ : List ℤ} {from : ℕ} (end : ℕ) {at r : ℕ} (p : Point) → from < end → HasPoints points end
    → p ≡ point_in points from → contour_part source (from + 1) end ≡ contour_part points (from + 1) end → table₁ ≡ with_point table at p
    → PointsStand (left source end p (from + 1)) table₁ (at + 1) r table₂
    → PointsStand (without_repeats (contour_part points from end)) table at r table₂
unfolding without_repeats
run_stands points source {table} {table₁} {table₂} {from} end {at} {r} p l w e g t s =
    let all : p ∷ left source end p (from + 1) ≡ without_repeats (contour_part points from end) =
    (λ i. e i ∷ unrepeated (e i) (g i)) ∙ ap without_repeats (sym (part_next points from end l w)) in
    subst (λ (c : List Point). PointsStand c table at r table₂) all
    (record {
      end = omega (arith, s.end);
      holds =
          s.holds
          ∙ ap (λ (u : List ℤ). sets u (2 * (at + 1)) (numbers_of (left source end p (from + 1)))) t
          ∙ put_first table at p (left source end p (from + 1));
    })

-- the first point, written before those after it, leaves them
pub moved_part : (points : List ℤ) (from end at : ℕ) (p : Point) {points₁ : List ℤ} → at ≤ from → points₁ ≡ with_point points at p
    → contour_part points₁ (from + 1) end ≡ contour_part points (from + 1) end
moved_part points from end at p h t =
    ap (λ (u : List ℤ). contour_part u (from + 1) end) t
    ∙ ahead_part (with_point points at p) points (from + 1) end (put_ahead points at p (2 * (from + 1)) (omega arith))

-- The loops that look through a contour: `first_other` forward, `trimmed_end` backward, and what `is_kept` makes of two of the first.
use Prim.Native.Nat.{ℕ, ◌+◌, ◌-◌, ◌≤◌, ◌<◌}
use mathlib.Core.Path.{◌≡◌, refl, sym, ap, ◌∙◌}
use mathlib.Core.Bool.{Bool, true, false, ◌||◌}
use mathlib.Core.List.{List, [], ◌∷◌, ◌++◌}
use native.Mathlib.Omega.{arith}
use borrow.Author.Tests.{ltb-true, ltb-false}
use lib.Dec.{ltb, leb}
use lib.IntN.{ℤ}
use Rattle.polygons.specs.Flat.{Point}
use Rattle.cleaning.specs.Cleaning.{same_point, trimmed, variety, fewest_different, kept}
use Rattle.cleaning.proofs.VarietyLaws.{kept_is}
use Rattle.clean_contour.specs.Parts.{point_in, contour_part, HasPoints, beyond, Found, Trimmed}
use Rattle.clean_contour.specs.PartLaws.{part_none, part_next, part_last}
use Rattle.clean_contour.specs.ScanLaws.{beyond_either, beyond_neither, beyond_none, three_one, three_two, three_found, trimmed_last, trimmed_stop}

-- ---- forward: all before i are point a or point b

pub record Seeking (points : List ℤ) (from end a b i : ℕ) : Type 0 where
  pub onward : from ≤ i
  pub upto : i ≤ end
  pub rest : beyond (point_in points a) (point_in points b) (contour_part points i end)
      ≡ beyond (point_in points a) (point_in points b) (contour_part points from end)

module _ {points : List ℤ} {from end a b i : ℕ} (w : HasPoints points end) (s : Seeking points from end a b i) where
  pub seek_end : end ≤ i → Found points from end a b i
  seek_end h =
      let n = part_none points i end h in
      record {
        onward = s.onward;
        upto = s.upto;
        rest = n ∙ sym (beyond_none (point_in points a) (point_in points b)) ∙ ap (beyond (point_in points a) (point_in points b)) (sym n) ∙ s.rest;
      }

  module _ {r : Bool} (l : i < end) (e : r ≡ (same_point (point_in points a) (point_in points i) || same_point (point_in points b) (point_in points i))) where
    abbrev next : contour_part points i end ≡ point_in points i ∷ contour_part points (i + 1) end
    next = part_next points i end l w

    pub seek_hit : r ≡ false → Found points from end a b i
    seek_hit h =
        record {
          onward = s.onward;
          upto = s.upto;
          rest =
              next
              ∙ sym (beyond_neither (point_in points a) (point_in points b) (point_in points i) (contour_part points (i + 1) end) (sym e ∙ h))
              ∙ ap (beyond (point_in points a) (point_in points b)) (sym next)
              ∙ s.rest;
        }

    pub seek_miss : r ≡ true → Seeking points from end a b (i + 1)
    seek_miss h =
        record {
          onward = omega (arith, s.onward);
          upto = omega arith;
          rest =
              sym (beyond_either (point_in points a) (point_in points b) (point_in points i) (contour_part points (i + 1) end) (sym e ∙ h))
              ∙ ap (beyond (point_in points a) (point_in points b)) (sym next)
              ∙ s.rest;
        }

-- ---- whether a contour is kept

module _ (points : List ℤ) (from end : ℕ) (w : HasPoints points end) where
  pub kept_none : from ≡ end → false ≡ kept (contour_part points from end)
  unfolding variety
  kept_none e = sym (kept_is (contour_part points from end)
      ∙ ap (λ (c : List Point). leb fewest_different (variety c)) (part_none points from end (omega arith)))

  module _ (l : from < end) where
    abbrev contour : List Point
    contour = contour_part points (from + 1) end

    by_first : {b : Bool} → b ≡ leb fewest_different (variety (point_in points from ∷ contour)) → b ≡ kept (contour_part points from end)
    by_first e =
        e ∙ ap (λ (c : List Point). leb fewest_different (variety c)) (sym (part_next points from end l w)) ∙ sym (kept_is (contour_part points from end))

    module _ {s : ℕ} (f : Found points (from + 1) end from from s) where
      pub kept_one : s ≡ end → false ≡ kept (contour_part points from end)
      kept_one e = by_first (three_one (point_in points from) contour (sym f.rest ∙ part_none points s end (omega arith)))

      module _ {t : ℕ} (m : (s ≡ end → ⊥)) (g : Found points (s + 1) end from s t) where
        second : beyond (point_in points from) (point_in points from) contour ≡ point_in points s ∷ contour_part points (s + 1) end
        second = sym f.rest ∙ part_next points s end (omega (arith, f.upto)) w

        pub kept_more : ltb t end ≡ kept (contour_part points from end)
        kept_more = by (ltb t end) refl
          where
            by : (b : Bool) → ltb t end ≡ b → b ≡ kept (contour_part points from end)
            by true e =
                by_first
                (three_found (point_in points from) contour (point_in points s) (contour_part points (s + 1) end) second (point_in points t)
                (contour_part points (t + 1) end)
                (sym g.rest ∙ part_next points t end (ltb-true t end e) w))
            by false e =
                by_first
                (three_two (point_in points from) contour (point_in points s) (contour_part points (s + 1) end) second
                (sym g.rest ∙ part_none points t end (ltb-false t end e)))

-- ---- backward: all from r on equal the first

pub record Ending (points : List ℤ) (from end r : ℕ) : Type 0 where
  pub some : from < r
  pub upto : r ≤ end
  pub rest : trimmed (point_in points from) (contour_part points (from + 1) r) ≡ trimmed (point_in points from) (contour_part points (from + 1) end)

module _ {points : List ℤ} {from end r : ℕ} (w : HasPoints points end) (s : Ending points from end r) where
  pub ending_none : r ≤ from + 1 → Trimmed points from end r
  unfolding trimmed
  ending_none h =
      let n = part_none points (from + 1) r h in
      record { some = s.some; upto = s.upto; rest = n ∙ ap (trimmed (point_in points from)) (sym n) ∙ s.rest }

  module _ {b : Bool} (l : from + 1 < r) (e : b ≡ same_point (point_in points from) (point_in points (r - 1))) where
    abbrev front : List Point
    front = contour_part points (from + 1) (r - 1)

    last : contour_part points (from + 1) r ≡ front ++ (point_in points (r - 1) ∷ [])
    last =
        let k : r - 1 + 1 ≡ r = omega arith in
        ap (contour_part points (from + 1)) (sym k) ∙ part_last points (from + 1) (r - 1) (omega arith) (omega (arith, s.upto))

    pub ending_stop : b ≡ false → Trimmed points from end r
    ending_stop h =
        record {
          some = s.some;
          upto = s.upto;
          rest =
              last
              ∙ sym (trimmed_stop (point_in points from) (point_in points (r - 1)) front (sym e ∙ h))
              ∙ ap (trimmed (point_in points from)) (sym last)
              ∙ s.rest;
        }

    pub ending_next : b ≡ true → Ending points from end (r - 1)
    ending_next h =
        record {
          some = omega arith;
          upto = omega (arith, s.upto);
          rest =
              sym (trimmed_last (point_in points from) (point_in points (r - 1)) front (sym e ∙ h)) ∙ ap (trimmed (point_in points from)) (sym last) ∙ s.rest;
        }

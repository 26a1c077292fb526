-- Where a cleaned contour ends, and what `copy_contour` and `move_contour` leave.
use Prim.Native.Nat.{ℕ, ◌+◌, ◌*◌, ◌≤◌, ◌<◌}
use mathlib.Core.Path.{◌≡◌, sym, ap, ◌∙◌}
use mathlib.Core.Bool.{Bool, true, false}
use mathlib.Core.List.{List, [], ◌∷◌}
use mathlib.Core.Logic.{⊎_elim}
use native.Mathlib.Omega.{arith}
use lib.ListN.{length}
use lib.Seq.{sets}
use lib.IntN.{ℤ}
use Rattle.laws.specs.Booleans.{clash, split_lt}
use Rattle.polygons.specs.Flat.{Point, numbers_of}
use Rattle.cleaning.specs.Cleaning.{unrepeated, neat, kept}
use Rattle.clean_contour.specs.Parts.{point_in, contour_part, HasPoints, Trimmed, without_repeats, remains, CleanEnd, PointsStand}
use Rattle.clean_contour.specs.PartLaws.{part_none, part_next, remains_dropped, remains_kept}
use Rattle.clean_contour.specs.ScanLaws.{neat_is}
use Rattle.clean_contour.proofs.Scanning.{kept_none}

module _ (points : List ℤ) (from end : ℕ) (w : HasPoints points end) (l : from ≤ end) {b : Bool} (e : b ≡ kept (contour_part points from end)) where
  -- dropped
  pub end_dropped : b ≡ false → CleanEnd points from end from
  unfolding without_repeats
  end_dropped h =
      record {
        onward = omega arith;
        upto = l;
        rest = ap without_repeats (part_none points from from (omega arith)) ∙ sym (remains_dropped (contour_part points from end) (sym e ∙ h));
      }

  module _ (h : b ≡ true) where
    -- a contour that is kept has a point
    pub kept_some : from < end
    kept_some = ⊎_elim (λ m. m) (λ m. absurd (clash (sym e ∙ h) (sym (kept_none points from end w (omega arith))))) (split_lt from end)

    pub end_kept : {r : ℕ} → Trimmed points from end r → CleanEnd points from end r
    unfolding without_repeats
    end_kept {r} f =
        let p = point_in points from in
        record {
          onward = omega (arith, f.some);
          upto = f.upto;
          rest =
              ap without_repeats (part_next points from r f.some (omega (arith, f.upto)))
              ∙ ap (λ (c : List Point). p ∷ unrepeated p c) f.rest
              ∙ neat_is p (contour_part points (from + 1) end)
              ∙ ap neat (sym (part_next points from end kept_some w))
              ∙ sym (remains_kept (contour_part points from end) (sym e ∙ h));
        }

module _ {points : List ℤ} {from end last : ℕ} (f : CleanEnd points from end last) where
  -- nothing is left
  pub contour_dropped : {table : List ℤ} {at : ℕ} → last ≡ from → PointsStand (remains (contour_part points from end)) table at at table
  unfolding numbers_of without_repeats
  contour_dropped {table} {at} h =
      let none : remains (contour_part points from end) ≡ [] = sym f.rest ∙ ap without_repeats (part_none points from last (omega arith)) in
      record { end = omega (arith, ap length none); holds = ap (λ (c : List Point). sets table (2 * at) (numbers_of c)) (sym none) }

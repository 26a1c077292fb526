-- A coordinate by its number, and the points of a contour one by one: a lemma for each return of `read_coordinate` and
-- `check_watched`.
use mathlib.Core.Path.{◌≡◌, refl, sym, ap, ◌∙◌}
use Rattle.std.specs.Prelude.{Result, Ok, Err}
use mathlib.Core.List.{List, [], ◌∷◌}
use Prim.Native.Nat.{ℕ, suc, ◌-◌, ◌<◌, ◌≤◌}
use native.Mathlib.Omega.{arith}
use lib.ListN.{length, drop}
use lib.IntN.{ℤ, pos, negsuc, nat_abs, ◌+ℤ◌}
use lib.Signed.{◌≤ℤ◌, ◌<ℤ◌}
use borrow.Author.Tests.{le-leb, lt-leb}
use mir.Syntax.{w32}
use mir.Val.{to_z, of_z}
use Rattle.laws.specs.Machine.{same_in}
use Rattle.laws.specs.Integers.{abs_is, one_zero, le_in, lt_in}
use Rattle.mesh.specs.Corners.{largest, most_points}
use Rattle.polygons.specs.Flat.{Point, point}
use Rattle.cleaning.specs.Profiles.{fits_in}
use Rattle.cleaning.specs.declared.Profile.{Profile}
use Rattle.cleaning.specs.declared.Profile.TheVariants.{Full, Clean}
use Rattle.clean_test.specs.Seeing.{unseen, seen_clean, seen_all}
use Rattle.clean_test.specs.SeeingLaws.{seen_clean_lem}
use Rattle.clean_test.specs.declared.ContourSeen.{ContourSeen}
use Rattle.polygons.specs.ContourAreas.{contour_area}
use Rattle.area_sum.specs.Summing.{unsummed, summing, closing, summed_all, SumOf, SumSmall}
use Rattle.area_sum.specs.SummingLaws.{summed_area, sum_start, sum_next, sum_within}
use Rattle.area_sum.specs.declared.AreaSum.{AreaSum}
use Rattle.file_formats.specs.Formats.{Format, refused, state_after}
use Rattle.file_formats.specs.Numbers.{largest_word, unzigzag}
use Rattle.file_formats.specs.LayerFile.{coordinate_format, point_format, origin, latest}
use Rattle.file_formats.specs.LayerFileLaws.{coordinate_bad, coordinate_far, coordinate_near, coordinate_in, point_no_x, point_no_y, point_both}
use Rattle.file_formats.specs.Positions.{breaks_at, number_at}
use Rattle.file_formats.specs.PositionLaws.{took, not_took, number_breaks, place_drop, ParsedAt}
use Rattle.file_formats.specs.declared.Broken.{Broken}
use Rattle.file_check.specs.Answers.{coordinate_at, points_at, points_end}
use Rattle.file_check.specs.AnswerLaws.{told_parsed, told_refused, Off, coordinate_read, coordinate_off, coordinate_breaks}
use Rattle.file_check.specs.declared.PointsEnd.{PointsEnd}
use Rattle.file_check.specs.Watching.{seeing_in, seen_fits}
use Rattle.file_check.specs.RunLaws.{Running, run_off, run_next, run_end, running_of}

-- ---- coordinate range

pub too_low : (z : ℤ) → z <ℤ negsuc 1048575 → largest < nat_abs z
too_low z h = omega (arith, lt_in h, abs_is z, one_zero z)

pub too_high : (z : ℤ) → pos 1048576 <ℤ z → largest < nat_abs z
too_high z h = omega (arith, lt_in h, abs_is z, one_zero z)

pub coordinate_in_range : (z : ℤ) → negsuc 1048575 ≤ℤ z → z ≤ℤ pos 1048576 → nat_abs z ≤ largest
coordinate_in_range z h g = omega (arith, le_in h, le_in g, abs_is z, one_zero z)

-- as the 32 bits that stand for it
pub bits_is : (z : ℤ) → nat_abs z ≤ largest → to_z w32 (of_z w32 z) ≡ z
bits_is z h = same_in w32 z largest h tt

pub bits_near : (z : ℤ) → nat_abs z ≤ largest → nat_abs (to_z w32 (of_z w32 z)) ≤ largest
bits_near z h = rw (bits_is z h) h

-- ---- a coordinate

module _ (p : ℤ) (file : List ℕ) (at : ℕ) where
  none : (coordinate_format p).parse (drop at file) ≡ refused (drop at file) → Err (breaks_at at) ≡ coordinate_at p file at
  none e = told_refused (λ z next. Ok (z, next)) (λ q. Err (breaks_at at)) (coordinate_format p) file at (drop at file) e

  pub no_number : {b : Broken} → number_at largest_word file at ≡ Err b → Err b ≡ coordinate_at p file at
  no_number e = ap Err (number_breaks largest_word file at e) ∙ none (coordinate_bad p (drop at file) (not_took largest_word file at e))

  module _ {m next : ℕ} (e : number_at largest_word file at ≡ Ok (m, next)) where
    pub far : largest < nat_abs (p +ℤ unzigzag m) → Err (breaks_at at) ≡ coordinate_at p file at
    far h = none (coordinate_far p (drop at file) m (drop next file) (took e).parses (lt-leb (nat_abs (p +ℤ unzigzag m)) largest h))

    pub near : nat_abs (p +ℤ unzigzag m) ≤ largest → Ok (p +ℤ unzigzag m, next) ≡ coordinate_at p file at
    near h =
        let w = took e in
        told_parsed (λ z next. Ok (z, next)) (λ q. Err (breaks_at at)) (coordinate_format p) file at (p +ℤ unzigzag m) next
        (record { inside = w.inside; parses = coordinate_near p (drop at file) m (drop next file) w.parses (le-leb (nat_abs (p +ℤ unzigzag m)) largest h) })

-- ---- the points in turn: the one before, and what all before have shown and come to

pub record Sight : Type 0 where
  pub prior : Point
  pub seen : ContourSeen
  pub sum : AreaSum

abbrev pub sight : ℤ → ℤ → ContourSeen → AreaSum → Sight
sight x y seen sum = record { prior = point x y; seen = seen; sum = sum }

abbrev pub begun : Sight
begun = record { prior = origin; seen = unseen; sum = unsummed }

abbrev pub point_after : Sight → Format Point
point_after s = point_format s.prior

module _ (p : Profile) where
  abbrev pub passing : Sight → Point → Sight
  passing s q = record { prior = q; seen = seeing_in p s.seen s.prior q; sum = summing s.sum s.prior q }

  abbrev pub shown : Sight → ℕ → Result PointsEnd Broken
  shown s next = Ok (record { at = next; fits = seen_fits p s.seen s.prior; area = closing s.sum s.prior })

abbrev pub off : ℕ → Result PointsEnd Broken
off q = Err (breaks_at q)

-- after all of them it is known whether the contour may stand in the profile, and its area
shown_clean : (s : Sight) (c : List Point)
    → let t = state_after point_after (passing Clean) s c in
    seen_clean t.seen t.prior ≡ seen_all s.seen s.prior c
unfolding seen_all
shown_clean s [] = refl
shown_clean s (q ∷ c) = shown_clean (passing Clean s q) c

shown_fits : (p : Profile) (c : List Point)
    → let t = state_after point_after (passing p) begun c in
    seen_fits p t.seen t.prior ≡ fits_in p c
shown_fits Full c = refl
shown_fits Clean c = shown_clean begun c ∙ seen_clean_lem origin c

shown_sum : (p : Profile) (s : Sight) (c : List Point)
    → let t = state_after point_after (passing p) s c in
    closing t.sum t.prior ≡ summed_all s.sum s.prior c
unfolding summed_all
shown_sum p s [] = refl
shown_sum p s (q ∷ c) = shown_sum p (passing p s q) c

shown_area : (p : Profile) (c : List Point)
    → let t = state_after point_after (passing p) begun c in
    closing t.sum t.prior ≡ contour_area c
shown_area p c = shown_sum p begun c ∙ summed_area c

-- ---- the loop over the points: x and y are those of the point before

pub record PointsChecked (p : Profile) (file : List ℕ) (at count : ℕ) (seen : ContourSeen) (sum : AreaSum) (x y : ℤ) (i left : ℕ) : Type 0 where
  pub few : count ≤ most_points
  pub left_in : left ≤ count
  pub x_in : nat_abs x ≤ largest
  pub y_in : nat_abs y ≤ largest
  pub sum_in : SumOf (count - left) sum
  pub run : Running point_after (passing p) (shown p) off file (points_at p count file at) (sight x y seen sum) i left

points_begun : (p : Profile) (file : List ℕ) (at count : ℕ) → (at ≤ length file) × (count ≤ most_points)
    → PointsChecked p file at count unseen unsummed (pos 0) (pos 0) at count
points_begun p file at count h =
    record {
      few = h.1;
      left_in = omega arith;
      x_in = omega arith;
      y_in = omega arith;
      sum_in = sum_within sum_start (omega arith);
      run =
          running_of point_format (λ s. s.prior) (passing p) latest (λ s q. refl) (shown p)
          (λ c next. Ok (points_end p c next)) off file begun at count
          (λ c next i. Ok (record { at = next; fits = shown_fits p c i; area = shown_area p c i })) h.0;
    }

pub points_checked : (p : Profile) (file : List ℕ) (at count : ℕ) {seen : ContourSeen} {sum : AreaSum} {left : ℕ} → seen ≡ unseen → sum ≡ unsummed
    → left ≡ count → (at ≤ length file) × (count ≤ most_points)
    → PointsChecked p file at count seen sum (pos 0) (pos 0) at left
points_checked p file at count e f all h = rw (e, f, all) (points_begun p file at count h)

module _ {p : Profile} {file : List ℕ} {at count : ℕ} {seen : ContourSeen} {sum : AreaSum} {x y : ℤ} {i left : ℕ}
    (w : PointsChecked p file at count seen sum x y i left) where
  pub sum_small : SumSmall sum
  sum_small = sum_within w.sum_in (omega (arith, w.few))

  pub points_done : left ≤ 0 → {e : PointsEnd} → e.at ≡ i → e.fits ≡ seen_fits p seen (point x y) → e.area ≡ closing sum (point x y)
      → Ok e ≡ points_at p count file at
  points_done h d e f =
      (λ j. Ok (record { at = d j; fits = e j; area = f j })) ∙ run_end point_after (passing p) (shown p) off file left w.run h

  module _ (h : 0 < left) where
    stops : {b : Broken} → Off (point_format (point x y)) file i b.at → Err b ≡ points_at p count file at
    stops {b} o = run_off point_after (passing p) (shown p) off file left w.run h b.at o

    pub no_x : {b : Broken} → coordinate_at x file i ≡ Err b → Err b ≡ points_at p count file at
    no_x e =
        stops
        (record {
          rest = drop i file;
          parses = point_no_x (point x y) (drop i file) (coordinate_off x file i e);
          place = ap (λ (b : Broken). b.at) (coordinate_breaks x file i e) ∙ sym (place_drop file i w.run.inside);
        })

    module _ {nx : ℤ} {j : ℕ} (e : coordinate_at x file i ≡ Ok (nx, j)) where
      first : ParsedAt (coordinate_format x) file i nx j
      first = coordinate_read x file i w.run.inside nx j e

      pub x_near : nat_abs nx ≤ largest
      x_near = coordinate_in x (drop i file) nx (drop j file) first.parses

      pub no_y : {b : Broken} → coordinate_at y file j ≡ Err b → Err b ≡ points_at p count file at
      no_y f =
          stops
          (record {
            rest = drop j file;
            parses = point_no_y (point x y) (drop i file) nx (drop j file) first.parses (coordinate_off y file j f);
            place = ap (λ (b : Broken). b.at) (coordinate_breaks y file j f) ∙ sym (place_drop file j first.inside);
          })

      module _ {ny : ℤ} {k : ℕ} (f : coordinate_at y file j ≡ Ok (ny, k)) where
        second : ParsedAt (coordinate_format y) file j ny k
        second = coordinate_read y file j first.inside ny k f

        pub y_near : nat_abs ny ≤ largest
        y_near = coordinate_in y (drop j file) ny (drop k file) second.parses

        module _ {rest : ℕ} (one : suc rest ≡ left) where
          point_passed : PointsChecked p file at count (seeing_in p seen (point x y) (point nx ny)) (summing sum (point x y) (point nx ny)) nx ny k rest
          point_passed =
              record {
                few = w.few;
                left_in = omega (arith, w.left_in);
                x_in = x_near;
                y_in = y_near;
                sum_in = sum_within (sum_next (point x y) (point nx ny) w.sum_in (w.x_in, w.y_in) (x_near, y_near)) (omega (arith, w.left_in));
                run =
                    run_next point_after (passing p) (shown p) off file left w.run rest one (point nx ny) k
                    (record {
                      inside = second.inside;
                      parses = point_both (point x y) (drop i file) nx (drop j file) first.parses ny (drop k file) second.parses;
                    });
              }

          pub next_point_lem : {seen' : ContourSeen} {sum' : AreaSum} → seen' ≡ seeing_in p seen (point x y) (point nx ny)
              → sum' ≡ summing sum (point x y) (point nx ny)
              → PointsChecked p file at count seen' sum' nx ny k rest
          next_point_lem g s = rw (g, s) point_passed

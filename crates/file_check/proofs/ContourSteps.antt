-- Contours one by one: a lemma for each return of `check_contour`, `check_contours` and `check_counted`.
use mathlib.Core.Path.{◌≡◌, refl, sym, ap, ◌∙◌, subst}
use Rattle.std.specs.Prelude.{Result, Ok, Err}
use mathlib.Core.Bool.{true, false}
use mathlib.Core.List.{List, [], ◌∷◌}
use Prim.Native.Nat.{ℕ, suc, ◌+◌, ◌-◌, ◌*◌, ◌<◌, ◌≤◌}
use native.Mathlib.Omega.{arith}
use lib.ListN.{length, drop}
use lib.IntN.{ℤ, pos, nat_abs, ◌+ℤ◌, +ℤ_assoc}
use borrow.Author.Tests.{le-leb, lt-leb}
use mir.Syntax.{w64}
use mir.Val.{SFits, to_z, of_z}
use Rattle.laws.specs.Booleans.{clash}
use Rattle.laws.specs.Integers.{ext, sum as up-sum, abs_add}
use Rattle.laws.specs.Machine.{Rd, small, add, add_ok}
use Rattle.polygons.specs.ContourAreas.{contour_area, layer_area, largest_cross}
use Rattle.cleaning.specs.Profiles.{fits_in}
use Rattle.cleaning.specs.declared.Profile.{Profile}
use Rattle.cleaning.specs.declared.Profile.TheVariants.{Full, Clean}
use Rattle.file_formats.specs.Formats.{Format, parsed, refused, state_after, sequence}
use Rattle.file_formats.specs.Numbers.{largest_word}
use Rattle.file_formats.specs.LayerFile.{Point, most_points, fewest_points, point_format, origin, latest}
use Rattle.file_formats.specs.LayerFile.{contour_format, contour_in, room_after, contour_list_in}
use Rattle.file_formats.specs.LayerFileLaws.{point_tails, contour_bad, contour_few, contour_points}
use Rattle.file_formats.specs.LayerRules.{point_total}
use Rattle.file_formats.specs.Positions.{breaks_at, number_at}
use Rattle.file_formats.specs.PositionLaws.{ParsedAt, took, not_took, number_breaks, sequence_tails}
use Rattle.file_formats.specs.SequenceLaws.{parsed_length}
use Rattle.file_formats.specs.declared.Broken.{Broken}
use Rattle.file_check.specs.declared.PointsEnd.{PointsEnd}
use Rattle.file_check.specs.declared.ContoursEnd.{ContoursEnd}
use Rattle.file_check.specs.Answers.{points_at, points_end, contour_told_at, contour_end, contours_at, contours_end, counts_at, counts_end}
use Rattle.file_check.specs.AnswerLaws.{told_parsed, told_off, told_bad, from_ok, broken_off, contour_read, contour_off, contours_read_lem}
use Rattle.file_check.specs.AnswerLaws.{ContoursTold, contours_off, room_left_lem, contours_by_count}
use Rattle.file_check.specs.RunLaws.{Running, run_off, run_next, run_end, running_of, state_of}
use Rattle.file_check.specs.AreaLaws.{contour_in_room, contour_sum_le}

-- ---- a contour, by its count and its points

-- a contour that is refused in the full profile, and one that is not, by whether it may stand in the profile
module _ (p : Profile) (room : ℕ) (l : List ℕ) where
  refused_in : {r : List ℕ} → (contour_format room).parse l ≡ refused r → (contour_in p room).parse l ≡ refused r
  refused_in = by p
    where
      by : (p : Profile) {r : List ℕ} → (contour_format room).parse l ≡ refused r → (contour_in p room).parse l ≡ refused r
      by Full e = e
      by Clean e = simp e

  parsed_in : {c : List Point} {r : List ℕ} → (contour_format room).parse l ≡ parsed c r → fits_in p c ≡ true
      → (contour_in p room).parse l ≡ parsed c r
  parsed_in = by p
    where
      by : (p : Profile) {c : List Point} {r : List ℕ} → (contour_format room).parse l ≡ parsed c r → fits_in p c ≡ true
          → (contour_in p room).parse l ≡ parsed c r
      by Full e t = e
      by Clean e t = simp (e, t)

  unfit_in : {c : List Point} {r : List ℕ} → (contour_format room).parse l ≡ parsed c r → fits_in p c ≡ false
      → (contour_in p room).parse l ≡ refused l
  unfit_in = by p
    where
      by : (p : Profile) {c : List Point} {r : List ℕ} → (contour_format room).parse l ≡ parsed c r → fits_in p c ≡ false
          → (contour_in p room).parse l ≡ refused l
      by Full e t = absurd (clash refl t)
      by Clean e t = simp (e, t)

module _ (p : Profile) (room : ℕ) (file : List ℕ) (at : ℕ) (h : at ≤ length file) where
  none : (contour_in p room).parse (drop at file) ≡ refused (drop at file) → Err (breaks_at at) ≡ contour_told_at p room file at
  none e = told_bad (λ c next. Ok (contour_end room c next)) (λ q. Err (breaks_at q)) (contour_in p room) file at h e

  pub no_count : {b : Broken} → number_at room file at ≡ Err b → Err b ≡ contour_told_at p room file at
  no_count e =
      ap Err (number_breaks room file at e) ∙ none (refused_in p room (drop at file) (contour_bad room (drop at file) (not_took room file at e)))

  module _ {n next : ℕ} (e : number_at room file at ≡ Ok (n, next)) where
    pub few_points_lem : n < fewest_points → Err (breaks_at at) ≡ contour_told_at p room file at
    few_points_lem k =
        none (refused_in p room (drop at file) (contour_few room (drop at file) n (drop next file) (took e).parses (lt-leb fewest_points n k)))

    module _ (k : fewest_points ≤ n) where
      by_points : (contour_format room).parse (drop at file) ≡ (sequence point_format latest n origin).parse (drop next file)
      by_points = contour_points room (drop at file) n (drop next file) (took e).parses (le-leb fewest_points n k)

      module _ {b : PointsEnd} (f : points_at p n file next ≡ Ok b) where
        points_read : (c : List Point) × ParsedAt (sequence point_format latest n origin) file next c b.at × (points_end p c b.at ≡ b)
        points_read =
            from_ok (points_end p) breaks_at (sequence point_format latest n origin) file next
            (sequence_tails point_format latest point_tails n origin) (took e).inside (λ b. b.at) (λ c n. refl) f

        fits_is : fits_in p points_read.0 ≡ b.fits
        fits_is = ap (λ (b : PointsEnd). b.fits) points_read.2

        area_is : contour_area points_read.0 ≡ b.area
        area_is = ap (λ (b : PointsEnd). b.area) points_read.2

        pub points_pass : {z : ℤ} → z ≡ b.area → b.fits ≡ true
            → Ok (record { at = b.at; room = room - n; area = z }) ≡ contour_told_at p room file at
        points_pass same t =
            let q = points_read in
            let m : length q.0 ≡ n = parsed_length point_format latest n origin (drop next file) q.0 (drop b.at file) q.1.parses in
            (λ j. Ok (record { at = b.at; room = room - sym m j; area = (same ∙ sym area_is) j }))
            ∙ told_parsed (λ c next. Ok (contour_end room c next)) (λ q. Err (breaks_at q)) (contour_in p room) file at q.0 b.at
            (record { inside = q.1.inside; parses = parsed_in p room (drop at file) (by_points ∙ q.1.parses) (fits_is ∙ t) })

        -- a contour that may not stand in the profile
        pub points_unfit : b.fits ≡ false → Err (breaks_at at) ≡ contour_told_at p room file at
        points_unfit t = none (unfit_in p room (drop at file) (by_points ∙ points_read.1.parses) (fits_is ∙ t))

      pub points_stop : {b : Broken} → points_at p n file next ≡ Err b → Err b ≡ contour_told_at p room file at
      points_stop f =
          let q = broken_off (points_end p) (sequence point_format latest n origin) file next f in
          told_off (λ c next. Ok (contour_end room c next)) (λ q. Err (breaks_at q)) (contour_in p room) file at
          (record { rest = q.rest; parses = refused_in p room (drop at file) (by_points ∙ q.parses); place = q.place })

-- ---- the loop over the contours: the room that is left, and the areas up to there

pub record Tally : Type 0 where
  pub room : ℕ
  pub sum : ℤ

abbrev pub tally : ℕ → ℤ → Tally
tally room sum = record { room = room; sum = sum }

abbrev pub uncounted : Tally
uncounted = tally most_points (pos 0)

abbrev pub adding : Tally → List Point → Tally
adding s c = tally (room_after s.room c) (s.sum +ℤ contour_area c)

abbrev pub counted : Tally → ℕ → Result ContoursEnd Broken
counted s next = Ok (record { at = next; room = s.room; area = s.sum })

abbrev pub off : ℕ → Result ContoursEnd Broken
off q = Err (breaks_at q)

module _ (p : Profile) where
  abbrev pub contour_after : Tally → Format (List Point)
  contour_after s = contour_in p s.room

  sum_after : (s : Tally) (cs : List (List Point)) → (state_after contour_after adding s cs).sum ≡ s.sum +ℤ layer_area cs
  unfolding layer_area
  sum_after s [] = omega (arith, ext, up-sum s.sum (pos 0))
  sum_after s (c ∷ cs) = sum_after (adding s c) cs ∙ +ℤ_assoc s.sum (contour_area c) (layer_area cs)

  room_after_lem : (s : Tally) (cs : List (List Point)) → (state_after contour_after adding s cs).room ≡ state_after (contour_in p) room_after s.room cs
  room_after_lem = state_of (contour_in p) (λ s. s.room) adding room_after (λ s c. refl)

  pub record ContoursChecked (file : List ℕ) (at count room : ℕ) (sum : ℤ) (i left : ℕ) : Type 0 where
    pub few : room ≤ most_points
    pub small : nat_abs sum ≤ (most_points - room) * largest_cross
    pub run : Running contour_after adding counted off file (contours_at p count file at) (tally room sum) i left

  all_left : (file : List ℕ) (at count : ℕ) → at ≤ length file → ContoursChecked file at count most_points (pos 0) at count
  all_left file at count h =
      record {
        few = omega arith;
        small = omega arith;
        run =
            running_of (contour_in p) (λ s. s.room) adding room_after (λ s c. refl) counted
            (λ cs next. Ok (contours_end p cs next)) off file uncounted at count
            (λ cs next i. Ok (record { at = next; room = room_after_lem uncounted cs i; area = (sum_after uncounted cs ∙ no_more (layer_area cs)) i })) h;
      }
    where
      no_more : (z : ℤ) → pos 0 +ℤ z ≡ z
      no_more z = omega (arith, ext, up-sum (pos 0) z)

  pub contours_checked : (file : List ℕ) (at count : ℕ) {left : ℕ} → left ≡ count → at ≤ length file
      → ContoursChecked file at count most_points (pos 0) at left
  contours_checked file at count all h = rw all (all_left file at count h)

module _ {p : Profile} {file : List ℕ} {at count room : ℕ} {sum : ℤ} {i left : ℕ} (w : ContoursChecked p file at count room sum i left) where
  pub contours_done : left ≤ 0 → Ok (record { at = i; room = room; area = sum }) ≡ contours_at p count file at
  contours_done h = run_end (contour_after p) adding counted off file left w.run h

  pub sum_small : nat_abs sum ≤ most_points * largest_cross
  sum_small = omega (arith, w.small)

  pub contour_stops : 0 < left → {b : Broken} → contour_told_at p room file i ≡ Err b → Err b ≡ contours_at p count file at
  contour_stops h {b} f = run_off (contour_after p) adding counted off file left w.run h b.at (contour_off p file i room f)

  -- after a contour that is parsed
  module _ (c : List Point) {next : ℕ} (q : ParsedAt (contour_in p room) file i c next) where
    fits : length c ≤ room
    fits = contour_in_room p room (drop i file) c (drop next file) q.parses

    area_le : nat_abs (contour_area c) ≤ length c * largest_cross
    area_le = contour_sum_le p room (drop i file) c (drop next file) q.parses

    small_area : nat_abs (contour_area c) ≤ most_points * largest_cross
    small_area = omega (arith, area_le, fits, w.few)

    contour_passed : {rest : ℕ} → suc rest ≡ left → ContoursChecked p file at count (room_after room c) (sum +ℤ contour_area c) next rest
    contour_passed {rest} h =
        record {
          few = omega (arith, w.few);
          small = omega (arith, abs_add sum (contour_area c), fits, area_le, w.small, w.few);
          run = run_next (contour_after p) adding counted off file left w.run rest h c next q;
        }

  -- after one that is told of
  module _ {b : ContoursEnd} (f : contour_told_at p room file i ≡ Ok b) where
    pub area_small : nat_abs b.area ≤ most_points * largest_cross
    area_small =
        let q = contour_read p file i room w.run.inside b f in
        subst (λ (z : ℤ). nat_abs z ≤ most_points * largest_cross) q.1.area_is (small_area q.0 q.1.stands)

    pub contour_passes : {rest : ℕ} → suc rest ≡ left → {z : ℤ} → z ≡ sum +ℤ b.area → ContoursChecked p file at count b.room z b.at rest
    contour_passes {rest} h {z} same =
        let q = contour_read p file i room w.run.inside b f in
        let total : sum +ℤ contour_area q.0 ≡ z = ap (λ (y : ℤ). sum +ℤ y) q.1.area_is ∙ sym same in
        subst (λ (k : ℕ). ContoursChecked p file at count k z b.at rest) q.1.room_after_lem
        (subst (λ (y : ℤ). ContoursChecked p file at count (room_after room q.0) y b.at rest) total (contour_passed q.0 q.1.stands h))

-- the sum in the machine: its bits are n, and the area is added
module _ (n : ℕ) (area : ℤ) (h : nat_abs (to_z w64 n) ≤ most_points * largest_cross) (k : nat_abs area ≤ most_points * largest_cross) where
  abbrev before_it : Rd w64 (to_z w64 n) (most_points * largest_cross)
  before_it = record { n = n; is = refl; le = h }

  abbrev it : Rd w64 area (most_points * largest_cross)
  it = small k tt

  pub adding_fits : SFits w64 (to_z w64 n +ℤ to_z w64 (of_z w64 area))
  adding_fits = add_ok before_it it tt

  pub adding_is : to_z w64 (of_z w64 (to_z w64 n +ℤ to_z w64 (of_z w64 area))) ≡ to_z w64 n +ℤ area
  adding_is = (add before_it it tt).is

-- ---- all contours of a layer

module _ (p : Profile) (file : List ℕ) (at : ℕ) (h : at ≤ length file) where
  pub no_contours : {b : Broken} → number_at largest_word file at ≡ Err b → Err b ≡ counts_at p file at
  unfolding contour_list_in
  no_contours e =
      let q = not_took largest_word file at e in
      ap Err (number_breaks largest_word file at e)
      ∙ told_bad (λ cs next. Ok (counts_end cs next)) (λ q. Err (breaks_at q)) (contour_list_in p) file at h (simp q)

  module _ {n next : ℕ} (e : number_at largest_word file at ≡ Ok (n, next)) where
    pub contours_stop : {b : Broken} → contours_at p n file next ≡ Err b → Err b ≡ counts_at p file at
    contours_stop f =
        let q = contours_off p file next n f in
        told_off (λ cs next. Ok (counts_end cs next)) (λ q. Err (breaks_at q)) (contour_list_in p) file at
        (record { rest = q.rest; parses = contours_by_count p file at n next e ∙ q.parses; place = q.place })

    module _ {b : ContoursEnd} (f : contours_at p n file next ≡ Ok b) where
      all_told : (cs : List (List Point)) × ContoursTold p file next n cs b.at b.room b.area
      all_told = contours_read_lem p file next n (took e).inside b f

      room_and_points : b.room + point_total all_told.0 ≡ most_points
      room_and_points =
          let q = all_told.1 in
          omega (arith, q.room_after_lem, room_left_lem p n most_points (drop next file) all_told.0 (drop b.at file) q.stands.parses)

      pub room_low : b.room ≤ most_points
      room_low = omega (arith, room_and_points)

      pub contours_pass : {z : ℤ} → z ≡ b.area
          → Ok (record { at = b.at; contours = n; points = most_points - b.room; area = z }) ≡ counts_at p file at
      contours_pass same =
          let q = all_told.1 in
          let cs = all_told.0 in
          let a : n ≡ length cs = sym (parsed_length (contour_in p) room_after n most_points (drop next file) cs (drop b.at file) q.stands.parses) in
          let m : most_points - b.room ≡ point_total cs = omega (arith, room_and_points) in
          (λ j. Ok (record { at = b.at; contours = a j; points = m j; area = (same ∙ sym q.area_is) j }))
          ∙ told_parsed (λ cs next. Ok (counts_end cs next)) (λ q. Err (breaks_at q)) (contour_list_in p) file at cs b.at
          (record { inside = q.stands.inside; parses = contours_by_count p file at n next e ∙ q.stands.parses })

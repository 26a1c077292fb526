-- Answers and parsing: what is answered of a value that was parsed or refused, and what an answer says of parsing.
use Rattle.std.specs.Prelude.{◌≡◌, ℕ, zero, suc, ◌+◌, ◌-◌, ◌<◌, ◌≤◌, leb, drop, ℤ, Ok, Err}
use Rattle.std.proofs.Math.Path.{refl, subst}
use Rattle.std.proofs.Common.{sym, ap, ◌∙◌, arith, length-drop, drop_of_length-le, leb-true}
use mathlib.Core.List.{List, [], ◌∷◌}
use Rattle.std.proofs.Math.ListN.{length}
use Rattle.std.specs.Int.Signed.{lt_z}
use Rattle.cleaning.specs.declared.Profile.{Profile}
use Rattle.file_formats.specs.Formats.{Parse, parsed, refused, Format, mapped, parse_all, sequence}
use Rattle.file_formats.specs.FormatLaws.{Single, tested_in, then_in, mapped_in}
use Rattle.file_formats.specs.Numbers.{largest_word, parse_number, number, zigzag, unzigzag, signed, Word}
use Rattle.file_formats.specs.NumberLaws.{zigzag_unzigzag, sent_word}
use Rattle.file_formats.specs.Positions.{breaks_at, number_at}
use Rattle.file_formats.specs.PositionLaws.{place_drop, Tails, sequence_tails, ParsedAt, parsed_at, took}
use Rattle.file_formats.specs.SequenceLaws.{state_after}
use Rattle.file_formats.specs.LayerFile.{Point, Layer, most_points, coordinate_format, contour_in, room_after, contour_list_in, height_above, layer_format_in}
use Rattle.file_formats.specs.LayerFile.{height_of}
use Rattle.file_formats.specs.LayerFileLaws.{coordinate_tails, coordinate_single, contour_in_lem, contour_in_tails, contour_within, contour_list_tails}
use Rattle.file_formats.specs.LayerFileLaws.{height_above_tails, height_single, layer_tails, layer_bad, layer_contours}
use Rattle.file_formats.specs.LayerRules.{point_total}
use Rattle.polygons.specs.ContourAreas.{contour_area, layer_area}
use Rattle.file_formats.specs.declared.Broken.{Broken}
use Rattle.file_check.specs.declared.ContoursEnd.{ContoursEnd}
use Rattle.file_check.specs.declared.CountsEnd.{CountsEnd}
use Rattle.file_check.specs.declared.LayerEnd.{LayerEnd}
use Rattle.file_check.specs.declared.LevelsEnd.{LevelsEnd}
use Rattle.file_check.specs.Answers.{told_at, value_at, end_at, coordinate_at, height_told_at, contour_end, contour_told_at, contours_end, contours_at}
use Rattle.file_check.specs.Answers.{counts_end, counts_at, layer_end, layer_told_at, levels_end, levels_at, final}

-- part of a file is refused at the position i
pub record Off {A : Type 0} (F : Format A) (file : List ℕ) (at i : ℕ) : Type 0 where
  pub rest : List ℕ
  pub parses : F.parse (drop at file) ≡ refused rest
  pub place : i ≡ length file - length rest

module _ {A B : Type 0} (good : A → ℕ → B) (bad : ℕ → B) (F : Format A) (file : List ℕ) (at : ℕ) where
  -- ---- from parsing to an answer

  pub told_parsed : (a : A) (next : ℕ) → ParsedAt F file at a next → good a next ≡ told_at good bad F file at
  unfolding told_at
  told_parsed a next p = simp (p.parses, place_drop file next p.inside)

  pub told_refused : (r : List ℕ) → F.parse (drop at file) ≡ refused r → bad (length file - length r) ≡ told_at good bad F file at
  unfolding told_at
  told_refused r e = simp e

  pub told_off : {i : ℕ} → Off F file at i → bad i ≡ told_at good bad F file at
  told_off o = ap bad o.place ∙ told_refused o.rest o.parses

  -- refused from the first byte on
  pub told_bad : at ≤ length file → F.parse (drop at file) ≡ refused (drop at file) → bad at ≡ told_at good bad F file at
  told_bad h e = ap bad (sym (place_drop file at h)) ∙ told_refused (drop at file) e

-- ---- and back

-- answers of two kinds, by a key of the value and the position after it, or by a refused position
pub record Kinds {K B : Type 0} (good : K → ℕ → B) (bad : ℕ → B) : Type 0 where
  pub apart : {k : K} {n p : ℕ} → good k n ≡ bad p → ⊥
  pub key_told : {k l : K} {n m : ℕ} → good k n ≡ good l m → k ≡ l
  pub next_told : {k l : K} {n m : ℕ} → good k n ≡ good l m → n ≡ m

module _ {K A B : Type 0} {good : K → ℕ → B} {bad : ℕ → B} (kinds : Kinds good bad) (key : A → K) (F : Format A) (file : List ℕ) (at : ℕ) where
  pub from_good : Tails F → at ≤ length file → (k : K) (next : ℕ) → told_at (λ a. good (key a)) bad F file at ≡ good k next
      → (a : A) × ParsedAt F file at a next × (key a ≡ k)
  unfolding told_at
  from_good T h k next e = by (F.parse (drop at file)) refl
    where
      by : (d : Parse A) → F.parse (drop at file) ≡ d → (a : A) × ParsedAt F file at a next × (key a ≡ k)
      by (parsed a r) p =
          let f : good (key a) (length file - length r) ≡ good k next = simp p at e in
          (a, subst (ParsedAt F file at a) (kinds.next_told f) (parsed_at T file at h a r p), kinds.key_told f)
      by (refused r) p = absurd (kinds.apart (sym (simp p at e)))

  pub from_bad : (i : ℕ) → told_at (λ a. good (key a)) bad F file at ≡ bad i
      → (r : List ℕ) × (F.parse (drop at file) ≡ refused r) × (bad (length file - length r) ≡ bad i)
  unfolding told_at
  from_bad i e = by (F.parse (drop at file)) refl
    where
      by : (d : Parse A) → F.parse (drop at file) ≡ d → (r : List ℕ) × (F.parse (drop at file) ≡ refused r) × (bad (length file - length r) ≡ bad i)
      by (parsed a r) p = absurd (kinds.apart (simp p at e))
      by (refused r) p = (r, p, simp p at e)

  pub from_off : ((p q : ℕ) → bad p ≡ bad q → p ≡ q) → (i : ℕ) → told_at (λ a. good (key a)) bad F file at ≡ bad i → Off F file at i
  from_off same i e = let g = from_bad i e in record { rest = g.0; parses = g.1; place = sym (same (length file - length g.0) i g.2) }

-- a value, or how one is refused, by an answer that tells of either in its own way
module _ {A B : Type 0} (good : A → ℕ → B) (bad : ℕ → Broken) (F : Format A) (file : List ℕ) (at : ℕ) where
  -- `next` is the position after a value that was told of so
  pub from_ok : Tails F → at ≤ length file → (next : B → ℕ) → ((a : A) (n : ℕ) → next (good a n) ≡ n) → {b : B}
      → told_at (λ a n. Ok (good a n)) (λ q. Err (bad q)) F file at ≡ Ok b
      → (a : A) × ParsedAt F file at a (next b) × (good a (next b) ≡ b)
  unfolding told_at
  from_ok T h next same {b} e = by (F.parse (drop at file)) refl
    where
      by : (d : Parse A) → F.parse (drop at file) ≡ d → (a : A) × ParsedAt F file at a (next b) × (good a (next b) ≡ b)
      by (parsed a r) p =
          let f : Ok (good a (length file - length r)) ≡ Ok b = simp p at e in
          let g : good a (length file - length r) ≡ b = cc in
          let n : length file - length r ≡ next b = sym (same a (length file - length r)) ∙ ap next g in
          (a, subst (ParsedAt F file at a) n (parsed_at T file at h a r p), ap (good a) (sym n) ∙ g)
      by (refused r) p = let f : Err (bad (length file - length r)) ≡ Ok b = simp p at e in cc

  pub from_err : {b : Broken} → told_at (λ a n. Ok (good a n)) (λ q. Err (bad q)) F file at ≡ Err b
      → (r : List ℕ) × (F.parse (drop at file) ≡ refused r) × (bad (length file - length r) ≡ b)
  unfolding told_at
  from_err {b} e = by (F.parse (drop at file)) refl
    where
      by : (d : Parse A) → F.parse (drop at file) ≡ d → (r : List ℕ) × (F.parse (drop at file) ≡ refused r) × (bad (length file - length r) ≡ b)
      by (parsed a r) p = let f : Ok (good a (length file - length r)) ≡ Err b = simp p at e in cc
      by (refused r) p = let f : Err (bad (length file - length r)) ≡ Err b = simp p at e in (r, p, cc)

-- a value that breaks where its first refused position is
pub broken_off : {A B : Type 0} (good : A → ℕ → B) (F : Format A) (file : List ℕ) (at : ℕ) {b : Broken} → end_at good F file at ≡ Err b → Off F file at b.at
broken_off good F file at e =
    let g = from_err good breaks_at F file at e in
    record { rest = g.0; parses = g.1; place = ap (λ (b : Broken). b.at) (sym g.2) }

-- ---- a value with the position after it

module _ {A : Type 0} (F : Format A) (file : List ℕ) (at : ℕ) where
  pub value_read : Tails F → at ≤ length file → {a : A} {next : ℕ} → value_at F file at ≡ Ok (a, next) → ParsedAt F file at a next
  value_read T h {a} {next} e =
      let g = from_ok (λ a n. (a, n)) (λ q. breaks_at at) F file at T h (λ p. p.1) (λ a n. refl) e in
      subst (λ (b : A). ParsedAt F file at b next) (ap (λ (p : A × ℕ). p.0) g.2) g.1

  pub value_off : Single F → {b : Broken} → value_at F file at ≡ Err b → F.parse (drop at file) ≡ refused (drop at file)
  value_off one e =
      let g = from_err (λ a n. (a, n)) (λ q. breaks_at at) F file at e in
      g.1 ∙ ap refused (one (drop at file) g.0 g.1)

  -- it breaks where it begins
  pub value_breaks : {b : Broken} → value_at F file at ≡ Err b → b ≡ breaks_at at
  value_breaks e = sym (from_err (λ a n. (a, n)) (λ q. breaks_at at) F file at e).2

module _ (p : ℤ) (file : List ℕ) (at : ℕ) where
  pub coordinate_read : at ≤ length file → (z : ℤ) (next : ℕ) → coordinate_at p file at ≡ Ok (z, next) → ParsedAt (coordinate_format p) file at z next
  coordinate_read h z next e = value_read (coordinate_format p) file at (coordinate_tails p) h e

  pub coordinate_off : {b : Broken} → coordinate_at p file at ≡ Err b → (coordinate_format p).parse (drop at file) ≡ refused (drop at file)
  coordinate_off e = value_off (coordinate_format p) file at (coordinate_single p) e

  pub coordinate_breaks : {b : Broken} → coordinate_at p file at ≡ Err b → b ≡ breaks_at at
  coordinate_breaks e = value_breaks (coordinate_format p) file at e

module _ (low : ℤ) (file : List ℕ) (at : ℕ) where
  pub height_read : at ≤ length file → (z : ℤ) (next : ℕ) → height_told_at low file at ≡ Ok (z, next) → ParsedAt (height_above low) file at z next
  height_read h z next e = value_read (height_above low) file at (height_above_tails low) h e

  pub height_off : {b : Broken} → height_told_at low file at ≡ Err b → (height_above low).parse (drop at file) ≡ refused (drop at file)
  height_off e = value_off (height_above low) file at (height_single low) e

  pub height_breaks : {b : Broken} → height_told_at low file at ≡ Err b → b ≡ breaks_at at
  height_breaks e = value_breaks (height_above low) file at e

-- a height has 32 bits
pub height_word : (low : ℤ) (l : List ℕ) (z : ℤ) (r : List ℕ) → (height_above low).parse l ≡ parsed z r → Word z
unfolding height_above
height_word low l z r e =
    let i = tested_in (λ h. lt_z low h) l ((signed largest_word).parse l) z r e in
    let j = mapped_in unzigzag ((number largest_word).parse l) z r i.0 in
    let k = tested_in (λ n. leb n largest_word) l (parse_number l) j.0 r j.1 in
    sent_word z (omega (arith, leb-true j.0 largest_word k.1, ap zigzag j.2, zigzag_unzigzag j.0))

-- ---- contours, by the room after them and their areas

module _ (p : Profile) (file : List ℕ) (at : ℕ) where
  module _ (room : ℕ) where
    pub record ContourTold (c : List Point) (next r : ℕ) (area : ℤ) : Type 0 where
      pub stands : ParsedAt (contour_in p room) file at c next
      pub room_after_lem : room_after room c ≡ r
      pub area_is : contour_area c ≡ area

    pub contour_read : at ≤ length file → (b : ContoursEnd) → contour_told_at p room file at ≡ Ok b → (c : List Point) × ContourTold c b.at b.room b.area
    contour_read h b e =
        let g = from_ok (contour_end room) breaks_at (contour_in p room) file at (contour_in_tails p room) h (λ b. b.at) (λ c n. refl) e in
        (g.0, record { stands = g.1; room_after_lem = ap (λ (b : ContoursEnd). b.room) g.2; area_is = ap (λ (b : ContoursEnd). b.area) g.2 })

    pub contour_off : {b : Broken} → contour_told_at p room file at ≡ Err b → Off (contour_in p room) file at b.at
    contour_off e = broken_off (contour_end room) (contour_in p room) file at e

  module _ (n : ℕ) where
    pub record ContoursTold (cs : List (List Point)) (next r : ℕ) (sum : ℤ) : Type 0 where
      pub stands : ParsedAt (sequence (contour_in p) room_after n most_points) file at cs next
      pub room_after_lem : state_after (contour_in p) room_after most_points cs ≡ r
      pub area_is : layer_area cs ≡ sum

    pub contours_read_lem : at ≤ length file → (b : ContoursEnd) → contours_at p n file at ≡ Ok b
        → (cs : List (List Point)) × ContoursTold cs b.at b.room b.area
    contours_read_lem h b e =
        let g = from_ok (contours_end p) breaks_at (sequence (contour_in p) room_after n most_points) file at
        (sequence_tails (contour_in p) room_after (contour_in_tails p) n most_points) h (λ b. b.at) (λ cs n. refl) e in
        (g.0, record { stands = g.1; room_after_lem = ap (λ (b : ContoursEnd). b.room) g.2; area_is = ap (λ (b : ContoursEnd). b.area) g.2 })

    pub contours_off : {b : Broken} → contours_at p n file at ≡ Err b → Off (sequence (contour_in p) room_after n most_points) file at b.at
    contours_off e = broken_off (contours_end p) (sequence (contour_in p) room_after n most_points) file at e

-- ---- the contours of a layer, by their counts and their areas

module _ (p : Profile) (file : List ℕ) (at : ℕ) where
  pub record ContoursCounted (cs : List (List Point)) (next k m : ℕ) (sum : ℤ) : Type 0 where
    pub stands : ParsedAt (contour_list_in p) file at cs next
    pub contours : length cs ≡ k
    pub points : point_total cs ≡ m
    pub area_is : layer_area cs ≡ sum

  pub counts_read : at ≤ length file → (b : CountsEnd) → counts_at p file at ≡ Ok b
      → (cs : List (List Point)) × ContoursCounted cs b.at b.contours b.points b.area
  counts_read h b e =
      let g = from_ok counts_end breaks_at (contour_list_in p) file at (contour_list_tails p) h (λ b. b.at) (λ cs n. refl) e in (
        g.0,
        record {
          stands = g.1;
          contours = ap (λ (b : CountsEnd). b.contours) g.2;
          points = ap (λ (b : CountsEnd). b.points) g.2;
          area_is = ap (λ (b : CountsEnd). b.area) g.2;
        },
      )

  pub counts_off : {b : Broken} → counts_at p file at ≡ Err b → Off (contour_list_in p) file at b.at
  counts_off e = broken_off counts_end (contour_list_in p) file at e

-- ---- a layer, by its height and its areas

module _ (p : Profile) (low : ℤ) (file : List ℕ) (at : ℕ) where
  pub record LayerTold (l : Layer) (next : ℕ) (z sum : ℤ) : Type 0 where
    pub stands : ParsedAt (layer_format_in p low) file at l next
    pub height_is : l.height ≡ z
    pub area_is : layer_area l.contours ≡ sum

  pub layer_told : at ≤ length file → {b : LayerEnd} → layer_told_at p low file at ≡ Ok b → (l : Layer) × LayerTold l b.at b.height b.area
  layer_told h e =
      let g = from_ok layer_end breaks_at (layer_format_in p low) file at (layer_tails p low) h (λ b. b.at) (λ l n. refl) e in
      (g.0, record { stands = g.1; height_is = ap (λ (b : LayerEnd). b.height) g.2; area_is = ap (λ (b : LayerEnd). b.area) g.2 })

  pub layer_off : {b : Broken} → layer_told_at p low file at ≡ Err b → Off (layer_format_in p low) file at b.at
  layer_off e = broken_off layer_end (layer_format_in p low) file at e

-- ---- layers, by the height of the last

module _ (p : Profile) (file : List ℕ) (at n : ℕ) (low : ℤ) where
  pub levels_read : at ≤ length file → (b : LevelsEnd) → levels_at p n low file at ≡ Ok b
      → (ls : List Layer) × ParsedAt (sequence (layer_format_in p) height_of n low) file at ls b.at
      × (state_after (layer_format_in p) height_of low ls ≡ b.height)
  levels_read h b e =
      let g = from_ok (levels_end p low) breaks_at (sequence (layer_format_in p) height_of n low) file at
      (sequence_tails (layer_format_in p) height_of (layer_tails p) n low) h (λ b. b.at) (λ ls n. refl) e in
      (g.0, g.1, ap (λ (b : LevelsEnd). b.height) g.2)

  pub levels_off : {b : Broken} → levels_at p n low file at ≡ Err b → Off (sequence (layer_format_in p) height_of n low) file at b.at
  levels_off e = broken_off (levels_end p low) (sequence (layer_format_in p) height_of n low) file at e

-- ---- a value with which the file ends

module _ {A : Type 0} (F : Format A) (file : List ℕ) (at : ℕ) where
  pub final_off : (i : ℕ) → Off F file at i → Off (final F) file at i
  final_off i o = let p = o.parses in record { rest = o.rest; parses = simp p; place = o.place }

  module _ (a : A) (next : ℕ) (p : ParsedAt F file at a next) where
    pub final_over : next < length file → Off (final F) file at next
    final_over h = by (drop next file) refl (length-drop next file)
      where
        by : (r : List ℕ) → drop next file ≡ r → length (drop next file) ≡ length file - next → Off (final F) file at next
        by [] e n = absurd (omega (arith, ap length e))
        by (b ∷ r) e n =
            let q : F.parse (drop at file) ≡ parsed a (b ∷ r) = p.parses ∙ ap (parsed a) e in
            record { rest = b ∷ r; parses = simp q; place = omega (arith, ap length e, p.inside) }

    pub final_whole : length file ≤ next → (final F).parse (drop at file) ≡ parsed a []
    final_whole h = let q : F.parse (drop at file) ≡ parsed a [] = p.parses ∙ ap (parsed a) (drop_of_length-le file h) in simp q

-- ---- the contours of a layer, by the count before them

pub contours_by_count : (p : Profile) (file : List ℕ) (at n next : ℕ) → number_at largest_word file at ≡ Ok (n, next)
    → (contour_list_in p).parse (drop at file) ≡ (sequence (contour_in p) room_after n most_points).parse (drop next file)
unfolding contour_list_in
contours_by_count p file at n next e = let q = (took e).parses in simp q

-- ---- the room after contours

pub room_left_lem : (p : Profile) (n room : ℕ) (l : List ℕ) (cs : List (List Point)) (r : List ℕ) → parse_all (contour_in p) room_after n room l ≡ parsed cs r
    → state_after (contour_in p) room_after room cs + point_total cs ≡ room
unfolding parse_all
room_left_lem p zero room l cs r e =
    let none : cs ≡ [] = cc in
    subst (λ (ds : List (List Point)). state_after (contour_in p) room_after room ds + point_total ds ≡ room) (sym none) (omega arith)
room_left_lem p (suc n) room l cs r e =
    let i = then_in ((contour_in p room).parse l) (λ c r. mapped (λ ds. c ∷ ds) (parse_all (contour_in p) room_after n (room_after room c) r)) cs r e in
    let j = mapped_in (λ ds. i.0 ∷ ds) (parse_all (contour_in p) room_after n (room_after room i.0) i.1) cs r i.3 in
    let h : state_after (contour_in p) room_after (room - length i.0) j.0 + point_total j.0 ≡ room - length i.0 =
    room_left_lem p n (room - length i.0) i.1 j.0 r j.1 in
    subst (λ (ds : List (List Point)). state_after (contour_in p) room_after room ds + point_total ds ≡ room) j.2
    (omega (arith, (contour_in_lem room l i.0 i.1 (contour_within p room l i.0 i.1 i.2)).1))

-- ---- a layer, by its height and its contours

module _ (p : Profile) (low : ℤ) (file : List ℕ) (at : ℕ) (h : at ≤ length file) where
  pub layer_no_height : {b : Broken} → height_told_at low file at ≡ Err b → Off (layer_format_in p low) file at b.at
  layer_no_height e =
      record {
        rest = drop at file;
        parses = layer_bad low (drop at file) p (height_off low file at e);
        place = ap (λ (b : Broken). b.at) (height_breaks low file at e) ∙ sym (place_drop file at h);
      }

  module _ (z : ℤ) (j : ℕ) (e : height_told_at low file at ≡ Ok (z, j)) where
    by_contours : (layer_format_in p low).parse (drop at file)
        ≡ mapped {B = Layer} (λ cs. record { height = z; contours = cs }) ((contour_list_in p).parse (drop j file))
    by_contours = layer_contours low (drop at file) p z (drop j file) (height_read low file at h z j e).parses

    pub height_inside : j ≤ length file
    height_inside = (height_read low file at h z j e).inside

    pub layer_no_contours : {b : Broken} → counts_at p file j ≡ Err b → Off (layer_format_in p low) file at b.at
    layer_no_contours f =
        let o = counts_off p file j f in
        let q = o.parses in
        record { rest = o.rest; parses = by_contours ∙ simp q; place = o.place }

    pub layer_read : (cs : List (List Point)) (next k m : ℕ) (sum : ℤ) → ContoursCounted p file j cs next k m sum
        → ParsedAt (layer_format_in p low) file at (record { height = z; contours = cs }) next
    layer_read cs next k m sum c =
        let q = c.stands.parses in
        record { inside = c.stands.inside; parses = by_contours ∙ simp q }

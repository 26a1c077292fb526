-- The two tables filled with the contours of a layer, one by one: a lemma for each step of `fill_layer`.
use mathlib.Core.Path.{◌≡◌, refl, sym, ap, ◌∙◌, subst}
use mathlib.Core.Bool.{Bool, true, false}
use mathlib.Core.List.{List, [], ◌∷◌, ◌++◌, flatten}
use Rattle.std.specs.Prelude.{Result, Ok, Err, IsOk}
use Prim.Native.Nat.{ℕ, ◌+◌, ◌*◌, ◌-◌, ◌<◌, ◌≤◌}
use native.Mathlib.Omega.{arith}
use lib.Dec.{leb}
use lib.ListN.{length, drop, set}
use lib.Seq.{sets}
use lib.IntN.{ℤ}
use Rattle.laws.specs.Tables.{overwrite}
use Rattle.laws.specs.TableLaws.{overwrite_none, overwrite_more}
use Rattle.polygons.specs.Flat.{FlatLayer, flat, numbers_of, ends_from, ends_of, flat_of}
use Rattle.polygons.proofs.FlatLaws.{length_numbers, length_points, length_ends, flatten_none, flatten_first, ends_first}
use Rattle.cleaning.specs.declared.Profile.TheVariants.{Full}
use Rattle.file_formats.specs.Formats.{parsed, refused, parse_all, sequence}
use Rattle.file_formats.specs.FormatLaws.{not_refused}
use Rattle.file_formats.specs.Numbers.{largest_word, number}
use Rattle.file_formats.specs.LayerFile.{Point, most_points, fewest_points, point_format, origin, latest}
use Rattle.file_formats.specs.LayerFile.{contour_format, room_after, contour_list, contour_list_in}
use Rattle.file_formats.specs.LayerFileLaws.{point_tails, contour_bad, contour_few, contour_points, contour_length}
use Rattle.file_formats.specs.Positions.{number_at}
use Rattle.file_formats.specs.PositionLaws.{Tails, took, not_took, sequence_tails, parsed_at, passed}
use Rattle.file_formats.specs.SequenceLaws.{FirstParsed, first_parsed, none}
use Rattle.file_formats.specs.EmitLaws.{Emit, emit_start, emit, emit_fits, emit_one, emit_one_fits, emit_end}
use Rattle.file_formats.specs.declared.Broken.{Broken}
use Rattle.file_check.specs.AnswerLaws.{told_parsed, contours_by_count}
use Rattle.read_layer.specs.Places.{points_from, contours_from, FillPoints, FilledPoints, FillLayer, filled_layer}

-- what is written from the first entry on
pub sets_front : {A : Type 0} (vs t : List A) → length vs ≤ length t → sets t 0 vs ≡ overwrite vs t
sets_front vs t h = ap (λ l. sets l 0 vs) (sym (overwrite_none t)) ∙ overwrite_more vs [] t 0 refl (omega arith)

-- ---- the loop: of the tables t, which are u now, `done` points and c contours of n are written, and the others stand at i

pub record LayerFilling (file : List ℕ) (at : ℕ) (t : FlatLayer) (n : ℕ) (u : FlatLayer) (i done c : ℕ) : Type 0 where
  pub low : done ≤ most_points
  pub inside : i ≤ length file
  pub qs : List (List Point)
  pub rest : List ℕ
  pub parses : parse_all contour_format room_after (n - c) (most_points - done) (drop i file) ≡ parsed qs rest
  pub points_go : Emit t.points 0 (numbers_of (flatten (contours_from file at))) u.points (2 * done) (numbers_of (flatten qs))
  pub ends_go : Emit t.ends 0 (ends_of (contours_from file at)) u.ends c (ends_from done qs)

module _ {file : List ℕ} {at : ℕ} {t : FlatLayer} (f : FillLayer file at t) where
  pub count_there : (met : Result (ℕ × ℕ) Broken) → met ≡ number_at largest_word file at → IsOk met
  unfolding contour_list_in
  count_there (Ok n) e = refl
  count_there (Err b) e =
      let p = not_took largest_word file at (sym e) in
      let q : contour_list.parse (drop at file) ≡ refused (drop at file) = simp p in
      not_refused (sym q ∙ f.stands.parses)

  pub layer_filling : {n start : ℕ} → number_at largest_word file at ≡ Ok (n, start) → LayerFilling file at t n t start 0 0
  layer_filling {n} {start} e =
      let s : f.cs ≡ contours_from file at = told_parsed (λ cs next. cs) (λ q. []) contour_list file at f.cs f.next f.stands in
      let z : n - 0 ≡ n = omega arith in
      record {
        low = omega arith;
        inside = (took e).inside;
        qs = f.cs;
        rest = drop f.next file;
        parses =
            ap (λ (k : ℕ). parse_all contour_format room_after k most_points (drop start file)) z
            ∙ sym (contours_by_count Full file at n start e) ∙ f.stands.parses;
        points_go =
            subst (λ (cs : List (List Point)). Emit t.points 0 (numbers_of (flatten cs)) t.points 0 (numbers_of (flatten f.cs))) s
            (emit_start t.points 0 (numbers_of (flatten f.cs)) (omega (arith, f.points_long, length_points f.cs)));
        ends_go =
            subst (λ (cs : List (List Point)). Emit t.ends 0 (ends_of cs) t.ends 0 (ends_of f.cs)) s
            (emit_start t.ends 0 (ends_of f.cs) (omega (arith, f.ends_long, length_ends 0 f.cs)));
      }

module _ {file : List ℕ} {at : ℕ} {t : FlatLayer} {n : ℕ} {u : FlatLayer} {i done c : ℕ} (w : LayerFilling file at t n u i done c) where
  -- what the tables are to hold
  abbrev all : FlatLayer
  all = flat_of (contours_from file at)

  pub filled : n ≤ c → u ≡ filled_layer file at t
  unfolding ends_from
  filled h =
      let q = none contour_format room_after (n - c) (most_points - done) (drop i file) w.qs w.rest (omega arith) w.parses in
      let p = subst (Emit t.points 0 all.points u.points (2 * done)) (ap (λ (cs : List (List Point)). numbers_of (flatten cs)) q.0 ∙ flatten_none)
      w.points_go in
      let e = subst (λ (cs : List (List Point)). Emit t.ends 0 all.ends u.ends c (ends_from done cs)) q.0 w.ends_go in
      λ j. flat (((emit_end p).1 ∙ sets_front all.points t.points (omega (arith, p.room))) j)
      (((emit_end e).1 ∙ sets_front all.ends t.ends (omega (arith, e.room))) j)

  module _ (h : c < n) where
    head : FirstParsed contour_format room_after (n - c) (most_points - done) (drop i file) w.qs w.rest
    head = first_parsed contour_format room_after (n - c) (most_points - done) (drop i file) w.qs w.rest (omega arith) w.parses

    entries : Emit t.points 0 all.points u.points (2 * done) (numbers_of head.value ++ numbers_of (flatten head.others))
    entries =
        subst (Emit t.points 0 all.points u.points (2 * done))
        (ap (λ (cs : List (List Point)). numbers_of (flatten cs)) head.is ∙ flatten_first head.value head.others) w.points_go

    end_entries : Emit t.ends 0 all.ends u.ends c ((done + length head.value) ∷ ends_from (done + length head.value) head.others)
    end_entries =
        subst (Emit t.ends 0 all.ends u.ends c)
        (ap (ends_from done) head.is ∙ ends_first done head.value head.others) w.ends_go

    pub end_fits : c < length u.ends
    end_fits = emit_one_fits (done + length head.value) (ends_from (done + length head.value) head.others) end_entries

    pub points_there : (met : Result (ℕ × ℕ) Broken) → met ≡ number_at (most_points - done) file i → IsOk met
    points_there (Ok n) f = refl
    points_there (Err b) f = not_refused (sym (contour_bad (most_points - done) (drop i file) (not_took (most_points - done) file i (sym f))) ∙ head.head)

    module _ {k next : ℕ} (f : number_at (most_points - done) file i ≡ Ok (k, next)) where
      count_parses : (number (most_points - done)).parse (drop i file) ≡ parsed k (drop next file)
      count_parses = (took f).parses

      enough : leb fewest_points k ≡ true
      enough = by (leb fewest_points k) refl
        where
          by : (b : Bool) → leb fewest_points k ≡ b → b ≡ true
          by true g = refl
          by false g = not_refused (sym (contour_few (most_points - done) (drop i file) k (drop next file) count_parses g) ∙ head.head)

      size : length head.value ≡ k
      size = contour_length (most_points - done) (drop i file) k (drop next file) count_parses enough head.value head.rest head.head

      pub still_low : done + k ≤ most_points
      still_low = omega (arith, w.low, (took f).low)

      body : (sequence point_format latest k origin).parse (drop next file) ≡ parsed head.value head.rest
      body = sym (contour_points (most_points - done) (drop i file) k (drop next file) count_parses enough) ∙ head.head

      -- the points stand in the file from `next` on
      tails : Tails (sequence point_format latest k origin)
      tails = sequence_tails point_format latest point_tails k origin

      next_inside : next ≤ length file
      next_inside = (took f).inside

      pub fill_ready : FillPoints file next k u.points (2 * done)
      fill_ready =
          record {
            inside = next_inside;
            ps = head.value;
            next = length file - length head.rest;
            stands = parsed_at tails file next next_inside head.value head.rest body;
            room = omega (arith, emit_fits (numbers_of head.value) (numbers_of (flatten head.others)) entries, length_numbers head.value, size);
          }

      pub next_contour : {r : ℕ} {m' : List ℤ} → FilledPoints file next k u.points (2 * done) r m'
          → LayerFilling file at t n (flat m' (set u.ends c (done + k))) r (done + k) (c + 1)
      next_contour {r} {m'} g =
          let q = passed (sequence point_format latest k origin) file next r tails next_inside (sym g.next) in
          let p : parsed head.value head.rest ≡ parsed q.0 (drop r file) = sym body ∙ q.1.parses in
          let v : q.0 ≡ head.value = cc in
          let l : head.rest ≡ drop r file = cc in
          let s : points_from k file next ≡ head.value =
          sym (told_parsed (λ ps next. ps) (λ q. []) (sequence point_format latest k origin) file next q.0 r q.1) ∙ v in
          let x : m' ≡ sets u.points (2 * done) (numbers_of head.value) = g.table
          ∙ ap (λ (ps : List Point). sets u.points (2 * done) (numbers_of ps)) s in
          let y : 2 * done + length (numbers_of head.value) ≡ 2 * (done + k) = omega (arith, length_numbers head.value, size) in
          let z : most_points - done - length head.value ≡ most_points - (done + k) = omega (arith, size) in
          let m : n - c - 1 ≡ n - (c + 1) = omega arith in
          record {
            low = still_low;
            inside = q.1.inside;
            qs = head.others;
            rest = w.rest;
            parses = (λ i. parse_all contour_format room_after (sym m i) (sym z i) (sym l i)) ∙ head.tail;
            points_go = rw (x, ← y) (emit (numbers_of head.value) (numbers_of (flatten head.others)) entries);
            ends_go =
                subst (λ (j : ℕ). Emit t.ends 0 all.ends (set u.ends c (done + j)) (c + 1) (ends_from (done + j) head.others)) size
                (emit_one (done + length head.value) (ends_from (done + length head.value) head.others) end_entries);
          }

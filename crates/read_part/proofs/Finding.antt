-- The first pass over a part file: what it knows after each value and each table, and what it answers at each return.
use mathlib.Core.Path.{◌≡◌, refl, sym, ap, ◌∙◌, subst}
use mathlib.Core.List.{List, []}
use Rattle.std.specs.Prelude.{Result, Ok, Err, IsErrAnd}
use Rattle.mesh.proofs.Raising.{raised}
use Prim.Native.Nat.{ℕ, ◌*◌, ◌<◌, ◌≤◌}
use lib.ListN.{length, drop, drop_of_length-le}
use Rattle.file_formats.specs.Formats.{parsed, Format, broken}
use Rattle.file_formats.specs.Numbers.{largest_word, number}
use Rattle.file_formats.specs.PartFile.{signed_run, plain_run, signed_list, mesh_counts, counts_format, tables_for, part_file, part_of}
use Rattle.file_formats.specs.PartFileLaws.{signed_run_tails, plain_run_tails, part_file_tails, no_vertices, no_triangles, coords_stop, corners_stop}
use Rattle.file_formats.specs.Positions.{breaks_at, number_at, extent_at}
use Rattle.file_formats.specs.PositionLaws.{Tails, took, not_took, number_breaks, passed, file_refused, file_left_over}
use Rattle.file_formats.specs.SequenceLaws.{extent_mapped, headed_next, headed_bad}
use Rattle.file_formats.specs.declared.Broken.{Broken}
use Rattle.read_part.specs.declared.unchecked.FileRun.{FileRun}
use Rattle.read_part.specs.declared.unchecked.Layout.{Layout}
use Rattle.read_part.specs.Layouts.{values, values_of, CountsStand, Tabled, Laid, Finds}
use Rattle.read_part.proofs.Runs.{signed_extent}

-- where the file breaks, what a `?` hands on is what was found
pub breaks_off : (file : List ℕ) {b : Broken} (met : Result Layout Broken) → IsErrAnd met (λ y. y ≡ b) → part_of file ≡ broken b.at → Finds file met
unfolding Finds
breaks_off file met h e = subst (Finds file) (sym (raised met h)) e

-- ---- runs

-- a run that goes to its end has its values there
pub record RunTo {A : Type 0} (F : ℕ → Format (List A)) (file : List ℕ) (run : FileRun) (next : ℕ) : Type 0 where
  pub inside : next ≤ length file
  pub parses : (F run.count).parse (drop run.at file) ≡ parsed (values_of F file run) (drop next file)

run_to : {A : Type 0} (F : ℕ → Format (List A)) (file : List ℕ) (run : FileRun) (next : ℕ) → Tails (F run.count) → run.at ≤ length file
    → extent_at (F run.count) file run.at ≡ Ok next → RunTo F file run next
unfolding values_of
run_to {A} F file run next T h e =
    let q = passed (F run.count) file run.at next T h e in
    let p = q.1.parses in
    record { inside = q.1.inside; parses = p ∙ ap (λ (xs : List A). parsed xs (drop next file)) (sym (ap values p)) }

module _ (file : List ℕ) where
  pub signed_to : (run : FileRun) (next : ℕ) → run.at ≤ length file → extent_at (plain_run run.count) file run.at ≡ Ok next
      → RunTo signed_run file run next
  signed_to run next h e = run_to signed_run file run next (signed_run_tails run.count) h (signed_extent run.count file run.at ∙ e)

  pub plain_to : (run : FileRun) (next : ℕ) → run.at ≤ length file → extent_at (plain_run run.count) file run.at ≡ Ok next → RunTo plain_run file run next
  plain_to run next h e = run_to plain_run file run next (plain_run_tails run.count) h e

  -- ---- the counts

  -- where no number may stand, the file breaks there
  breaks_here : (at : ℕ) {b : Broken} → number_at largest_word file at ≡ Err b → extent_at part_file file 0 ≡ Err (breaks_at at) → part_of file ≡ broken b.at
  unfolding part_of
  breaks_here at e f = file_refused part_file file at f ∙ ap (λ (b : Broken). broken b.at) (sym (number_breaks largest_word file at e))

  pub no_vertex_count : {b : Broken} → number_at largest_word file 0 ≡ Err b → part_of file ≡ broken b.at
  no_vertex_count e = breaks_here 0 e (no_vertices file (not_took largest_word file 0 e))

  module _ {v a : ℕ} (e : number_at largest_word file 0 ≡ Ok (v, a)) where
    pub no_triangle_count : {b : Broken} → number_at largest_word file a ≡ Err b → part_of file ≡ broken b.at
    no_triangle_count f =
        let w = took e in
        breaks_here a f (no_triangles file v a w.parses w.inside (not_took largest_word file a f))

    pub counts_stand : {t b : ℕ} → number_at largest_word file a ≡ Ok (t, b) → CountsStand file (3 * v) (3 * t) b
    unfolding counts_format
    counts_stand {t} {b} f =
        let w = took e in
        let x = took f in
        let p : (number largest_word).parse file ≡ parsed v (drop a file) = w.parses in
        record { vertices = v; triangles = t; coords_are = refl; corners_are = refl; inside = x.inside; parses = simp (p, x.parses) }

  -- ---- coordinates and corners

  module _ {coords corners at : ℕ} (k : CountsStand file coords corners at) where
    abbrev told : ℕ × ℕ
    told = (k.vertices, k.triangles)

    -- after the counts the tables decide
    after_counts : extent_at part_file file 0 ≡ extent_at (tables_for told) file at
    unfolding part_file
    after_counts = headed_next mesh_counts counts_format tables_for file 0 told at k.parses

    pub coords_broken : {b : Broken} → extent_at (plain_run coords) file at ≡ Err b → part_of file ≡ broken b.at
    unfolding part_of
    coords_broken {b} e =
        let f : extent_at (signed_run (3 * k.vertices)) file at ≡ Err b = rw (← k.coords_are) (signed_extent coords file at ∙ e) in
        file_refused part_file file b.at (after_counts ∙ coords_stop told file at b.at f)

    module _ {i : ℕ} (e : extent_at (plain_run coords) file at ≡ Ok i) where
      coords_end : extent_at (signed_run (3 * k.vertices)) file at ≡ Ok i
      coords_end = rw (← k.coords_are) (signed_extent coords file at ∙ e)

      pub coords_run : RunTo signed_run file (record { at = at; count = coords }) i
      coords_run = signed_to (record { at = at; count = coords }) i k.inside e

      pub corners_broken : {b : Broken} → extent_at (plain_run corners) file i ≡ Err b → part_of file ≡ broken b.at
      unfolding part_of
      corners_broken {b} f =
          let g : extent_at (plain_run (3 * k.triangles)) file i ≡ Err b = rw (← k.corners_are) f in
          file_refused part_file file b.at (after_counts ∙ corners_stop told file at k.inside i coords_end b.at g)

      pub tabled : {j : ℕ} → extent_at (plain_run corners) file i ≡ Ok j
          → Tabled file (record { at = at; count = coords }) (record { at = i; count = corners }) j
      tabled {j} f =
          let p = coords_run in
          let q = plain_to (record { at = i; count = corners }) j p.inside f in
          record { counted = k; coords_parse = p.parses; corners_parse = q.parses; inside = q.inside }

  -- ---- heights

  module _ {coords corners : FileRun} {at : ℕ} (t : Tabled file coords corners at) where
    abbrev v : ℕ
    v = t.counted.vertices

    abbrev n : ℕ
    n = t.counted.triangles

    coords_parsed : (signed_run (3 * v)).parse (drop coords.at file) ≡ parsed (values_of signed_run file coords) (drop corners.at file)
    coords_parsed =
        subst (λ (m : ℕ). (signed_run m).parse (drop coords.at file) ≡ parsed (values_of signed_run file coords) (drop corners.at file))
        t.counted.coords_are t.coords_parse

    corners_parsed : (plain_run (3 * n)).parse (drop corners.at file) ≡ parsed (values_of plain_run file corners) (drop at file)
    corners_parsed =
        subst (λ (m : ℕ). (plain_run m).parse (drop corners.at file) ≡ parsed (values_of plain_run file corners) (drop at file))
        t.counted.corners_are t.corners_parse

    -- after the tables the heights decide
    after_tables : extent_at part_file file 0 ≡ extent_at signed_list file at
    unfolding part_file tables_for extent_at
    after_tables = simp (t.counted.parses, coords_parsed, corners_parsed, extent_mapped)

    pub no_height_count : {b : Broken} → number_at largest_word file at ≡ Err b → part_of file ≡ broken b.at
    unfolding signed_list
    no_height_count e = breaks_here at e
        (after_tables ∙ headed_bad length (number largest_word) signed_run file at t.inside (not_took largest_word file at e))

    module _ {h k : ℕ} (e : number_at largest_word file at ≡ Ok (h, k)) where
      after_height_count : extent_at part_file file 0 ≡ extent_at (signed_run h) file k
      unfolding signed_list
      after_height_count = after_tables ∙ headed_next length (number largest_word) signed_run file at h k (took e).parses

      pub heights_broken : {b : Broken} → extent_at (plain_run h) file k ≡ Err b → part_of file ≡ broken b.at
      unfolding part_of
      heights_broken {b} f = file_refused part_file file b.at (after_height_count ∙ signed_extent h file k ∙ f)

      module _ {end : ℕ} (f : extent_at (plain_run h) file k ≡ Ok end) where
        pub left_over_lem : end < length file → part_of file ≡ broken end
        unfolding part_of
        left_over_lem l = file_left_over part_file file end part_file_tails (after_height_count ∙ signed_extent h file k ∙ f) l

        pub laid : length file ≤ end → Laid file (record { coords = coords; corners = corners; heights = record { at = k; count = h } })
        unfolding part_of part_file tables_for signed_list
        laid l =
            let w = took e in
            let r = signed_to (record { at = k; count = h }) end w.inside f in
            let p : (signed_run h).parse (drop k file) ≡ parsed (values_of signed_run file (record { at = k; count = h })) [] =
            r.parses ∙ ap (parsed (values_of signed_run file (record { at = k; count = h }))) (drop_of_length-le file l) in
            record {
              coords_stand = record { rest = drop corners.at file; parses = t.coords_parse };
              corners_stand = record { rest = drop at file; parses = t.corners_parse };
              heights_stand = record { rest = []; parses = p };
              is = simp (t.counted.parses, coords_parsed, corners_parsed, w.parses, p);
            }

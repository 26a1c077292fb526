-- The part file's formats are lawful, and stay in the file.
use Rattle.std.specs.Prelude.{◌≡◌, refl, List, [], ◌∷◌, ℕ, zero, suc, ◌*◌, ◌/◌, ◌≤◌, drop, ℤ, Ok, Err}
use Rattle.std.proofs.Common.{◌∙◌, subst, arith}
use Rattle.std.proofs.Math.ListN.{length}
use Rattle.file_formats.specs.Formats.{parsed, refused, Format, pair, valid_all, alike, stay, Each}
use Rattle.file_formats.specs.FormatLaws.{Lawful, through_laws, pair_laws, headed_laws, sequence_laws, valid_length}
use Rattle.file_formats.specs.Numbers.{largest_word, number, signed, Word}
use Rattle.file_formats.specs.NumberLaws.{number_laws, signed_laws, word_sent, sent_word}
use Rattle.file_formats.specs.PositionLaws.{place_drop, Tails, number_tails, signed_tails, through_tails, pair_tails, headed_tails, sequence_tails}
use Rattle.file_formats.specs.PositionLaws.{passed}
use Rattle.file_formats.specs.Positions.{breaks_at, extent_at}
use Rattle.file_formats.specs.SequenceLaws.{through_extent, pair_next, pair_stop, pair_bad, headed_stop}
use Rattle.file_formats.specs.PartFile.{Part, signed_run, plain_run, signed_list, mesh_counts, counts_format, tables_for, part_file, PartRules}

-- ---- runs of numbers

module _ (n : ℕ) where
  pub signed_run_laws : Lawful (signed_run n)
  unfolding signed_run
  signed_run_laws = sequence_laws (alike (signed largest_word)) stay (λ s. signed_laws largest_word) n tt

  pub signed_run_tails : Tails (signed_run n)
  unfolding signed_run
  signed_run_tails = sequence_tails (alike (signed largest_word)) stay (λ s. signed_tails largest_word) n tt

  pub signed_run_length : (zs : List ℤ) → (signed_run n).valid zs → length zs ≡ n
  unfolding signed_run
  signed_run_length zs h = valid_length (alike (signed largest_word)) stay n tt zs h

  pub plain_run_laws : Lawful (plain_run n)
  unfolding plain_run
  plain_run_laws = sequence_laws (alike (number largest_word)) stay (λ s. number_laws largest_word) n tt

  pub plain_run_tails : Tails (plain_run n)
  unfolding plain_run
  plain_run_tails = sequence_tails (alike (number largest_word)) stay (λ s. number_tails largest_word) n tt

  pub plain_run_length : (ns : List ℕ) → (plain_run n).valid ns → length ns ≡ n
  unfolding plain_run
  plain_run_length ns h = valid_length (alike (number largest_word)) stay n tt ns h

pub signed_list_laws : Lawful signed_list
unfolding signed_list
signed_list_laws = headed_laws length (number largest_word) signed_run (λ n zs h. signed_run_length n zs h) (number_laws largest_word) signed_run_laws

pub signed_list_tails : Tails signed_list
unfolding signed_list
signed_list_tails = headed_tails length (number largest_word) signed_run (number_tails largest_word) signed_run_tails

-- ---- the file

pub counts_laws : Lawful counts_format
unfolding counts_format
counts_laws = pair_laws (number largest_word) (λ v. number largest_word) (number_laws largest_word) (λ v. number_laws largest_word)

pub counts_tails : Tails counts_format
unfolding counts_format
counts_tails = pair_tails (number largest_word) (λ v. number largest_word) (number_tails largest_word) (λ v. number_tails largest_word)

abbrev tables : ℕ × ℕ → Format (List ℤ × (List ℕ × List ℤ))
tables n = pair (signed_run (3 * n.0)) (λ cs. pair (plain_run (3 * n.1)) (λ ks. signed_list))

module _ (n : ℕ × ℕ) where
  pub tables_for_laws : Lawful (tables_for n)
  unfolding tables_for
  tables_for_laws =
      through_laws {B = Part} (λ q. record { coords = q.0; corners = q.1.0; heights = q.1.1 }) (λ p. (p.coords, (p.corners, p.heights))) (tables n)
      (λ q. refl) (λ p. refl)
      (pair_laws (signed_run (3 * n.0)) (λ cs. pair (plain_run (3 * n.1)) (λ ks. signed_list)) (signed_run_laws (3 * n.0))
      (λ cs. pair_laws (plain_run (3 * n.1)) (λ ks. signed_list) (plain_run_laws (3 * n.1)) (λ ks. signed_list_laws)))

  pub tables_for_tails : Tails (tables_for n)
  unfolding tables_for
  tables_for_tails =
      through_tails {B = Part} (λ q. record { coords = q.0; corners = q.1.0; heights = q.1.1 }) (λ p. (p.coords, (p.corners, p.heights))) (tables n)
      (pair_tails (signed_run (3 * n.0)) (λ cs. pair (plain_run (3 * n.1)) (λ ks. signed_list)) (signed_run_tails (3 * n.0))
      (λ cs. pair_tails (plain_run (3 * n.1)) (λ ks. signed_list) (plain_run_tails (3 * n.1)) (λ ks. signed_list_tails)))

  -- tables of these sizes have these counts
  pub tables_for_counts : (p : Part) → (tables_for n).valid p → mesh_counts p ≡ n
  unfolding tables_for
  tables_for_counts p h =
      let a : length p.coords / 3 ≡ n.0 = omega (arith, signed_run_length (3 * n.0) p.coords h.0) in
      let b : length p.corners / 3 ≡ n.1 = omega (arith, plain_run_length (3 * n.1) p.corners h.1.0) in
      λ i. (a i, b i)

pub part_file_laws : Lawful part_file
unfolding part_file
part_file_laws = headed_laws mesh_counts counts_format tables_for tables_for_counts counts_laws tables_for_laws

pub part_file_tails : Tails part_file
unfolding part_file
part_file_tails = headed_tails mesh_counts counts_format tables_for counts_tails tables_for_tails

-- ---- parts may be written exactly if they obey the rules

-- numbers in a row, each by a rule P that its format's rule is the same as
module _ {A : Type 0} (F : Format A) (P : A → Type 0) where
  run_valid : ((a : A) → P a → F.valid a) → (l : List A) → Each P l → valid_all (alike F) stay (length l) tt l
  run_valid f [] e = tt
  run_valid f (a ∷ l) e = (f a e.0, run_valid f l e.1)

  run_ruled : ((a : A) → F.valid a → P a) → (n : ℕ) (l : List A) → valid_all (alike F) stay n tt l → Each P l
  run_ruled f n [] e = tt
  run_ruled f zero (a ∷ l) e = absurd e
  run_ruled f (suc n) (a ∷ l) e = (f a e.0, run_ruled f n l e.1)

signed_run_valid : (n : ℕ) (zs : List ℤ) → length zs ≡ n → Each Word zs → (signed_run n).valid zs
unfolding signed_run
signed_run_valid n zs h e = subst (λ (k : ℕ). valid_all (alike (signed largest_word)) stay k tt zs) h (run_valid (signed largest_word) Word word_sent zs e)

signed_run_ruled : (n : ℕ) (zs : List ℤ) → (signed_run n).valid zs → Each Word zs
unfolding signed_run
signed_run_ruled n zs e = run_ruled (signed largest_word) Word sent_word n zs e

plain_run_valid : (n : ℕ) (ns : List ℕ) → length ns ≡ n → Each (λ k. k ≤ largest_word) ns → (plain_run n).valid ns
unfolding plain_run
plain_run_valid n ns h e = subst (λ (k : ℕ). valid_all (alike (number largest_word)) stay k tt ns) h
    (run_valid (number largest_word) (λ k. k ≤ largest_word) (λ k l. l) ns e)

plain_run_ruled : (n : ℕ) (ns : List ℕ) → (plain_run n).valid ns → Each (λ k. k ≤ largest_word) ns
unfolding plain_run
plain_run_ruled n ns e = run_ruled (number largest_word) (λ k. k ≤ largest_word) (λ k l. l) n ns e

pub part_rules_valid : (p : Part) → PartRules p → part_file.valid p
unfolding part_file counts_format tables_for signed_list
part_rules_valid p r =
    let a : length p.coords ≡ 3 * (length p.coords / 3) = omega (arith, r.whole_vertices) in
    let b : length p.corners ≡ 3 * (length p.corners / 3) = omega (arith, r.whole_triangles) in (
      (r.vertices_fit, r.triangles_fit),
      (
        signed_run_valid (3 * (length p.coords / 3)) p.coords a r.each_coord,
        (
          plain_run_valid (3 * (length p.corners / 3)) p.corners b r.each_corner,
          (r.heights_fit, signed_run_valid (length p.heights) p.heights refl r.each_height),
        ),
      ),
    )

pub part_valid_rules : (p : Part) → part_file.valid p → PartRules p
unfolding part_file counts_format tables_for signed_list
part_valid_rules p e =
    record {
      whole_vertices = omega (arith, signed_run_length (3 * (length p.coords / 3)) p.coords e.1.0);
      whole_triangles = omega (arith, plain_run_length (3 * (length p.corners / 3)) p.corners e.1.1.0);
      vertices_fit = e.0.0;
      triangles_fit = e.0.1;
      heights_fit = e.1.1.1.0;
      each_coord = signed_run_ruled (3 * (length p.coords / 3)) p.coords e.1.0;
      each_corner = plain_run_ruled (3 * (length p.corners / 3)) p.corners e.1.1.0;
      each_height = signed_run_ruled (length p.heights) p.heights e.1.1.1.1;
    }

-- ---- how far a part file goes, by its values and tables

module _ (file : List ℕ) where
  pub no_vertices : (number largest_word).parse file ≡ refused file → extent_at part_file file 0 ≡ Err (breaks_at 0)
  unfolding part_file counts_format
  no_vertices e = headed_stop mesh_counts counts_format tables_for file 0 0 (pair_bad (number largest_word) (λ v. number largest_word) file 0 (omega arith) e)

  module _ (v a : ℕ) (e : (number largest_word).parse file ≡ parsed v (drop a file)) where
    pub no_triangles : a ≤ length file → (number largest_word).parse (drop a file) ≡ refused (drop a file) → extent_at part_file file 0 ≡ Err (breaks_at a)
    unfolding part_file counts_format extent_at
    no_triangles h f = simp (e, f, place_drop file a h)

    pub part_tables : (t b : ℕ) → (number largest_word).parse (drop a file) ≡ parsed t (drop b file)
        → extent_at part_file file 0 ≡ extent_at (tables_for (v, t)) file b
    unfolding part_file counts_format extent_at
    part_tables t b f = simp (e, f)

module _ (n : ℕ × ℕ) (file : List ℕ) (at : ℕ) where
  pub coords_stop : (i : ℕ) → extent_at (signed_run (3 * n.0)) file at ≡ Err (breaks_at i) → extent_at (tables_for n) file at ≡ Err (breaks_at i)
  unfolding tables_for
  coords_stop i e = through_extent _ _ (tables n) file at ∙ pair_stop (signed_run (3 * n.0)) (λ cs. pair (plain_run (3 * n.1)) (λ ks. signed_list)) file at i e

  module _ (h : at ≤ length file) (b : ℕ) (e : extent_at (signed_run (3 * n.0)) file at ≡ Ok b) where
    after_coords : extent_at (tables_for n) file at ≡ extent_at (pair (plain_run (3 * n.1)) (λ ks. signed_list)) file b
    unfolding tables_for
    after_coords =
        let q = passed (signed_run (3 * n.0)) file at b (signed_run_tails (3 * n.0)) h e in
        through_extent _ _ (tables n) file at
        ∙ pair_next (signed_run (3 * n.0)) (λ cs. pair (plain_run (3 * n.1)) (λ ks. signed_list)) file at q.0 b q.1.parses

    pub corners_stop : (i : ℕ) → extent_at (plain_run (3 * n.1)) file b ≡ Err (breaks_at i) → extent_at (tables_for n) file at ≡ Err (breaks_at i)
    corners_stop i f = after_coords ∙ pair_stop (plain_run (3 * n.1)) (λ ks. signed_list) file b i f

    pub part_heights : (c : ℕ) → extent_at (plain_run (3 * n.1)) file b ≡ Ok c → extent_at (tables_for n) file at ≡ extent_at signed_list file c
    part_heights c f =
        let g = passed (signed_run (3 * n.0)) file at b (signed_run_tails (3 * n.0)) h e in
        let q = passed (plain_run (3 * n.1)) file b c (plain_run_tails (3 * n.1)) g.1.inside f in
        after_coords ∙ pair_next (plain_run (3 * n.1)) (λ ks. signed_list) file b q.0 c q.1.parses

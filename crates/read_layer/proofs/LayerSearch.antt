-- The way to a layer: a lemma for each return of `check_from`, `find_layer` and `refusal_at`.
use mathlib.Core.Path.{◌≡◌, refl, sym, ap, ◌∙◌, subst}
use mathlib.Core.List.{List, [], ◌∷◌, ◌++◌}
use Rattle.std.specs.Prelude.{Result, Ok, Err, Option, Some, None, IsErrAnd}
use Prim.Native.Nat.{ℕ, suc, ◌+◌, ◌-◌, ◌<◌, ◌≤◌}
use native.Mathlib.Omega.{arith}
use native.Mathlib.Nat.{add-zero}
use lib.ListN.{length, drop, length-append}
use lib.Seq.{get_or-append-add}
use lib.IntN.{ℤ, pos}
use Rattle.mesh.proofs.Raising.{raised}
use Rattle.mesh.specs.declared.Refusal.{Refusal}
use Rattle.mesh.specs.declared.Refusal.TheVariants.{File, Unclean}
use Rattle.cleaning.specs.declared.Profile.{Profile}
use Rattle.cleaning.specs.declared.Profile.TheVariants.{Full, Clean}
use Rattle.file_formats.specs.Formats.{Parse, parsed, refused, Format, and_then, mapped, finished, parse_all, state_after, sequence}
use Rattle.file_formats.specs.FormatLaws.{finished_in}
use Rattle.file_formats.specs.LayerFile.{Point, Layer, layer_format, layer_format_in, lowest, height_of}
use Rattle.file_formats.specs.LayerFileLaws.{contour_list_within}
use Rattle.file_formats.specs.Positions.{breaks_at, extent_at, ParsedAt}
use Rattle.file_formats.specs.PositionLaws.{stopped}
use Rattle.file_formats.specs.SequenceLaws.{parse_split, parsed_length}
use Rattle.file_formats.specs.declared.Broken.{Broken}
use Rattle.file_check.specs.Answers.{height_told_at, counts_at, levels_at, final}
use Rattle.file_check.specs.AnswerLaws.{height_read, height_word, Off, ContoursCounted, counts_read, levels_read, final_off, height_inside, layer_read}
use Rattle.file_check.specs.declared.CountsEnd.{CountsEnd}
use Rattle.file_check.specs.declared.LevelsEnd.{LevelsEnd}
use Rattle.read_layer.specs.Reading.{layer_at}
use Rattle.read_layer.specs.Places.{LayerStands, last_layers, Searched, broken_told}
use Rattle.read_layer.specs.declared.LayerPlace.{LayerPlace}

-- ---- the end of the file after a run of layers

finished_mapped : {A B : Type 0} (f : A → B) (d : Parse A) → finished (mapped f d) ≡ mapped f (finished d)
finished_mapped f (parsed a []) = refl
finished_mapped f (parsed a (b ∷ r)) = refl
finished_mapped f (refused r) = refl

extent_end : {A : Type 0} (F : Format A) (file : List ℕ) (at i : ℕ) → extent_at F file at ≡ Ok i
    → (a : A) × (r : List ℕ) × (F.parse (drop at file) ≡ parsed a r)
unfolding extent_at
extent_end {A} F file at i e = by (F.parse (drop at file)) refl
  where
    by : (d : Parse A) → F.parse (drop at file) ≡ d → (a : A) × (r : List ℕ) × (F.parse (drop at file) ≡ parsed a r)
    by (parsed a r) p = (a, r, p)
    by (refused r) p = let e' : Err (breaks_at (length file - length r)) ≡ Ok i = simp p at e in let z : ◌≡◌ {A = ℕ} 0 1 = cc in absurd (omega arith)

-- what a search answers where the layers are refused
searched_off : (F : Format (List Layer)) (file : List ℕ) (at i e : ℕ) → Off F file at e → Searched file i (F.parse (drop at file)) (Err (breaks_at e))
searched_off F file at i e o =
    let p = o.parses in
    subst (λ (d : Parse (List Layer)). Searched file i d (Err (breaks_at e))) (sym p) (ap (λ (k : ℕ). Err (breaks_at k)) o.place)

-- what a `?` hands on is what was found
pub searched_on : (file : List ℕ) (i : ℕ) (d : Parse (List Layer)) (b : Broken) (met : Result (Option LayerPlace) Broken) → IsErrAnd met (λ y. y ≡ b)
    → Searched file i d (Err b) → Searched file i d met
searched_on file i d b met h w = subst (Searched file i d) (sym (raised met h)) w

-- ---- the first of some layers

module _ (profile : Profile) (more : ℕ) (low : ℤ) (file : List ℕ) (at : ℕ) where
  first_off : (e : ℕ) → Off (layer_format_in profile low) file at e → Off (sequence (layer_format_in profile) height_of (suc more) low) file at e
  unfolding parse_all
  first_off e o = let p = o.parses in record { rest = o.rest; parses = simp p; place = o.place }

  pub first_stops : {b : Broken} → Off (layer_format_in profile low) file at b.at → Searched file 0 (last_layers profile (suc more) low file at) (Err b)
  first_stops {b} o =
      searched_off (final (sequence (layer_format_in profile) height_of (suc more) low)) file at 0 b.at
      (final_off (sequence (layer_format_in profile) height_of (suc more) low) file at b.at (first_off b.at o))

  module _ (l : Layer) (next : ℕ) (p : ParsedAt (layer_format_in profile low) file at l next) where
    after_first : last_layers profile (suc more) low file at
        ≡ mapped (λ ls. l ∷ ls) (last_layers profile more l.height file next)
    unfolding parse_all
    after_first = let q = p.parses in simp q (finished_mapped (λ ls. l ∷ ls) (parse_all (layer_format_in profile) height_of more l.height (drop next file)))

    rest_stops : (e : ℕ) → extent_at (final (sequence (layer_format_in profile) height_of more l.height)) file next ≡ Err (breaks_at e)
        → Searched file 0 (last_layers profile (suc more) low file at) (Err (breaks_at e))
    rest_stops e f =
        let s = stopped (final (sequence (layer_format_in profile) height_of more l.height)) file next e f in
        let q = s.1 in
        searched_off (final (sequence (layer_format_in profile) height_of (suc more) low)) file at 0 e
        (record { rest = s.0; parses = after_first ∙ simp q; place = s.2 })

    first_stands : (e : ℕ) (s : LayerPlace) → extent_at (final (sequence (layer_format_in profile) height_of more l.height)) file next ≡ Ok e
        → LayerStands file l s
        → Searched file 0 (last_layers profile (suc more) low file at) (Ok (Some s))
    first_stands e s f t =
        let q = extent_end (final (sequence (layer_format_in profile) height_of more l.height)) file next e f in
        let u = q.2 in
        let v : last_layers profile (suc more) low file at ≡ parsed (l ∷ q.0) q.1 = after_first ∙ simp u in
        subst (λ (d : Parse (List Layer)). Searched file 0 d (Ok (Some s))) (sym v) (omega arith, t)

-- the same by what the code has read: the height z, and the counts of contours and points
module _ (profile : Profile) (more : ℕ) (low : ℤ) (file : List ℕ) (at : ℕ) (h : at ≤ length file) {z : ℤ} {j : ℕ}
    (e : height_told_at low file at ≡ Ok (z, j))
    {c : CountsEnd} (f : counts_at profile file j ≡ Ok c) where
  body : (cs : List (List Point)) × ContoursCounted profile file j cs c.at c.contours c.points c.area
  body = counts_read profile file j (height_inside profile low file at h z j e) c f

  pub next_inside : c.at ≤ length file
  next_inside = body.1.stands.inside

  one : ParsedAt (layer_format_in profile low) file at (record { height = z; contours = body.0 }) c.at
  one = layer_read profile low file at h z j e body.0 c.at c.contours c.points c.area body.1

  module _ {x : ℤ} (same : x ≡ z) where
    pub last_stops : {b : Broken} → extent_at (final (sequence (layer_format_in profile) height_of more x)) file c.at ≡ Err b
        → Searched file 0 (last_layers profile (suc more) low file at) (Err b)
    last_stops {b} g =
        rest_stops profile more low file at (record { height = z; contours = body.0 }) c.at one b.at
        (subst (λ (y : ℤ). extent_at (final (sequence (layer_format_in profile) height_of more y)) file c.at ≡ Err b) same g)

    pub last_passes : {i : ℕ} → extent_at (final (sequence (layer_format_in profile) height_of more x)) file c.at ≡ Ok i
        → Searched file 0 (last_layers profile (suc more) low file at)
        (Ok (Some (record { height = x; at = j; contours = c.contours; points = c.points })))
    last_passes {i} g =
        first_stands profile more low file at (record { height = z; contours = body.0 }) c.at one i
        (record { height = x; at = j; contours = c.contours; points = c.points })
        (subst (λ (y : ℤ). extent_at (final (sequence (layer_format_in profile) height_of more y)) file c.at ≡ Ok i) same g)
        (record {
          height = same;
          word = height_word low (drop at file) z (drop j file) (height_read low file at h z j e).parses;
          contours = sym body.1.contours;
          points = sym body.1.points;
          inside = height_inside profile low file at h z j e;
          next = c.at;
          stands = record {
            inside = body.1.stands.inside;
            parses = contour_list_within profile (drop j file) body.0 (drop c.at file) body.1.stands.parses;
          };
        })

-- ---- layer i of some layers

module _ (profile : Profile) (n i : ℕ) (low : ℤ) (file : List ℕ) (at : ℕ) where
  split : i ≤ n → (d : Parse (List Layer)) → parse_all (layer_format_in profile) height_of i low (drop at file) ≡ d
      → last_layers profile n low file at
      ≡ finished (and_then d
      (λ xs r. mapped (λ ys. xs ++ ys) (parse_all (layer_format_in profile) height_of (n - i) (state_after (layer_format_in profile) height_of low xs) r)))
  split h d e =
      let z : i + (n - i) ≡ n = omega arith in
      ap (λ (k : ℕ). finished (parse_all (layer_format_in profile) height_of k low (drop at file))) (sym z)
      ∙ ap finished (parse_split (layer_format_in profile) height_of i (n - i) low (drop at file))
      ∙ ap (λ (d : Parse (List Layer)). finished (and_then d
      (λ xs r. mapped (λ ys. xs ++ ys) (parse_all (layer_format_in profile) height_of (n - i) (state_after (layer_format_in profile) height_of low xs) r)))) e

  pub before_stops : i < n → {b : Broken} → Off (sequence (layer_format_in profile) height_of i low) file at b.at
      → Searched file i (last_layers profile n low file at) (Err b)
  before_stops h {b} o =
      searched_off (final (sequence (layer_format_in profile) height_of n low)) file at i b.at
      (record { rest = o.rest; parses = split (omega arith) (refused o.rest) o.parses; place = o.place })

  -- layer 0 of those after the first i
  after_before : i < n → (xs : List Layer) (next : ℕ) → ParsedAt (sequence (layer_format_in profile) height_of i low) file at xs next
      → (s : Result (Option LayerPlace) Broken)
      → Searched file 0 (last_layers profile (suc (n - i - 1)) (state_after (layer_format_in profile) height_of low xs) file next) s
      → Searched file i (last_layers profile n low file at) s
  after_before h xs next p s w =
      let z : suc (n - i - 1) ≡ n - i = omega arith in
      let k : length xs ≡ i = parsed_length (layer_format_in profile) height_of i low (drop at file) xs (drop next file) p.parses in
      let e : last_layers profile n low file at ≡ mapped (λ ys. xs ++ ys)
      (last_layers profile (suc (n - i - 1)) (state_after (layer_format_in profile) height_of low xs) file next) =
      split (omega arith) (parsed xs (drop next file)) p.parses
      ∙ finished_mapped (λ ys. xs ++ ys)
      (parse_all (layer_format_in profile) height_of (n - i) (state_after (layer_format_in profile) height_of low xs) (drop next file))
      ∙ ap (λ (m : ℕ). mapped (λ ys. xs ++ ys) (last_layers profile m (state_after (layer_format_in profile) height_of low xs) file next)) (sym z) in
      subst (λ (d : Parse (List Layer)). Searched file i d s) (sym e)
      (by k (last_layers profile (suc (n - i - 1)) (state_after (layer_format_in profile) height_of low xs) file next) s w)
    where
      by : length xs ≡ i → (d : Parse (List Layer)) (s : Result (Option LayerPlace) Broken) → Searched file 0 d s
          → Searched file i (mapped (λ ys. xs ++ ys) d) s
      by k (refused r) s w = w
      by k (parsed ys r) (Err b) w = w
      by k (parsed ys r) (Ok None) w = omega (arith, length-append xs ys)
      by k (parsed ys r) (Ok (Some p)) w =
          let g : layer_at ys 0 ≡ layer_at (xs ++ ys) i =
          sym (get_or-append-add xs ys 0 (record { height = pos 0; contours = [] })) ∙ ap (layer_at (xs ++ ys)) (add-zero (length xs) ∙ k) in
          (omega (arith, w.0, length-append xs ys), subst (λ (l : Layer). LayerStands file l p) g w.1)

  -- the same by what the code has read: the position and the height after the first i layers
  module _ (h : at ≤ length file) {b : LevelsEnd} (e : levels_at profile i low file at ≡ Ok b) where
    pub before_inside : b.at ≤ length file
    before_inside = (levels_read profile file at i low h b e).1.inside

    pub before_passes : i < n → {x : ℤ} → x ≡ b.height → (s : Result (Option LayerPlace) Broken)
        → Searched file 0 (last_layers profile (suc (n - i - 1)) x file b.at) s
        → Searched file i (last_layers profile n low file at) s
    before_passes k {x} f s w =
        let q = levels_read profile file at i low h b e in
        after_before k q.0 b.at q.1 s
        (subst (λ (y : ℤ). Searched file 0 (last_layers profile (suc (n - i - 1)) y file b.at) s) (f ∙ sym q.2) w)

  -- no layer i
  pub none_there : n ≤ i → {e : ℕ} → extent_at (final (sequence (layer_format_in profile) height_of n low)) file at ≡ Ok e
      → Searched file i (last_layers profile n low file at) (Ok None)
  none_there h {e} f =
      let q = extent_end (final (sequence (layer_format_in profile) height_of n low)) file at e f in
      let j = finished_in (parse_all (layer_format_in profile) height_of n low (drop at file)) q.0 q.1 q.2 in
      let k : length q.0 ≡ n = parsed_length (layer_format_in profile) height_of n low (drop at file) q.0 [] j.0 in
      subst (λ (d : Parse (List Layer)). Searched file i d (Ok None)) (sym q.2) (omega arith)

  pub all_stop : {b : Broken} → extent_at (final (sequence (layer_format_in profile) height_of n low)) file at ≡ Err b
      → Searched file i (last_layers profile n low file at) (Err b)
  all_stop {b} f =
      let s = stopped (final (sequence (layer_format_in profile) height_of n low)) file at b.at f in
      searched_off (final (sequence (layer_format_in profile) height_of n low)) file at i b.at (record { rest = s.0; parses = s.1; place = s.2 })

-- ---- a file that breaks at e in a profile, by what the full one says of it

module _ (file : List ℕ) (at n e : ℕ) {profile : Profile} where
  pub told_full : profile ≡ Full → File e ≡ broken_told profile file (last_layers Full n lowest file at) e
  told_full g = ap (λ (p : Profile). broken_told p file (last_layers Full n lowest file at) e) (sym g)

  module _ (g : profile ≡ Clean) where
    as_clean : {r : Refusal} → r ≡ broken_told Clean file (last_layers Full n lowest file at) e
        → r ≡ broken_told profile file (last_layers Full n lowest file at) e
    as_clean h = h ∙ ap (λ (p : Profile). broken_told p file (last_layers Full n lowest file at) e) (sym g)

    pub told_unclean : {k : ℕ} → extent_at (final (sequence layer_format height_of n lowest)) file at ≡ Ok k
        → Unclean e ≡ broken_told profile file (last_layers Full n lowest file at) e
    told_unclean {k} f =
        let q = extent_end (final (sequence layer_format height_of n lowest)) file at k f in
        as_clean (ap (λ (d : Parse (List Layer)). broken_told Clean file d e) (sym q.2))

    pub told_broken : {b : Broken} → extent_at (final (sequence layer_format height_of n lowest)) file at ≡ Err b
        → File b.at ≡ broken_told profile file (last_layers Full n lowest file at) e
    told_broken {b} f =
        let q = stopped (final (sequence layer_format height_of n lowest)) file at b.at f in
        as_clean (ap File q.2 ∙ ap (λ (d : Parse (List Layer)). broken_told Clean file d e) (sym q.1))

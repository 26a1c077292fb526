-- What Read layer promises, in both profiles: it refuses exactly if a listed condition holds, at its place; its outcome is the only one; and it gives the
-- layer of a file that it does not refuse. When it refuses with 13, and when with 18, is in proofs/ReadingLaws.antt.
use Rattle.std.specs.Prelude.{ℕ, ◌*◌, ◌≤◌, ◌<◌, ◌≡◌, refl, true, false, not, List, [], ◌∷◌, ◌++◌, map, ◌↔◌, leb, length, ℤ, pos, Result, Ok, Err}
use Rattle.std.proofs.Math.Path.{sym}
use Rattle.std.proofs.Common.{ap, ◌∙◌, arith, le-leb, leb-false}
use Rattle.std.proofs.lemmas.Bool.{lt-leb}
use Rattle.laws.specs.Booleans.{and_of}
use Rattle.mesh.specs.Operation.{gives, refuses, fine, Condition, test, ◌then◌, verdict}
use Rattle.mesh.specs.OperationLaws.{First, None, more, whole_refused, whole_fine, then_refused, then_fine, verdict_one, fine_none, Recovers}
use Rattle.mesh.specs.OperationLaws.{refused_verdict, given_verdict, refused_exactly, given_exactly, left_refused, only_outcome}
use Rattle.mesh.specs.OperationLaws.{after_kept, Every, refused_every}
use Rattle.mesh.specs.Refusals.{Told, refusal, numbered}
use Rattle.mesh.specs.RefusalLaws.{refusal_of, refusal_once}
use Rattle.polygons.specs.Flat.{FlatLayer, flat, flat_of}
use Rattle.cleaning.specs.declared.Profile.{Profile}
use Rattle.cleaning.specs.declared.Profile.TheVariants.{Full, Clean}
use Rattle.file_formats.specs.Formats.{holds, broken}
use Rattle.file_formats.specs.FormatLaws.{Bytes}
use Rattle.file_formats.specs.LayerFile.{Layer, layer_in, layer_file, layer_file_in, layers_of, layers_of_in}
use Rattle.file_formats.specs.LayerRules.{point_total, Rules}
use Rattle.file_formats.specs.CleanFileLaws.{layers_full, read_back_in, written_in}
use Rattle.file_formats.specs.WholeFileLaws.{decode_inside, held_or_is, form_first, form_next, fine_holds, thirteen_exactly}
use Rattle.read_layer.specs.Reading.{layers_in, layer_at, no_layer, Entries, entries_of, read_layer_room_for, layer_has_room, no_layer_room, profile_tests}
use Rattle.read_layer.specs.Reading.{reading_tests, layer_counts, fills_layer}
use Rattle.read_layer.specs.Reading.{tell_read_layer, ReadsLayer}
use Rattle.mesh.specs.declared.Refusal.{Refusal}
use Rattle.read_layer.specs.declared.LayerRead.{LayerRead}

-- ---- the verdict, case by case

-- the place lies in the file or at its end
pub layers_broken_inside : (p : Profile) (file : List ℕ) (q : ℕ) → layers_of_in p file ≡ broken q → q ≤ length file
unfolding layers_of_in
layers_broken_inside p file q e = decode_inside (layer_file_in p) file q e

module _ (file : List ℕ) (i : ℕ) (n : Entries) where
  -- the last two refusals, of these layers
  abbrev rest : List Layer → List (Condition Told)
  rest ls = no_layer ls i ∷ no_layer_room (layer_at ls i) n ∷ []

  -- those after 13
  abbrev others : Profile → List (Condition Told)
  others p = profile_tests p file ++ rest (layers_in file)

  -- ---- 13, and 18 in the clean profile

  pub verdict_broken : (p : Profile) {q : ℕ} → layers_of file ≡ broken q → verdict (reading_tests p file i n) ≡ refuses (refusal 13 q)
  verdict_broken p e = form_first 13 file (layers_of file) (layers_broken_inside Full file) (others p) e

  pub broken_verdict : (p : Profile) (q : ℕ) → (verdict (reading_tests p file i n) ≡ refuses (refusal 13 q)) ↔ (layers_of file ≡ broken q)
  broken_verdict p = thirteen_exactly file (layers_of file) (layers_broken_inside Full file) (others p) (not_13 p)
    where
      not_13 : (p : Profile) → Every (λ r. r.number ≡ 13 → ⊥) (others p)
      not_13 Full = ((λ j e. omega arith), ((λ j e. omega arith), tt))
      not_13 Clean = ((λ j e. omega arith), ((λ j e. omega arith), ((λ j e. omega arith), tt)))

  past_13 : (p : Profile) {ls : List Layer} → layers_of file ≡ holds ls → verdict (reading_tests p file i n) ≡ verdict (others p)
  past_13 p e = form_next 13 file (layers_of file) (layers_broken_inside Full file) (others p) e

  pub verdict_unclean : {ls : List Layer} → layers_of file ≡ holds ls → {q : ℕ} → layers_of_in Clean file ≡ broken q
      → verdict (reading_tests Clean file i n) ≡ refuses (refusal 18 q)
  verdict_unclean h e = past_13 Clean h ∙ form_first 18 file (layers_of_in Clean file) (layers_broken_inside Clean file) (rest (layers_in file)) e

  -- ---- the others, of a file of the profile

  module _ (p : Profile) {ls : List Layer} (e : layers_of_in p file ≡ holds ls) where
    left : verdict (reading_tests p file i n) ≡ verdict (rest ls)
    left =
        let f = layers_full p file ls e in
        past_13 p f ∙ by p e ∙ ap (λ (ls : List Layer). verdict (rest ls)) (held_or_is [] f)
      where
        by : (p : Profile) → layers_of_in p file ≡ holds ls → verdict (others p) ≡ verdict (rest (layers_in file))
        by Full e = refl
        by Clean e = form_next _ file (layers_of_in Clean file) (layers_broken_inside Clean file) (rest (layers_in file)) e

    pub verdict_absent : length ls ≤ i → verdict (reading_tests p file i n) ≡ refuses (refusal 15 0)
    unfolding verdict
    verdict_absent h = left ∙ sym (then_refused _ (sym (whole_refused (refusal 15) (leb (length ls) i) (le-leb (length ls) i h))))

    module _ (h : i < length ls) where
      there : verdict (rest ls) ≡ test (no_layer_room (layer_at ls i) n)
      unfolding verdict
      there = sym (verdict_one (no_layer_room (layer_at ls i) n) ∙ then_fine (sym (whole_fine _ (leb (length ls) i) (lt-leb (length ls) i h))))

      pub verdict_short : layer_has_room (layer_at ls i) n ≡ false → verdict (reading_tests p file i n) ≡ refuses (refusal 9 0)
      verdict_short t = left ∙ there ∙ sym (whole_refused (refusal 9) (not (layer_has_room (layer_at ls i) n)) (ap not t))

      pub verdict_fine : layer_has_room (layer_at ls i) n ≡ true → verdict (reading_tests p file i n) ≡ fine
      verdict_fine t = left ∙ there ∙ sym (whole_fine (refusal 9) (not (layer_has_room (layer_at ls i) n)) (ap not t))

  -- where nothing is refused, the file holds layers, in the profile, and layer i is one of them
  pub fine_there : (p : Profile) → verdict (reading_tests p file i n) ≡ fine → (ls : List Layer) × (layers_of_in p file ≡ holds ls) × (i < length ls)
  fine_there p v =
      let q = held p v in (
        q.0,
        q.1,
        omega (
          arith,
          leb-false (length (layers_in file)) i (found p (fine_none (reading_tests p file i n) v)),
          ap length
              (held_or_is [] (layers_full p file q.0 q.1)),
        ),
      )
    where
      held : (p : Profile) → verdict (reading_tests p file i n) ≡ fine → (ls : List Layer) × (layers_of_in p file ≡ holds ls)
      held Full v = fine_holds 13 file (layers_of file) (layers_broken_inside Full file) (others Full) v
      held Clean v =
          let h = fine_holds 13 file (layers_of file) (layers_broken_inside Full file) (others Clean) v in
          fine_holds _ file (layers_of_in Clean file) (layers_broken_inside Clean file) (rest (layers_in file)) (sym (past_13 Clean h.1) ∙ v)

      found : (p : Profile) → None (reading_tests p file i n) → leb (length (layers_in file)) i ≡ false
      found Full (more a (more b c)) = b 0 (omega arith)
      found Clean (more a (more u (more b c))) = b 0 (omega arith)

pub room_of : (l : Layer) (n : Entries) → 2 * point_total l.contours ≤ n.points → length l.contours ≤ n.ends → layer_has_room l n ≡ true
unfolding read_layer_room_for
room_of l n h g = and_of (le-leb (2 * point_total l.contours) n.points h) (le-leb (length l.contours) n.ends g)

-- a refusal leaves both tables as they were
pub refused_keeps : (l : Layer) (t : FlatLayer) (r : Told) → t ≡ fills_layer l t (refuses r)
refused_keeps l t r =
    λ j. flat (after_kept (numbered []) (flat_of l.contours).points 0 (pos 0) t.points r refl j)
    (after_kept (numbered []) (flat_of l.contours).ends 0 0 t.ends r refl j)

-- ---- Read layer

pub read_layer_recovers : Recovers tell_read_layer
read_layer_recovers = record {
  back = elim [
    | gives v ↦ Ok (record { layers = v.0; height = v.1; counts = record { contours = v.2; points = v.3 } })
    | refuses r ↦ Err (refusal_of r)
  ];
  once = elim [ Ok l ↦ refl | Err r ↦ ap Err (refusal_once r) ];
}

module _ {p : Profile} {file : List ℕ} {i : ℕ} {t : FlatLayer} {result : Result LayerRead Refusal} {t' : FlatLayer} (c : ReadsLayer p file i t result t') where
  -- refused exactly if a listed condition holds, the first that fits; answered exactly if none does; and one outcome only
  pub read_layer_refused : (r : Told) → (tell_read_layer result ≡ refuses r) ↔ First (reading_tests p file i (entries_of t)) r
  read_layer_refused = refused_exactly c

  pub read_layer_given : (tell_read_layer result ≡ gives (layer_counts (layers_in file) i)) ↔ None (reading_tests p file i (entries_of t))
  read_layer_given = given_exactly c

  pub read_layer_only : {other : Result LayerRead Refusal} {u' : FlatLayer} → ReadsLayer p file i t other u' → (result ≡ other) × (t' ≡ u')
  read_layer_only = only_outcome read_layer_recovers c

  -- both tables stay on refusal
  pub refused_stays : {r : Told} → tell_read_layer result ≡ refuses r → t' ≡ t
  refused_stays {r} e = left_refused c e ∙ sym (refused_keeps (layer_at (layers_in file) i) t r)

  -- layer i of these layers is answered, and fills_layer the tables
  pub record Gives (ls : List Layer) : Type 0 where
    pub answered : tell_read_layer result ≡ gives (layer_counts ls i)
    pub filled : t' ≡ fills_layer (layer_at ls i) t fine

  given : {ls : List Layer} → layers_of file ≡ holds ls → verdict (reading_tests p file i (entries_of t)) ≡ fine → Gives ls
  given {ls} e v =
      let s : layers_in file ≡ ls = held_or_is [] e in
      record {
        answered = c.answers ∙ sym (then_fine v) ∙ (λ j. gives (layer_counts (s j) i));
        filled = c.leaves ∙ (λ j. fills_layer (layer_at (s j) i) t (v j));
      }

  -- from a file of the profile layer i is read into tables that are long enough
  pub read_held : {ls : List Layer} → layers_of_in p file ≡ holds ls → i < length ls
      → 2 * point_total (layer_at ls i).contours ≤ length t.points → length (layer_at ls i).contours ≤ length t.ends → Gives ls
  read_held {ls} e h m k =
      given (layers_full p file ls e) (verdict_fine file i (entries_of t) p e h (room_of (layer_at ls i) (entries_of t) m k))

  -- so from the encoding of layers that obey the rules, and that the profile leaves as they are
  pub read_back_lem : (ls : List Layer) → Rules ls → map (layer_in p) ls ≡ ls → file ≡ layer_file.encode ls → i < length ls
      → 2 * point_total (layer_at ls i).contours ≤ length t.points → length (layer_at ls i).contours ≤ length t.ends → Gives ls
  read_back_lem ls r s w h m k = read_held (ap (layers_of_in p) w ∙ read_back_in p ls r s) h m k

  -- what is read was written so
  pub record EncodedFile (ls : List Layer) : Type 0 where
    pub rules : Rules ls
    pub stays : map (layer_in p) ls ≡ ls
    pub encoded : file ≡ layer_file.encode ls
    pub there : i < length ls
    pub gives_it : Gives ls

  pub read_written : Bytes file → {v : ℕ × ℤ × ℕ × ℕ} → tell_read_layer result ≡ gives v → (ls : List Layer) × EncodedFile ls
  read_written bytes e =
      let v = (given_verdict c e).0 in
      let q = fine_there file i (entries_of t) p v in
      let w = written_in p file q.0 bytes q.1 in
      (q.0, record { rules = w.0; stays = w.1; encoded = w.2; there = q.2; gives_it = given (layers_full p file q.0 q.1) v })

-- ---- 18, in the clean profile alone

module _ {file : List ℕ} {i : ℕ} {t : FlatLayer} {result : Result LayerRead Refusal} {t' : FlatLayer} where
  -- of a file of the clean profile both profiles answer and leave the same
  pub clean_as_full : {ls : List Layer} → layers_of_in Clean file ≡ holds ls → ReadsLayer Clean file i t result t'
      → {other : Result LayerRead Refusal} {u' : FlatLayer} → ReadsLayer Full file i t other u' → (result ≡ other) × (t' ≡ u')
  clean_as_full {ls} e c d = only_outcome read_layer_recovers as_full d
    where
      same : verdict (reading_tests Clean file i (entries_of t)) ≡ verdict (reading_tests Full file i (entries_of t))
      same = left file i (entries_of t) Clean e ∙ sym (left file i (entries_of t) Full (layers_full Clean file ls e))

      as_full : ReadsLayer Full file i t result t'
      as_full = record {
        answers = c.answers ∙ (λ j. same j then gives (layer_counts (layers_in file) i));
        leaves = c.leaves ∙ (λ j. fills_layer (layer_at (layers_in file) i) t (same j));
      }

  -- the full profile never refuses so
  pub full_never_unclean : ReadsLayer Full file i t result t' → (q : ℕ) → tell_read_layer result ≡ refuses (refusal 18 q) → ⊥
  full_never_unclean c q e =
      refused_every (λ r. r.number ≡ 18 → ⊥) (reading_tests Full file i (entries_of t)) (refusal 18 q)
      ((λ j e. omega arith), ((λ j e. omega arith), ((λ j e. omega arith), tt))) (refused_verdict c e) refl

-- The answer: a lemma for each return of `locate` and `read_layer`.
use mathlib.Core.Path.{◌≡◌, refl, sym, ap, ◌∙◌, subst}
use mathlib.Core.Bool.{true, false}
use mathlib.Core.List.{List, []}
use Rattle.std.specs.Prelude.{Result, Ok, Err, Some, None}
use Prim.Native.Nat.{ℕ, ◌*◌, ◌<◌, ◌≤◌, ◌^◌}
use native.Mathlib.Omega.{arith}
use lib.Dec.{leb}
use lib.ListN.{length, drop}
use lib.IntN.{pos}
use lib.Signed.{mag}
use borrow.Author.Tests.{leb-true}
use Rattle.laws.specs.Booleans.{and_parts}
use Rattle.laws.specs.Tables.{overwrite}
use Rattle.mesh.specs.Operation.{gives, refuses, verdict}
use Rattle.mesh.specs.OperationLaws.{does_refuse, does_give, after_fine}
use Rattle.mesh.specs.Refusals.{refusal, numbered, told_of}
use Rattle.mesh.specs.declared.Refusal.{Refusal}
use Rattle.mesh.specs.declared.Refusal.TheVariants.{File}
use Rattle.polygons.specs.Flat.{FlatLayer, flat, flat_of}
use Rattle.cleaning.specs.declared.Profile.{Profile}
use Rattle.cleaning.specs.declared.Profile.TheVariants.{Full, Clean}
use Rattle.file_formats.specs.Formats.{Parse, parsed, refused, holds, broken, decoded_in, parse_all}
use Rattle.file_formats.specs.FormatLaws.{finished_in}
use Rattle.file_formats.specs.LayerFile.{Layer, most_layers, contour_list, layer_format_in, lowest, height_of, layer_file_in, layers_of, layers_of_in}
use Rattle.file_formats.specs.LayerRules.{point_total}
use Rattle.file_formats.specs.Positions.{number_at}
use Rattle.file_formats.specs.PositionLaws.{took, not_took, number_breaks, same_place}
use Rattle.file_formats.specs.SequenceLaws.{parsed_length}
use Rattle.file_formats.specs.declared.Broken.{Broken}
use Rattle.file_check.specs.AnswerLaws.{told_parsed}
use Rattle.file_formats.specs.CleanFileLaws.{layers_full}
use Rattle.file_formats.specs.WholeFileLaws.{held_or_is}
use Rattle.read_layer.specs.Reading.{layers_in, layer_at, Entries, entries, entries_of, read_layer_room_for, layer_has_room, reading_tests, tell_read_layer}
use Rattle.read_layer.specs.Reading.{ReadsLayer}
use Rattle.read_layer.specs.ReadingLaws.{verdict_broken, verdict_unclean, verdict_short, verdict_fine, refused_keeps}
use Rattle.read_layer.specs.Places.{LayerStands, last_layers, Searched, broken_told, Ready, Located, contours_from, FillLayer, filled_layer}
use Rattle.read_layer.specs.declared.LayerPlace.{LayerPlace}
use Rattle.read_layer.specs.declared.LayerRead.{LayerRead}

-- ---- the layers of a file, by their count

pub no_count : (file : List ℕ) {b : Broken} → number_at most_layers file 0 ≡ Err b → layers_of file ≡ broken b.at
unfolding layers_of_in layer_file_in
no_count file {b} e =
    let p = not_took most_layers file 0 e in
    let here : 0 ≡ b.at = ap (λ (b : Broken). b.at) (sym (number_breaks most_layers file 0 e)) in
    simp p (ap broken (omega arith))

module _ (profile : Profile) (file : List ℕ) {n start : ℕ} (e : number_at most_layers file 0 ≡ Ok (n, start)) where
  by_count : layers_of_in profile file ≡ decoded_in (length file) (last_layers profile n lowest file start)
  unfolding layers_of_in layer_file_in
  by_count = let p = (took e).parses in simp p

  module _ (i : ℕ) where
    pub searched_broken : {b : Broken} → Searched file i (last_layers profile n lowest file start) (Err b) → layers_of_in profile file ≡ broken b.at
    searched_broken {b} w = by_count ∙ by (last_layers profile n lowest file start) w
      where
        by : (d : Parse (List Layer)) → Searched file i d (Err b) → decoded_in (length file) d ≡ broken b.at
        by (parsed ls r) w = absurd w
        by (refused r) w = ap broken (same_place (sym w))

    pub searched_missing : Searched file i (last_layers profile n lowest file start) (Ok None)
        → (ls : List Layer) × (layers_of_in profile file ≡ holds ls) × (length ls ≤ i)
    searched_missing w = let q = by (last_layers profile n lowest file start) w in (q.0, by_count ∙ q.1, q.2)
      where
        by : (d : Parse (List Layer)) → Searched file i d (Ok None) → (ls : List Layer) × (decoded_in (length file) d ≡ holds ls) × (length ls ≤ i)
        by (parsed ls r) w = (ls, refl, w)
        by (refused r) w = let z : ◌≡◌ {A = ℕ} 0 1 = cc in absurd (omega arith)

    -- where the search found a layer
    pub record LayerFound (p : LayerPlace) : Type 0 where
      pub ls : List Layer
      pub holding : layers_of_in profile file ≡ holds ls
      pub counted : length ls ≡ n
      pub there : i < length ls
      pub place : LayerStands file (layer_at ls i) p

    pub searched_found : {p : LayerPlace} → Searched file i (last_layers profile n lowest file start) (Ok (Some p)) → LayerFound p
    searched_found {p} w = by (last_layers profile n lowest file start) refl w
      where
        by : (d : Parse (List Layer)) → last_layers profile n lowest file start ≡ d → Searched file i d (Ok (Some p)) → LayerFound p
        by (parsed ls r) q w =
            let j = finished_in (parse_all (layer_format_in profile) height_of n lowest (drop start file)) ls r q in
            record {
              ls = ls;
              holding = by_count ∙ ap (decoded_in (length file)) q;
              counted = parsed_length (layer_format_in profile) height_of n lowest (drop start file) ls [] j.0;
              there = w.0;
              place = w.1;
            }
        by (refused r) q w = let z : ◌≡◌ {A = ℕ} 0 1 = cc in absurd (omega arith)

-- a file that breaks at k in a profile is refused so
pub refused_broken : (profile : Profile) (file : List ℕ) {n start : ℕ} (e : number_at most_layers file 0 ≡ Ok (n, start)) (i : ℕ)
    (entries : Entries) {k : ℕ}
    → layers_of_in profile file ≡ broken k
    → verdict (reading_tests profile file i entries) ≡ refuses (told_of (broken_told profile file (last_layers Full n lowest file start) k))
refused_broken Full file e i entries h = verdict_broken file i entries Full h
refused_broken Clean file {n} {start} e i entries {k} h = by (last_layers Full n lowest file start) (by_count Full file e)
  where
    by : (d : Parse (List Layer)) → layers_of file ≡ decoded_in (length file) d
        → verdict (reading_tests Clean file i entries) ≡ refuses (told_of (broken_told Clean file d k))
    by (parsed ls r) f = verdict_unclean file i entries f h
    by (refused r) f = verdict_broken file i entries Clean f

-- ---- the tests

pub located_broken : (profile : Profile) (file : List ℕ) (i : ℕ) (n : Entries) {b : Broken} → layers_of file ≡ broken b.at
    → (met : Result (ℕ × LayerPlace) Refusal) → met ≡ Err (File b.at) → Located profile file i n met
located_broken profile file i n h met is = subst (Located profile file i n) (sym is) (verdict_broken file i n profile h)

module _ (profile : Profile) {file : List ℕ} {i : ℕ} (n : Entries) where
  module _ {count start : ℕ} {e : number_at most_layers file 0 ≡ Ok (count, start)} {p : LayerPlace} (h : LayerFound profile file e i p) where
    abbrev found : Layer
    found = layer_at h.ls i

    same_room : read_layer_room_for p.contours p.points n ≡ layer_has_room found n
    same_room = λ j. read_layer_room_for (h.place.contours j) (h.place.points j) n

    pub refused_short : read_layer_room_for p.contours p.points n ≡ false → verdict (reading_tests profile file i n) ≡ refuses (refusal 9 0)
    refused_short t = verdict_short file i n profile h.holding h.there (sym same_room ∙ t)

    pub ready : read_layer_room_for p.contours p.points n ≡ true → Ready profile file i n count p
    unfolding read_layer_room_for
    ready t =
        let s : h.ls ≡ layers_in file = sym (held_or_is [] (layers_full profile file h.ls h.holding)) in
        let r = and_parts (leb (2 * point_total found.contours) n.points) (leb (length found.contours) n.ends) (sym same_room ∙ t) in
        let long : 2 * point_total found.contours ≤ n.points = leb-true _ _ r.0 in
        let wide : length found.contours ≤ n.ends = leb-true _ _ r.1 in
        record {
          passed = verdict_fine file i n profile h.holding h.there (sym same_room ∙ t);
          counted = sym h.counted ∙ ap length s;
          place = subst (λ (ls : List Layer). LayerStands file (layer_at ls i) p) s h.place;
          points_long = subst (λ (ls : List Layer). 2 * point_total (layer_at ls i).contours ≤ n.points) s long;
          ends_long = subst (λ (ls : List Layer). length (layer_at ls i).contours ≤ n.ends) s wide;
        }

-- ---- the whole operation

-- the height has 32 bits
pub height_fits : {p : Profile} {file : List ℕ} {i : ℕ} {n : Entries} {count : ℕ} {l : LayerPlace} → Ready p file i n count l → mag l.height < 2 ^ 31
height_fits w = rw w.place.height w.place.word

module _ {p : Profile} {file : List ℕ} {i : ℕ} {t : FlatLayer} where
  pub reads_refused : {r : Refusal} → verdict (reading_tests p file i (entries_of t)) ≡ refuses (told_of r)
      → {met : Result LayerRead Refusal} → met ≡ Err r → ReadsLayer p file i t met t
  reads_refused {r} v is = does_refuse refl v (ap tell_read_layer is) (refused_keeps (layer_at (layers_in file) i) t (told_of r))

  module _ {count : ℕ} {l : LayerPlace} (w : Ready p file i (entries_of t) count l) where
    pub fill_ready : FillLayer file l.at t
    fill_ready =
        record {
          inside = w.place.inside;
          cs = (layer_at (layers_in file) i).contours;
          next = w.place.next;
          stands = w.place.stands;
          points_long = w.points_long;
          ends_long = w.ends_long;
        }

    pub reads_layer : {t' : FlatLayer} → t' ≡ filled_layer file l.at t
        → ReadsLayer p file i t (Ok (record { layers = count; height = l.height; counts = record { contours = l.contours; points = l.points } })) t'
    reads_layer f =
        let m = layer_at (layers_in file) i in
        let s : contours_from file l.at ≡ m.contours =
        sym (told_parsed (λ cs next. cs) (λ q. []) contour_list file l.at m.contours w.place.next w.place.stands) in
        does_give refl w.passed (λ j. gives (w.counted j, w.place.height j, w.place.contours j, w.place.points j))
        (f
        ∙ (λ j. flat (overwrite (flat_of (s j)).points t.points) (overwrite (flat_of (s j)).ends t.ends))
        ∙ (λ j. flat
        (after_fine (numbered []) (flat_of m.contours).points 0 (pos 0) t.points j)
        (after_fine (numbered []) (flat_of m.contours).ends 0 0 t.ends j)))

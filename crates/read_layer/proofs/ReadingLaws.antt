-- What Read layer promises, in both profiles, of its refusals 13 and 18: 13 exactly if the file is not the encoding of layers that obey the rules, 18 exactly
-- if the clean profile alters them.
use Rattle.std.specs.Prelude.{ℕ, ◌≡◌, refl, List, [], ◌∷◌, map, ◌↔◌, Result}
use Rattle.std.proofs.Math.Path.{sym}
use Rattle.std.proofs.Common.{ap, ◌∙◌, subst, arith}
use Rattle.mesh.specs.Operation.{refuses, Condition, verdict}
use Rattle.mesh.specs.OperationLaws.{then_refused, refused_verdict, same_refusal}
use Rattle.mesh.specs.Refusals.{Told, refusal}
use Rattle.polygons.specs.Flat.{FlatLayer}
use Rattle.cleaning.specs.declared.Profile.{Profile}
use Rattle.cleaning.specs.declared.Profile.TheVariants.{Full, Clean}
use Rattle.file_formats.specs.Formats.{Decoded, holds, broken}
use Rattle.file_formats.specs.FormatLaws.{Bytes}
use Rattle.file_formats.specs.LayerFile.{Layer, layer_in, layer_file, layers_of, layers_of_in}
use Rattle.file_formats.specs.LayerRules.{Rules}
use Rattle.file_formats.specs.RoundTripLaws.{layers_read_back, layers_written}
use Rattle.file_formats.specs.CleanFileLaws.{layers_full, read_exactly_in, FirstUnclean, clean_place}
use Rattle.file_formats.specs.WholeFiles.{unclean_form}
use Rattle.file_formats.specs.WholeFileLaws.{form_next, eighteen_exactly}
use Rattle.read_layer.specs.Reading.{layers_in, layer_at, no_layer, Entries, entries_of, no_layer_room, reading_tests, tell_read_layer, ReadsLayer}
use Rattle.read_layer.specs.ReadingLaws.{layers_broken_inside, verdict_broken, broken_verdict, verdict_unclean}
use Rattle.mesh.specs.declared.Refusal.{Refusal}
use Rattle.read_layer.specs.declared.LayerRead.{LayerRead}

-- ---- the verdict of the clean profile

module _ (file : List ℕ) (i : ℕ) (n : Entries) where
  -- the last two refusals
  abbrev rest : List (Condition Told)
  rest = no_layer (layers_in file) i ∷ no_layer_room (layer_at (layers_in file) i) n ∷ []

  past_13 : {ls : List Layer} → layers_of file ≡ holds ls
      → verdict (reading_tests Clean file i n) ≡ verdict (unclean_form file (layers_of_in Clean file) ∷ rest)
  past_13 e = form_next 13 file (layers_of file) (layers_broken_inside Full file) (unclean_form file (layers_of_in Clean file) ∷ rest) e

  -- 18 fits exactly a file that is none of the clean profile, but one of the full
  pub unclean_verdict : (q : ℕ)
      → (verdict (reading_tests Clean file i n) ≡ refuses (refusal 18 q)) ↔
      (((ls : List Layer) × (layers_of file ≡ holds ls)) × (layers_of_in Clean file ≡ broken q))
  unclean_verdict q = ((λ v. by (layers_of file) refl v), (λ h. verdict_unclean file i n h.0.1 h.1))
    where
      by : (d : Decoded (List Layer)) → layers_of file ≡ d → verdict (reading_tests Clean file i n) ≡ refuses (refusal 18 q)
          → ((ls : List Layer) × (layers_of file ≡ holds ls)) × (layers_of_in Clean file ≡ broken q)
      by (broken k) e v =
          let f : refusal 13 k ≡ refusal 18 q = same_refusal (sym (verdict_broken file i n Clean e) ∙ v) in
          absurd (omega (arith, ap (λ (r : Told). r.number) f))
      by (holds ls) e v = (
        (ls, e),
        (eighteen_exactly file (layers_of_in Clean file) (layers_broken_inside Clean file) rest
            ((λ j e. omega arith), ((λ j e. omega arith), tt)) q).0 (sym (past_13 e) ∙ v),
      )

-- ---- 13, in both profiles

module _ {p : Profile} {file : List ℕ} {i : ℕ} {t : FlatLayer} {result : Result LayerRead Refusal} {t' : FlatLayer} (c : ReadsLayer p file i t result t') where
  -- refusal 13 is that of the file's format, in both profiles
  pub broken_exactly : (q : ℕ) → (tell_read_layer result ≡ refuses (refusal 13 q)) ↔ (layers_of file ≡ broken q)
  broken_exactly q = (
    (λ e. (broken_verdict file i (entries_of t) p q).0 (refused_verdict c e)),
    (λ e. c.answers ∙ sym (then_refused _ (verdict_broken file i (entries_of t) p e))),
  )

  -- refused with 13 exactly if the file is not the encoding of layers that obey the rules
  pub unwritten_exactly : Bytes file
      → ((q : ℕ) × (tell_read_layer result ≡ refuses (refusal 13 q))) ↔ ((ls : List Layer) → Rules ls → file ≡ layer_file.encode ls → ⊥)
  unwritten_exactly bytes = (to, (λ h. by h (layers_of file) refl))
    where
      to : (q : ℕ) × (tell_read_layer result ≡ refuses (refusal 13 q)) → (ls : List Layer) → Rules ls → file ≡ layer_file.encode ls → ⊥
      to q ls r w =
          let e = (broken_exactly q.0).0 q.1 in
          let f = ap layers_of w ∙ layers_read_back ls r in
          let z : ◌≡◌ {A = ℕ} 0 1 = cc in omega arith

      by : ((ls : List Layer) → Rules ls → file ≡ layer_file.encode ls → ⊥) → (d : Decoded (List Layer)) → layers_of file ≡ d
          → (q : ℕ) × (tell_read_layer result ≡ refuses (refusal 13 q))
      by h (broken q) e = (q, (broken_exactly q).1 e)
      by h (holds ls) e = let w = layers_written file ls bytes e in absurd (h ls w.0 w.1)

-- ---- 18, in the clean profile alone

module _ {file : List ℕ} {i : ℕ} {t : FlatLayer} {result : Result LayerRead Refusal} {t' : FlatLayer} where
  -- refused with 18 exactly if the file is one of the full profile and none of the clean one, which breaks there: see `clean_place`, CleanFileLaws
  pub unclean_exactly : ReadsLayer Clean file i t result t' → (q : ℕ)
      → (tell_read_layer result ≡ refuses (refusal 18 q)) ↔ (((ls : List Layer) × (layers_of file ≡ holds ls)) × (layers_of_in Clean file ≡ broken q))
  unclean_exactly c q = (
    (λ e. (unclean_verdict file i (entries_of t) q).0 (refused_verdict c e)),
    (λ h. c.answers ∙ sym (then_refused _ (verdict_unclean file i (entries_of t) h.0.1 h.1))),
  )

  -- and there stands the first contour that is not clean, in whatever layer
  pub unclean_first_lem : ReadsLayer Clean file i t result t' → Bytes file → {q : ℕ} → tell_read_layer result ≡ refuses (refusal 18 q)
      → (ls : List Layer) × FirstUnclean file ls q
  unclean_first_lem c bytes {q} e = let h = (unclean_exactly c q).0 e in (h.0.0, clean_place file h.0.0 bytes h.0.1 q h.1)

  -- so it is refused with 18 exactly if it is the encoding of layers that obey the rules, and cleaning alters them
  pub altered_exactly : ReadsLayer Clean file i t result t' → Bytes file
      → ((q : ℕ) × (tell_read_layer result ≡ refuses (refusal 18 q)))
      ↔ ((ls : List Layer) × Rules ls × (file ≡ layer_file.encode ls) × (map (layer_in Clean) ls ≡ ls → ⊥))
  altered_exactly c bytes = (to, (λ (ls, r, w, s). by ls r w s (layers_of_in Clean file) refl))
    where
      to : (q : ℕ) × (tell_read_layer result ≡ refuses (refusal 18 q))
          → (ls : List Layer) × Rules ls × (file ≡ layer_file.encode ls) × (map (layer_in Clean) ls ≡ ls → ⊥)
      to (q, e) =
          let h = (unclean_exactly c q).0 e in
          let w = layers_written file h.0.0 bytes h.0.1 in
          (h.0.0, w.0, w.1, (λ s. apart_decoded (sym ((read_exactly_in Clean file h.0.0 bytes).1 (h.0.1, s)) ∙ h.1)))
        where
          apart_decoded : {ls : List Layer} {k : ℕ} → holds ls ≡ broken k → ⊥
          apart_decoded e = let z : ◌≡◌ {A = ℕ} 0 1 = cc in omega arith

      by : (ls : List Layer) → Rules ls → file ≡ layer_file.encode ls → (map (layer_in Clean) ls ≡ ls → ⊥) → (d : Decoded (List Layer))
          → layers_of_in Clean file ≡ d
          → (q : ℕ) × (tell_read_layer result ≡ refuses (refusal 18 q))
      by ls r w s (broken q) e = (q, (unclean_exactly c q).1 ((ls, ap layers_of w ∙ layers_read_back ls r), e))
      by ls r w s (holds ms) e =
          let full = sym (layers_full Clean file ms e) ∙ ap layers_of w ∙ layers_read_back ls r in
          let same : ms ≡ ls = cc in
          absurd (s (subst (λ (ns : List Layer). map (layer_in Clean) ns ≡ ns) same ((read_exactly_in Clean file ms bytes).0 e).1))

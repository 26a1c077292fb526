-- The charge is the formula on the layers that Read layer gives, in either profile (`charge_read`).
use Rattle.std.specs.Prelude.{ℕ, zero, suc, ◌+◌, ◌<◌, ◌≤◌, ◌≡◌, refl, Bool, true, false, get_or, ℤ, pos, ◌+ℤ◌, Result}
use Rattle.std.proofs.Common.{sym, ◌∙◌, ⊎_elim, arith}
use Rattle.std.proofs.Math.Path.{ap}
use mathlib.Core.List.{List, [], ◌∷◌}
use Rattle.std.proofs.Math.ListN.{length}
use Rattle.laws.specs.Booleans.{split_lt}
use Rattle.mesh.specs.Operation.{gives, refuses, Finding, verdict, after}
use Rattle.mesh.specs.OperationLaws.{apart, same_refusal, refused_verdict, given_verdict, left_given}
use Rattle.mesh.specs.Refusals.{Told, refusal}
use Rattle.mesh.specs.declared.Refusal.{Refusal}
use Rattle.polygons.specs.Flat.{Point, Polygons, FlatLayer, flat_of, holding, Each}
use Rattle.polygons.proofs.FlatLaws.{length_ends, polygons_flat, front_holding, layer_exactly}
use Rattle.polygons.specs.ContourAreas.{contour_area, layer_area}
use Rattle.contours.specs.Areas.{sum_of, area_of}
use Rattle.contours.specs.AreaLaws.{sum_same}
use Rattle.contours.specs.ContourAreaLaws.{sum_front, area_polygon}
use Rattle.contours.specs.Contours.{contour_of}
use Rattle.cleaning.specs.declared.Profile.{Profile}
use Rattle.cleaning.specs.declared.Profile.TheVariants.{Full, Clean}
use Rattle.file_formats.specs.Formats.{Decoded, holds, broken}
use Rattle.file_formats.specs.FormatLaws.{Bytes}
use Rattle.file_formats.specs.LayerFile.{Layer, layers_of, layers_of_in}
use Rattle.file_formats.specs.LayerRules.{point_total, LayerRules}
use Rattle.file_formats.specs.LayerRuleLaws.{ruled_polygons}
use Rattle.file_formats.specs.RoundTripLaws.{layers_written}
use Rattle.file_formats.specs.CleanFileLaws.{layers_full}
use Rattle.file_formats.specs.WholeFileLaws.{held_or_is}
use Rattle.read_layer.specs.Reading.{layer_at, entries_of, layer_has_room, reading_tests, layers_in}
use Rattle.read_layer.specs.ReadingLaws.{verdict_unclean, verdict_short, verdict_fine, fine_there}
use Rattle.ink.specs.Charges.{layer_charge, job_charge}
use Rattle.ink.specs.Inking.{tell_ink, Inks}
use Rattle.ink.specs.InkLaws.{ink_charged}
use Rattle.ink.specs.ReadAreas.{front_area, ReadAt, ReadPast, ReadAll, areas_charge}

-- ---- the areas of a layer in front of two tables

sum_layer : (cs : List (List Point)) → sum_of (length cs) (λ j. contour_area (get_or cs j [])) ≡ layer_area cs
unfolding sum_of layer_area
sum_layer [] = refl
sum_layer (c ∷ cs) = sum_front (length cs) (λ j. contour_area (get_or (c ∷ cs) j [])) ∙ ap (λ (z : ℤ). contour_area c +ℤ z) (sum_layer cs)

flat_area : (cs : List (List Point)) → Polygons cs → sum_of (length cs) (λ j. area_of (contour_of (flat_of cs).points (flat_of cs).ends j)) ≡ layer_area cs
flat_area cs p =
    sum_same (length cs) _ (λ j. contour_area (get_or cs j []))
    (λ j h. area_polygon (flat_of cs) ((layer_exactly (flat_of cs)).1 (cs, p, refl)) j (omega (arith, length_ends 0 cs))
    ∙ ap (λ (ds : List (List Point)). contour_area (get_or ds j [])) (polygons_flat cs))
    ∙ sum_layer cs

held_area : (cs : List (List Point)) (t : FlatLayer) → Polygons cs → front_area (length cs, point_total cs) (holding cs t) ≡ layer_area cs
held_area cs t p =
    ap (λ (front : FlatLayer). sum_of (length cs) (λ j. area_of (contour_of front.points front.ends j))) (front_holding cs t) ∙ flat_area cs p

-- ---- layers that obey the rules

layers_polygons : (ls : List Layer) → Each LayerRules ls → (i : ℕ) → i < length ls → Polygons (layer_at ls i).contours
layers_polygons [] e i h = absurd (omega arith)
layers_polygons (l ∷ ls) e zero h = ruled_polygons l e.0
layers_polygons (l ∷ ls) e (suc i) h = layers_polygons ls e.1 i (omega arith)

-- ---- one layer

same_layers : {ls ms : List Layer} → holds ls ≡ holds ms → ls ≡ ms
same_layers e = cc

-- refused with 15: not with 9 or 18, and not answered, so there is no layer i
other_number : {n k : ℕ} → (n ≡ 15 → ⊥) → {v : Finding Told} → v ≡ refuses (refusal n k) → v ≡ refuses (refusal 15 0) → ⊥
other_number h f v = h (ap (λ (r : Told). r.number) (same_refusal (sym f ∙ v)))

module _ (file : List ℕ) {ls : List Layer} (e : layers_of file ≡ holds ls) (i : ℕ) (t : FlatLayer) where
  in_profile : (p : Profile) → verdict (reading_tests p file i (entries_of t)) ≡ refuses (refusal 15 0) → layers_of_in p file ≡ holds ls
  in_profile Full v = e
  in_profile Clean v = by (layers_of_in Clean file) refl
    where
      by : (d : Decoded (List Layer)) → layers_of_in Clean file ≡ d → layers_of_in Clean file ≡ holds ls
      by (broken q) f = absurd (other_number (λ k. omega arith) (verdict_unclean file i (entries_of t) e f) v)
      by (holds ms) f = f ∙ sym (layers_full Clean file ms f) ∙ e

  not_there : (p : Profile) → verdict (reading_tests p file i (entries_of t)) ≡ refuses (refusal 15 0) → i < length ls → ⊥
  not_there p v h = by (layer_has_room (layer_at ls i) (entries_of t)) refl
    where
      by : (b : Bool) → layer_has_room (layer_at ls i) (entries_of t) ≡ b → ⊥
      by true f = apart (sym v ∙ verdict_fine file i (entries_of t) p (in_profile p v) h f)
      by false f = other_number (λ k. omega arith) (verdict_short file i (entries_of t) p (in_profile p v) h f) v

module _ {p : Profile} (file : List ℕ) {ls : List Layer} (e : layers_of file ≡ holds ls) {i : ℕ} where
  pub read_past : ReadPast p file i → length ls ≤ i
  read_past r = ⊎_elim (λ h. absurd (not_there file e i r.lent p (refused_verdict r.reads r.refused_so) h)) (λ h. h) (split_lt i (length ls))

  pub read_area : Bytes file → {area : ℤ} → ReadAt p file i area → (i < length ls) × (area ≡ layer_area (layer_at ls i).contours)
  unfolding after
  read_area bytes r =
      let v = given_verdict r.reads r.answered in
      let f = fine_there file i (entries_of r.lent) p v.0 in
      let same : f.0 ≡ ls = same_layers (sym (layers_full p file f.0 f.1) ∙ e) in
      let there : i < length ls = omega (arith, f.2, ap length same) in
      let s : layers_in file ≡ ls = held_or_is [] e in (
        there,
        r.area_is
            ∙ (λ k. front_area ((v.1 k).2, (v.1 k).3) (left_given r.reads r.answered k))
            ∙ (λ k. let cs = (layer_at (s k) i).contours in front_area (length cs, point_total cs) (holding cs r.lent))
            ∙ held_area (layer_at ls i).contours r.lent (layers_polygons ls (layers_written file ls bytes e).0.each i there),
      )

-- ---- all layers

charges_alike : (t : ℕ) (ls : List Layer) (areas : List ℤ) → length areas ≡ length ls
    → ((i : ℕ) → i < length areas → get_or areas i (pos 0) ≡ layer_area (layer_at ls i).contours) → job_charge t ls ≡ areas_charge t areas
unfolding job_charge areas_charge
charges_alike t [] [] n h = refl
charges_alike t [] (a ∷ areas) n h = absurd (omega arith)
charges_alike t (l ∷ ls) [] n h = absurd (omega arith)
charges_alike t (l ∷ ls) (a ∷ areas) n h =
    let first : a ≡ layer_area l.contours = h 0 (omega arith) in
    let rest = charges_alike t ls areas (omega arith) (λ i k. h (suc i) (omega arith)) in
    λ j. layer_charge t (sym first j) + rest j

pub charge_read : {file : List ℕ} {t : ℕ} {result : Result ℕ Refusal} {c : ℕ} → Bytes file → Inks file t result → tell_ink result ≡ gives c
    → {p : Profile} {areas : List ℤ} → ReadAll p file areas → c ≡ areas_charge t areas
charge_read {file} {t} bytes d e {areas = areas} r =
    let g = ink_charged d e in
    let ls = g.0 in
    let held = g.1.held in
    let all : length areas ≡ length ls = counted (length areas) (read_past file held r.ended) (λ i h. (read_area file held bytes (r.each i h)).0) in
    g.1.is ∙ charges_alike t ls areas all (λ i h. (read_area file held bytes (r.each i h)).1)
  where
    counted : (n : ℕ) {m : ℕ} → m ≤ n → ((i : ℕ) → i < n → i < m) → n ≡ m
    counted zero h k = omega arith
    counted (suc n) h k = omega (arith, k n (omega arith))

-- Ink of All layers' file, proved: in either profile the areas of a layer come to the same, and the swept file is that of the single cuts.
use Rattle.std.specs.Prelude.{ℕ, ◌+◌, ◌≡◌, refl, List, [], ◌∷◌, map, ℤ, Result}
use Rattle.std.proofs.Common.{sym, ap, ◌∙◌, subst}
use Rattle.mesh.specs.Meshes.{PairedMesh}
use Rattle.mesh.specs.Operation.{gives, ◌then◌, verdict}
use Rattle.mesh.specs.OperationLaws.{recovered}
use Rattle.polygons.specs.Flat.{Point}
use Rattle.polygons.specs.ContourAreas.{layer_area}
use Rattle.cleaning.proofs.AreaLaws.{area_cleaned}
use Rattle.cleaning.specs.Profiles.{profiled}
use Rattle.cleaning.specs.declared.Profile.{Profile}
use Rattle.cleaning.specs.declared.Profile.TheVariants.{Full, Clean}
use Rattle.file_formats.specs.Formats.{holds}
use Rattle.file_formats.specs.LayerFile.{Layer, layers_of, layers_of_in}
use Rattle.file_formats.specs.CleanFileLaws.{layers_full}
use Rattle.file_formats.specs.WholeFileLaws.{held_or_is, form_next}
use Rattle.read_layer.specs.ReadingLaws.{layers_broken_inside}
use Rattle.mesh.specs.declared.Refusal.{Refusal}
use Rattle.ink.specs.Charges.{layer_charge, job_charge}
use Rattle.ink.specs.Inking.{wrong_thickness, tell_ink, Inks}
use Rattle.ink.specs.InkLaws.{ink_recovers, ink_charges, thickness_in}
use Rattle.all_heights.specs.Heights.{heights_taken}
use Rattle.all_heights.specs.HeightLaws.{ranged_words}
use Rattle.all_sweep.specs.AllLayers.{cut_layer, cut_file}
use Rattle.all_sweep.specs.CutLayerLaws.{cut_in}
use Rattle.all_sweep.specs.LayersLaws.{all_layers_tested, cuts_read_back}
use Rattle.demand_three.proofs.FileLaws.{file_claim}
use Rattle.composed.specs.InkAlike.{InkAlike}

-- ---- areas in a profile

area_in : (p : Profile) (cs : List (List Point)) → layer_area (profiled p cs) ≡ layer_area cs
area_in Full cs = refl
area_in Clean cs = area_cleaned cs

-- the layers of Cut at these heights are charged alike in either profile
charge_in : (t : ℕ) (p : Profile) (m : PairedMesh) (hs : List ℤ) → job_charge t (map (cut_in p m) hs) ≡ job_charge t (map (cut_layer m) hs)
unfolding job_charge
charge_in t p m [] = refl
charge_in t p m (h ∷ hs) = λ i. layer_charge t (area_in p (cut_layer m h).contours i) + charge_in t p m hs i

-- ---- Ink of a file that holds layers

inked_held : {file : List ℕ} {ls : List Layer} → layers_of file ≡ holds ls → {t : ℕ} {result : Result ℕ Refusal} → Inks file t result
    → tell_ink result ≡ (verdict (wrong_thickness t ∷ []) then gives (job_charge t ls))
inked_held {file} e {t} d =
    d.answers
    ∙ (λ i. form_next 13 file (layers_of file) (layers_broken_inside Full file) (wrong_thickness t ∷ []) e i then gives (job_charge t (held_or_is [] e i)))

-- of the file of the single cuts, in either profile
cuts_inked : (q : Profile) (m : PairedMesh) (hs : List ℤ) → layers_of_in q (cut_file q m hs) ≡ holds (map (cut_in q m) hs) → {t : ℕ} {other : Result ℕ Refusal}
    → Inks (cut_file q m hs) t other → tell_ink other ≡ (verdict (wrong_thickness t ∷ []) then gives (job_charge t (map (cut_layer m) hs)))
cuts_inked q m hs e {t} d =
    inked_held (layers_full q (cut_file q m hs) (map (cut_in q m) hs) e) d
    ∙ ap (λ (c : ℕ). verdict (wrong_thickness t ∷ []) then gives c) (charge_in t q m hs)

-- ---- the theorem

pub ink_alike : InkAlike
ink_alike p m heights w w' output output' filed n words f gave t result d =
    let hs = heights_taken m.paired.mesh.coords heights in
    let coords = ranged_words m.paired.mesh.coords (all_layers_tested f gave).right.inside in
    let file = (file_claim p m heights w w' output output' filed n f gave).bytes in
    let read = cuts_read_back f gave coords words in
    let swept = subst (λ (bytes : List ℕ). Inks bytes t result) file d in
    let told = cuts_inked p m.paired hs (read p) swept in
    record {
      charged = λ fits.
          let k = thickness_in t fits in
          ink_charges swept (layers_full p _ _ (read p)) k.0 k.1 ∙ ap gives (charge_in t p m.paired hs);
      single = λ q other e. recovered ink_recovers (told ∙ sym (cuts_inked q m.paired hs (read q) e));
    }

-- Layers in a profile obey the rules of the layer file where the layers as cut do: what cleaning leaves are contours of at least three points, all of them
-- points that were there, and no more of them; each layer stays, at its height.
use Rattle.std.specs.Prelude.{◌≡◌, refl, true, List, [], ◌∷◌, map, ◌≤◌, length, ℤ}
use Rattle.std.proofs.Common.{sym, subst, arith}
use Rattle.std.proofs.lemmas.List.{length-map}
use Rattle.laws.specs.Booleans.{and_parts}
use Rattle.cleaning.specs.Cleaning.{neat, fewest_different, kept, cleaned, same_points, is_clean}
use Rattle.cleaning.specs.Profiles.{profiled, fits_in}
use Rattle.cleaning.proofs.CleaningLaws.{cleaned_clean}
use Rattle.cleaning.proofs.SizeLaws.{each_neat, length_neat, kept_length, by_kept, cleaned_total, cleaned_count}
use Rattle.cleaning.specs.declared.Profile.{Profile}
use Rattle.cleaning.specs.declared.Profile.TheVariants.{Full, Clean}
use Rattle.file_formats.specs.Formats.{Each}
use Rattle.file_formats.specs.LayerFile.{Point, Layer, layer_in, lowest}
use Rattle.file_formats.specs.LayerRules.{PointRules, ContourRules, point_total, LayerRules, RisingLayers, Rules}

-- ---- contours

-- a clean contour has at least three points
pub clean_length : (c : List Point) → is_clean c ≡ true → fewest_different ≤ length c
unfolding is_clean
clean_length c e = omega (arith, kept_length c (and_parts (kept c) (same_points (neat c) c) e).0, length_neat c)

cleaned_rules : (cs : List (List Point)) → Each ContourRules cs → Each ContourRules (cleaned cs)
unfolding cleaned
cleaned_rules [] e = tt
cleaned_rules (c ∷ cs) e =
    by_kept c cs
    (λ k z. subst (Each ContourRules) (sym z) ((omega (arith, kept_length c k), each_neat PointRules c e.0.1), cleaned_rules cs e.1))
    (λ k z. subst (Each ContourRules) (sym z) (cleaned_rules cs e.1))

-- in a profile there are no more points and no more contours, and the rules hold
pub profiled_total : (p : Profile) (cs : List (List Point)) → point_total (profiled p cs) ≤ point_total cs
profiled_total Full cs = omega arith
profiled_total Clean cs = cleaned_total cs

pub profiled_count : (p : Profile) (cs : List (List Point)) → length (profiled p cs) ≤ length cs
profiled_count Full cs = omega arith
profiled_count Clean cs = cleaned_count cs

pub profiled_rules : (p : Profile) (cs : List (List Point)) → Each ContourRules cs → Each ContourRules (profiled p cs)
profiled_rules Full cs e = e
profiled_rules Clean cs e = cleaned_rules cs e

-- and each contour may stand in a file of the profile
every_fits : (cs : List (List Point)) → Each (λ c. fits_in Full c ≡ true) cs
every_fits [] = tt
every_fits (c ∷ cs) = (refl, every_fits cs)

pub profiled_fits : (p : Profile) (cs : List (List Point)) → Each (λ c. fits_in p c ≡ true) (profiled p cs)
profiled_fits Full cs = every_fits cs
profiled_fits Clean cs = cleaned_clean cs

-- ---- layers

pub layer_in_rules : (p : Profile) (l : Layer) → LayerRules l → LayerRules (layer_in p l)
layer_in_rules p l r =
    record { height_fits = r.height_fits; few = omega (arith, profiled_total p l.contours, r.few); each = profiled_rules p l.contours r.each }

module _ (p : Profile) where
  each_in : (ls : List Layer) → Each LayerRules ls → Each LayerRules (map (layer_in p) ls)
  each_in [] e = tt
  each_in (l ∷ ls) e = (layer_in_rules p l e.0, each_in ls e.1)

  rising_in_lem : (low : ℤ) (ls : List Layer) → RisingLayers low ls → RisingLayers low (map (layer_in p) ls)
  rising_in_lem low [] h = tt
  rising_in_lem low (l ∷ ls) h = (h.0, rising_in_lem l.height ls h.1)

  -- all layers of a file
  pub layers_in_rules : (ls : List Layer) → Rules ls → Rules (map (layer_in p) ls)
  layers_in_rules ls r =
      record { few = omega (arith, length-map ls (layer_in p), r.few); rises = rising_in_lem lowest ls r.rises; each = each_in ls r.each }

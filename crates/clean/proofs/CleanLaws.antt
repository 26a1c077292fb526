-- What Clean promises: it refuses exactly if a listed condition holds, at its place; its outcome is the only one; a refusal writes
-- nothing; else the first entries hold the cleaned layer, which is a layer again, is clean, and has the same area in all.
use Rattle.std.specs.Prelude.{ℕ, ◌+◌, ◌*◌, ◌≤◌, ◌≡◌, refl, true, List, [], ◌∷◌, ◌↔◌, leb, length, Result, Ok, Err}
use Rattle.std.proofs.Common.{sym, ap, ◌∙◌, subst, arith}
use Rattle.laws.specs.Booleans.{and_parts}
use Rattle.mesh.specs.Operation.{gives, refuses, fine, verdict, unless_refused}
use Rattle.mesh.specs.OperationLaws.{First, None, join_fine, Recovers, given_verdict, refused_exactly, given_exactly}
use Rattle.mesh.specs.OperationLaws.{left_given, left_refused, only_outcome}
use Rattle.mesh.specs.Refusals.{Told}
use Rattle.mesh.specs.RefusalLaws.{refusal_of, refusal_once}
use Rattle.mesh.specs.declared.Refusal.{Refusal}
use Rattle.polygons.specs.Flat.{PointNear, fewest_points, point_total, FlatLayer, flat_of, ends_rise, last_end, end_before, polygons_of}
use Rattle.polygons.specs.Flat.{layer_tests}
use Rattle.polygons.specs.declared.LayerCounts.{LayerCounts}
use Rattle.polygons.proofs.FlatLaws.{LayerTested, layer_tested, tested_fine, tested_near, near_tested, end_rises, polygons_flat}
use Rattle.polygons.proofs.FlatLaws.{layer_polygons}
use Rattle.polygons.proofs.FlatLaws.{front_holding}
use Rattle.file_write.specs.LayerTables.{EndsWithin}
use Rattle.cleaning.specs.Cleaning.{cleaned}
use Rattle.cleaning.proofs.CleaningLaws.{AllClean, cleaned_clean, cleaned_twice}
use Rattle.cleaning.proofs.SizeLaws.{each_cleaned, cleaned_polygons}
use Rattle.polygons.specs.ContourAreas.{layer_area}
use Rattle.cleaning.proofs.AreaLaws.{area_cleaned}
use Rattle.clean_layers.specs.Layers.{CleanTables, layer_front}
use Rattle.clean.specs.Clean.{cleaning_tests, cleaned_of, tell_clean, Cleans}

-- ---- what is not refused

-- the tables then are as `copy_layer` asks
ends_within : (n from : ℕ) (ends : List ℕ) → ends_rise from ends ≡ true → 2 * last_end from ends ≤ n → EndsWithin n from ends
unfolding ends_rise last_end end_before
ends_within n from [] r h = tt
ends_within n from (end ∷ ends) r h =
    let first = end_rises from (end ∷ ends) r 0 (omega arith) in
    (omega (arith, first.0), omega (arith, first.1), ends_within n end ends (and_parts (leb (from + fewest_points) end) (ends_rise end ends) r).1 h)

pub tested_tables : (t u : FlatLayer) → LayerTested t → length t.points ≤ length u.points → length t.ends ≤ length u.ends → CleanTables t u
tested_tables t u h p e =
    let last = h.tested.last in
    record { rise = ends_within (length t.points) 0 t.ends h.tested.rising (omega (arith, last)); points_room = p; ends_room = e }

-- ---- the answer's cases, from what they tell

pub clean_recovers : Recovers tell_clean
clean_recovers = record {
  back = elim [ gives v ↦ Ok (record { contours = v.0; points = v.1 }) | refuses r ↦ Err (refusal_of r) ];
  once = elim [ Ok counts ↦ refl | Err r ↦ ap Err (refusal_once r) ];
}

-- ---- what Clean leaves is a layer

-- a cleaned layer is one again, with its numbers in range
pub cleaned_tested : (t : FlatLayer) → LayerTested t → LayerTested (flat_of (cleaned_of t))
cleaned_tested t h =
    let cs = polygons_of t in
    near_tested (cleaned cs) (cleaned_polygons cs (layer_polygons t h.tested)) (each_cleaned PointNear cs (tested_near t h))

-- ---- Clean

module _ {t u : FlatLayer} {result : Result LayerCounts Refusal} {u' : FlatLayer} (d : Cleans t u result u') where
  -- refused exactly if a listed condition holds, the first that fits; answered exactly if none does; and one outcome only
  pub clean_refused : (r : Told) → (tell_clean result ≡ refuses r) ↔ First (cleaning_tests t u) r
  clean_refused = refused_exactly d

  pub clean_given : (tell_clean result ≡ gives (length (cleaned_of t), point_total (cleaned_of t))) ↔ None (cleaning_tests t u)
  clean_given = given_exactly d

  pub clean_only : {other : Result LayerCounts Refusal} {w : FlatLayer} → Cleans t u other w → (result ≡ other) × (u' ≡ w)
  clean_only = only_outcome clean_recovers d

  -- a refusal writes nothing
  pub clean_stays : {r : Told} → tell_clean result ≡ refuses r → u' ≡ u
  unfolding unless_refused
  clean_stays e = left_refused d e

  -- else the first entries, so many as the answer says, are the tables of the cleaned layer
  module _ {counts : ℕ × ℕ} (e : tell_clean result ≡ gives counts) where
    pub clean_holds : layer_front counts u' ≡ flat_of (cleaned_of t)
    unfolding unless_refused
    clean_holds = (λ i. layer_front ((given_verdict d e).1 i) (left_given d e i)) ∙ front_holding (cleaned_of t) u

    pub clean_contours : polygons_of (layer_front counts u') ≡ cleaned_of t
    clean_contours = ap polygons_of clean_holds ∙ polygons_flat (cleaned_of t)

    given_tested : LayerTested t
    given_tested = layer_tested t (join_fine (layer_tests t) _ (given_verdict d e).0)

    -- they pass the tests of a layer
    pub clean_passes : verdict (layer_tests (layer_front counts u')) ≡ fine
    clean_passes = tested_fine _ (subst LayerTested (sym clean_holds) (cleaned_tested t given_tested))

    -- and are clean (CLEAN-11)
    pub clean_clean : AllClean (polygons_of (layer_front counts u'))
    clean_clean = subst AllClean (sym clean_contours) (cleaned_clean (polygons_of t))

    -- the sum of the areas is that of the layer handed in (CLEAN-12)
    pub clean_area : layer_area (polygons_of (layer_front counts u')) ≡ layer_area (polygons_of t)
    clean_area = ap layer_area clean_contours ∙ area_cleaned (polygons_of t)

-- Clean of what Clean left gives the same again (CLEAN-11)
pub clean_again : {t u : FlatLayer} {result : Result LayerCounts Refusal} {u' : FlatLayer} {counts : ℕ × ℕ} → Cleans t u result u'
    → tell_clean result ≡ gives counts → {w : FlatLayer} {other : Result LayerCounts Refusal} {w' : FlatLayer} {again : ℕ × ℕ}
    → Cleans (layer_front counts u') w other w' → tell_clean other ≡ gives again
    → (again ≡ counts) × (layer_front again w' ≡ layer_front counts u')
clean_again {t} d e c f =
    let same = ap cleaned (clean_contours d e) ∙ cleaned_twice (polygons_of t) in (
      (given_verdict c f).1 ∙ (λ i. (length (same i), point_total (same i))) ∙ sym (given_verdict d e).1,
      clean_holds c f ∙ ap flat_of same ∙ sym (clean_holds d e),
    )

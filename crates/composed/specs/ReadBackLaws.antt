-- Read back, proved: the file is that of Cut's layers in the profile, which keep the rules, so Read layer reads them; a layer's points and ends are
-- those in the tables of Cut, or of Clean.
use Rattle.std.specs.Prelude.{ℕ, zero, suc, ◌*◌, ◌<◌, ◌≡◌, refl, length, get_or, take, drop, ℤ, pos, Result}
use Rattle.std.proofs.Common.{sym, ap, ◌∙◌, arith}
use mathlib.Core.List.{List, [], ◌∷◌, map, flatten}
use Rattle.std.proofs.lemmas.List.{length-map}
use Rattle.laws.specs.Tables.{overwrite}
use Rattle.laws.specs.TableLaws.{overwrite_front, overwrite_rest}
use Rattle.mesh.specs.Meshes.{PairedMesh, OrderedMesh}
use Rattle.mesh.specs.Operation.{gives, fine, after}
use Rattle.mesh.specs.OperationLaws.{given_verdict, left_given}
use Rattle.polygons.specs.Flat.{FlatLayer, flat, flat_of, numbers_of, ends_of, point_total, polygons_of}
use Rattle.polygons.proofs.FlatLaws.{length_points, length_ends, polygons_flat, front_holding}
use Rattle.cleaning.specs.Cleaning.{cleaned}
use Rattle.cleaning.specs.declared.Profile.{Profile}
use Rattle.cleaning.specs.declared.Profile.TheVariants.{Full, Clean}
use Rattle.clean_layers.specs.Layers.{layer_front}
use Rattle.clean.proofs.CleanLaws.{clean_holds}
use Rattle.mesh.specs.declared.Refusal.{Refusal}
use Rattle.polygons.specs.declared.LayerCounts.{LayerCounts}
use Rattle.read_layer.specs.declared.LayerRead.{LayerRead}
use Rattle.cut_points.specs.Points.{point_of}
use Rattle.cut.specs.Cut.{CutTables, section, contours_of, tell_cut, Cuts}
use Rattle.read_layer.specs.Reading.{layer_at, fills_layer, tell_read_layer}
use Rattle.read_layer.specs.ReadingLaws.{read_held}
use Rattle.file_formats.specs.LayerFile as files
use Rattle.file_formats.specs.LayerFile.{layer_in, layers_of_in}
use Rattle.all_heights.specs.Heights.{heights_taken}
use Rattle.all_heights.specs.HeightLaws.{ranged_words}
use Rattle.all_sweep.specs.AllLayers.{drawn, cut_layer}
use Rattle.all_sweep.specs.CutLayerLaws.{cut_in, drawn_points, drawn_ends, drawn_total}
use Rattle.all_sweep.specs.LayersLaws.{all_layers_tested, all_layers_cut, all_layers_reads_back}
use Rattle.demand_three.proofs.FileLaws.{file_claim}
use Rattle.composed.specs.ReadBack.{ReadsSame, layer_left, MadeByCut, MadeByClean, MadeIn, ReadBack}

-- ---- one layer

-- tables hold a layer, in front: its counts, and its points and ends
pub record LayerHeld (l : files.Layer) (t : FlatLayer) (j k : ℕ) : Type 0 where
  pub count : length l.contours ≡ j
  pub total : point_total l.contours ≡ k
  pub front : layer_front (j, k) t ≡ flat_of l.contours

-- what Cut left
pub cut_held : {m : PairedMesh} {h : ℤ} {t t' : CutTables} {cut : Result LayerCounts Refusal} {j k : ℕ} → Cuts m h t cut t' → tell_cut cut ≡ gives (j, k)
    → LayerHeld (cut_layer m h) (layer_left t') j k
unfolding cut_layer after
cut_held {m} {h} {t} {t'} {cut} {j} {k} c e =
    let rs = contours_of (section m h) in
    let cs = (drawn m.mesh h rs).contours in
    let counts = (given_verdict c e).1 in
    let left = left_given c e in
    let count : length cs ≡ j = length-map rs (map (point_of m.mesh h)) ∙ sym (λ i. (counts i).0) in
    let total : point_total cs ≡ k = drawn_total m.mesh h rs ∙ sym (λ i. (counts i).1) in
    let points : t'.points ≡ overwrite (numbers_of (flatten cs)) t.points =
    ap (λ (u : CutTables). u.points) left ∙ ap (λ (l : List ℤ). overwrite l t.points) (drawn_points m.mesh h rs) in
    let ends : t'.ends ≡ overwrite (ends_of cs) t.ends =
    ap (λ (u : CutTables). u.ends) left ∙ ap (λ (l : List ℕ). overwrite l t.ends) (drawn_ends m.mesh h rs) in
    record {
      count = count;
      total = total;
      front = λ i. flat
          ((ap (take (2 * k)) points ∙ overwrite_front _ t.points (length_points cs ∙ ap (λ (n : ℕ). 2 * n) total)) i)
          ((ap (take j) ends ∙ overwrite_front _ t.ends (length_ends 0 cs ∙ count)) i);
    }

-- what was made in the profile
made_cut : {m : OrderedMesh} {h : ℤ} {t : FlatLayer} {j k : ℕ} → MadeByCut m h t j k → LayerHeld (cut_layer m.paired h) t j k
made_cut {m} {h} {t} {j} {k} c =
    let w = cut_held c.cuts c.told in
    record { count = w.count; total = w.total; front = ap (layer_front (j, k)) c.there ∙ w.front }

made_clean : {m : OrderedMesh} {h : ℤ} {t : FlatLayer} {j k : ℕ} → MadeByClean m h t j k → LayerHeld (layer_in Clean (cut_layer m.paired h)) t j k
made_clean {m} {h} c =
    let cs = (cut_layer m.paired h).contours in
    let same : cleaned (polygons_of (layer_front c.counts c.cut)) ≡ cleaned cs = ap (λ (t : FlatLayer). cleaned (polygons_of t)) (made_cut c.made).front
    ∙ ap cleaned (polygons_flat cs) in
    let counts = (given_verdict c.cleans c.told).1 in
    record {
      count = ap length (sym same) ∙ sym (λ i. (counts i).0);
      total = ap point_total (sym same) ∙ sym (λ i. (counts i).1);
      front = clean_holds c.cleans c.told ∙ ap flat_of same;
    }

pub made : (p : Profile) (m : OrderedMesh) (h : ℤ) {t : FlatLayer} {j k : ℕ} → MadeIn p m h t j k → LayerHeld (cut_in p m.paired h) t j k
made Full m h c = made_cut c
made Clean m h c = made_clean c

-- ---- Read layer

-- what Read layer left where it gave a layer that other tables hold
reads_same : {l : files.Layer} {t : FlatLayer} {j k : ℕ} → LayerHeld l t j k → {n : ℕ} {h : ℤ} {u u' : FlatLayer} {result : Result LayerRead Refusal}
    → tell_read_layer result ≡ gives (n, h, j, k) → u' ≡ fills_layer l u fine → ReadsSame n h j k t u result u'
unfolding after
reads_same {l} {t} {j} {k} held {u = u} {u' = u'} says filled =
    let cs = l.contours in
    let many : length (numbers_of (flatten cs)) ≡ 2 * k = length_points cs ∙ ap (λ (n : ℕ). 2 * n) held.total in
    let some : length (ends_of cs) ≡ j = length_ends 0 cs ∙ held.count in
    record {
      says = says;
      front = (λ i. layer_front (sym held.count i, sym held.total i) (filled i)) ∙ front_holding cs u ∙ sym held.front;
      points_stay = ap (λ (t : FlatLayer). drop (2 * k) t.points) filled ∙ overwrite_rest _ u.points many;
      ends_stay = ap (λ (t : FlatLayer). drop j t.ends) filled ∙ overwrite_rest _ u.ends some;
    }

-- layer i of the layers of Cut is that at height i
layer_of_height : (p : Profile) (m : PairedMesh) (hs : List ℤ) (i : ℕ) → i < length hs → layer_at (map (cut_in p m) hs) i ≡ cut_in p m (get_or hs i (pos 0))
layer_of_height p m [] i l = absurd (omega arith)
layer_of_height p m (h ∷ hs) zero l = refl
layer_of_height p m (h ∷ hs) (suc i) l = layer_of_height p m hs i (omega arith)

height_is : (p : Profile) (m : PairedMesh) (h : ℤ) → (cut_in p m h).height ≡ h
unfolding cut_layer
height_is p m h = refl

-- ---- the theorem

pub reads_back : ReadBack
reads_back p m heights w w' output output' filed n words f gave i l t j k there u u' result points ends d =
    let hs = heights_taken m.paired.mesh.coords heights in
    let ls = map (cut_in p m.paired) hs in
    let coords = ranged_words m.paired.mesh.coords (all_layers_tested f gave).right.inside in
    let file = (file_claim p m heights w w' output output' filed n f gave).bytes ∙ sym (all_layers_cut f gave) in
    let holds-them = ap (layers_of_in p) file ∙ all_layers_reads_back f gave coords words in
    let at = layer_of_height p m.paired hs i l in
    let held = made p m (get_or hs i (pos 0)) there in
    let total = ap (λ (x : files.Layer). point_total x.contours) at ∙ held.total in
    let count = ap (λ (x : files.Layer). length x.contours) at ∙ held.count in
    let size = length-map hs (cut_in p m.paired) in
    let height = ap (λ (x : files.Layer). x.height) at ∙ height_is p m.paired (get_or hs i (pos 0)) in
    let g = read_held d holds-them (omega (arith, size)) (omega (arith, total)) (omega (arith, count)) in
    reads_same held (g.answered ∙ (λ s. gives (size s, height s, count s, total s))) (g.filled ∙ (λ s. fills_layer (at s) u fine))

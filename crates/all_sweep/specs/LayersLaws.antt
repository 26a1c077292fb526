-- What All layers promises: it refuses exactly if a listed condition holds, at the least place; its outcome is the only one; what an unrefused call has tested;
-- its file is that of Cut at each height, keeps the rules of the layer file, and is read back as the layers that it was written from.
use Rattle.std.specs.Prelude.{ℕ, suc, ◌<◌, ◌≤◌, ◌≡◌, refl, ◌↔◌, length, get_or, ℤ, pos, negsuc, ◌<ℤ◌, Result, Ok, Err}
use Rattle.std.proofs.Math.Path.{ap}
use Rattle.std.proofs.Common.{◌∙◌, arith}
use mathlib.Core.List.{List, [], ◌∷◌, ◌++◌, map}
use borrow.Author.Tests.{leb-true, ltb-false, not-false}
use Rattle.std.proofs.lemmas.List.{length-map}
use Rattle.laws.specs.Booleans.{and_parts}
use Rattle.laws.specs.Integers.{lt_out}
use Rattle.laws.specs.Tables.{overwrite}
use Rattle.mesh.specs.Meshes.{PairedMesh, OrderedMesh}
use Rattle.mesh.specs.OrderTableLaws.{ordered_rank}
use Rattle.mesh.specs.Operation.{gives, refuses, fine, Condition, verdict}
use Rattle.mesh.specs.OperationLaws.{First, None, more, fine_none, join_fine, Recovers, given_verdict, refused_exactly, given_exactly, left_given, only_outcome}
use Rattle.mesh.specs.Refusals.{Told}
use Rattle.mesh.specs.declared.Refusal.{Refusal}
use Rattle.mesh.specs.RefusalLaws.{refusal_of, refusal_once}
use Rattle.cleaning.proofs.CleaningLaws.{cleaned_twice}
use Rattle.cleaning.specs.declared.Profile.{Profile}
use Rattle.cleaning.specs.declared.Profile.TheVariants.{Full, Clean}
use Rattle.section.specs.Section.{Right}
use Rattle.section.specs.RightLaws.{right_of}
use Rattle.cut.specs.Cut.{lengths_of}
use Rattle.cut.specs.Outlines.{Long}
use Rattle.cut.specs.OutlineLaws.{room_long}
use Rattle.file_formats.specs.Formats.{Each, holds}
use Rattle.file_formats.specs.Numbers.{Word}
use Rattle.file_formats.specs.LayerFile.{layer_in, most_layers, lowest, layers_of_in}
use Rattle.file_formats.specs.LayerRules as rules
use Rattle.file_formats.specs.LayerRules.{LayerRules}
use Rattle.file_formats.specs.CleanFileLaws.{read_back_in}
use Rattle.sweep.specs.Operations.{unless_refused}
use Rattle.sweep.specs.Places.{InOrder}
use Rattle.all_heights.specs.Heights.{heights_taken}
use Rattle.all_heights.specs.Taking.{RisingHeights, Words}
use Rattle.all_heights.specs.HeightLaws.{nowhere_rising}
use Rattle.all_heights.proofs.DefaultLaws.{taken_fit}
use Rattle.all_sweep.specs.AllLayers.{cut_layer, cut_file, swept_file, climbed, WorkTables, work_room_for, layers_tests, used_at, short_output, filing}
use Rattle.all_sweep.specs.AllLayers.{tell_all_layers, Files}
use Rattle.all_sweep.specs.ClimbLaws.{swept_is_cut}
use Rattle.all_sweep.specs.CutLayerLaws.{cut_in, layer_rules}

-- ---- the layers keep the rules of the layer file

module _ (p : Profile) (m : PairedMesh) (right : Right m) where
  each_rules : (hs : List ℤ) → Words hs → Each LayerRules (map (cut_in p m) hs)
  each_rules [] w = tt
  each_rules (h ∷ hs) w = (layer_rules m right h p (w 0 (omega arith)), each_rules hs (λ i l. w (suc i) (omega arith)))

  rise_rules : (low : ℤ) (hs : List ℤ) → (0 < length hs → low <ℤ get_or hs 0 (pos 0)) → RisingHeights hs → rules.RisingLayers low (map (cut_in p m) hs)
  unfolding cut_layer
  rise_rules low [] a r = tt
  rise_rules low (h ∷ hs) a r = (a (omega arith), rise_rules h hs (λ l. r 0 (omega arith)) (λ i l. r (suc i) (omega arith)))

above_lowest : (z : ℤ) → Word z → lowest <ℤ z
above_lowest (pos n) w = record { lt = tt }
above_lowest (negsuc n) w = lt_out (omega arith)

-- ---- what the tests establish

pub record FileTested (m : OrderedMesh) (heights : List ℤ) (w : WorkTables) : Type 0 where
  pub right : Right m.paired
  pub ranked : InOrder m.paired.mesh.coords m.order
  pub long : Long (length m.paired.mesh.corners) (lengths_of w.cut)
  pub ring_long : length m.paired.mesh.corners ≤ length w.ring
  pub few : length (heights_taken m.paired.mesh.coords heights) ≤ most_layers
  pub rises : RisingHeights (heights_taken m.paired.mesh.coords heights)

module _ (m : OrderedMesh) (heights : List ℤ) (w : WorkTables) where
  abbrev tests : List (Condition Told)
  tests = layers_tests m heights (lengths_of w.cut) (length w.ring)

  pub file_tested : verdict (layers_tests m heights (lengths_of w.cut) (length w.ring)) ≡ fine → FileTested m heights w
  unfolding work_room_for
  file_tested e = go (fine_none tests e)
    where
      go : None (layers_tests m heights (lengths_of w.cut) (length w.ring)) → FileTested m heights w
      go (more s (more n (more u (more r (more x (more t (more p (more o (more a _))))))))) =
          let room = and_parts _ _ (not-false _ (u 0 (omega arith))) in
          record {
            right = right_of m.paired (not-false _ (s 0 (omega arith))) r x t p;
            ranked = λ i l. ordered_rank m.paired.mesh.coords m.order i (not-false _ (o i l)) l;
            long = room_long _ _ room.0;
            ring_long = leb-true _ _ room.1;
            few = ltb-false _ _ (n 0 (omega arith));
            rises = nowhere_rising (heights_taken m.paired.mesh.coords heights) a;
          }

-- ---- a profile leaves layers that are in it

cut_stays : (p : Profile) (m : PairedMesh) (h : ℤ) → layer_in p (cut_in p m h) ≡ cut_in p m h
cut_stays Full m h = refl
cut_stays Clean m h = λ i. record { height = (cut_layer m h).height; contours = cleaned_twice (cut_layer m h).contours i }

cuts_stay : (p : Profile) (m : PairedMesh) (hs : List ℤ) → map (layer_in p) (map (cut_in p m) hs) ≡ map (cut_in p m) hs
cuts_stay p m [] = refl
cuts_stay p m (h ∷ hs) = λ i. cut_stays p m h i ∷ cuts_stay p m hs i

-- ---- All layers

pub all_layers_recovers : Recovers tell_all_layers
all_layers_recovers = record {
  back = elim [ gives n ↦ Ok n | refuses r ↦ Err (refusal_of r) ];
  once = elim [ Ok n ↦ refl | Err r ↦ ap Err (refusal_once r) ];
}

module _ {p : Profile} {m : OrderedMesh} {heights : List ℤ} {w w' : WorkTables} {output output' : List ℕ} {result : Result ℕ Refusal}
    (f : Files p m heights w output result w' output') where
  -- refused exactly if a listed condition holds, the first that fits, at the least place; the length of the file exactly if none does; and one outcome only
  pub all_layers_refused : (r : Told) → (tell_all_layers result ≡ refuses r) ↔ First (filing (p, m, heights, w, output)).refusals r
  all_layers_refused = refused_exactly f

  pub all_layers_given : (tell_all_layers result ≡ gives (length (swept_file p m w.ring (heights_taken m.paired.mesh.coords heights))))
      ↔ None (filing (p, m, heights, w, output)).refusals
  all_layers_given = given_exactly f

  pub all_layers_only : {other : Result ℕ Refusal} {u' : WorkTables} {o' : List ℕ} → Files p m heights w output other u' o'
      → (result ≡ other) × (w' ≡ u') × (output' ≡ o')
  all_layers_only g =
      let q = only_outcome all_layers_recovers f g in
      (q.0, ap (λ (t : WorkTables × List ℕ). t.0) q.1, ap (λ (t : WorkTables × List ℕ). t.1) q.1)

  -- an unrefused call
  module _ {n : ℕ} (e : tell_all_layers result ≡ gives n) where
    pub all_layers_tested : FileTested m heights w
    all_layers_tested =
        let hs = heights_taken m.paired.mesh.coords heights in
        file_tested m heights w (join_fine (layers_tests m heights (lengths_of w.cut) (length w.ring))
        (map used_at (climbed m w.ring hs) ++ (short_output (length output) (swept_file p m w.ring hs) ∷ [])) (given_verdict f e).0)

    -- its file is that of Cut at each height
    pub all_layers_cut : swept_file p m w.ring (heights_taken m.paired.mesh.coords heights)
        ≡ cut_file p m.paired (heights_taken m.paired.mesh.coords heights)
    all_layers_cut = let t = all_layers_tested in swept_is_cut m w.ring t.right t.ranked t.ring_long p _ t.rises

    pub all_layers_length : n ≡ length (cut_file p m.paired (heights_taken m.paired.mesh.coords heights))
    all_layers_length = (given_verdict f e).1 ∙ ap length all_layers_cut

    pub all_layers_output : output' ≡ overwrite (cut_file p m.paired (heights_taken m.paired.mesh.coords heights)) output
    unfolding unless_refused
    all_layers_output = ap (λ (t : WorkTables × List ℕ). t.1) (left_given f e) ∙ ap (λ (file : List ℕ). overwrite file output) all_layers_cut

    -- of tables of 32-bit numbers the file of the single cuts is read back in either profile as the layers that it was written from, and so is the swept one
    module _ (c : Words m.paired.mesh.coords) (k : Words heights) where
      pub cuts_read_back : (q : Profile)
          → layers_of_in q (cut_file q m.paired (heights_taken m.paired.mesh.coords heights))
          ≡ holds (map (cut_in q m.paired) (heights_taken m.paired.mesh.coords heights))
      cuts_read_back q =
          let hs = heights_taken m.paired.mesh.coords heights in
          let t = all_layers_tested in
          let words = taken_fit m.paired.mesh.coords c heights k in
          read_back_in q (map (cut_in q m.paired) hs)
          (record {
            few = omega (arith, t.few, length-map hs (cut_in q m.paired));
            rises = rise_rules q m.paired t.right lowest hs (λ l. above_lowest _ (words 0 l)) t.rises;
            each = each_rules q m.paired t.right hs words;
          })
          (cuts_stay q m.paired hs)

      pub all_layers_reads_back : layers_of_in p (swept_file p m w.ring (heights_taken m.paired.mesh.coords heights))
          ≡ holds (map (cut_in p m.paired) (heights_taken m.paired.mesh.coords heights))
      all_layers_reads_back = ap (layers_of_in p) all_layers_cut ∙ cuts_read_back p

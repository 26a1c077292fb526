-- Nesting of what Cut, Clean or Read layer gave, proved: what they give obeys the rules of a layer, so it passes the tests of one.
use Rattle.std.specs.Prelude.{ℕ, ◌≡◌, refl, true, ◌⊎◌, length, ℤ, Result}
use Rattle.std.proofs.Common.{sym, ◌∙◌, subst, inl, inr, arith, le-leb}
use Rattle.std.proofs.Math.Path.{ap}
use Rattle.std.proofs.Math.Bool.{not}
use mathlib.Core.List.{[], ◌∷◌}
use Rattle.laws.specs.Booleans.{and_of}
use Rattle.mesh.specs.Meshes.{OrderedMesh}
use Rattle.mesh.specs.Operation.{Answer, gives, after, Nowhere}
use Rattle.mesh.specs.OperationLaws.{None, more, done, fine_none}
use Rattle.mesh.specs.Refusals.{Told, refusal, numbered}
use Rattle.polygons.specs.Flat.{FlatLayer, flat_of, layer_front, polygons_of, layer_tests}
use Rattle.polygons.proofs.FlatLaws.{LayerTested, layer_tested, tested_fine, at_each, front_holding}
use Rattle.cleaning.specs.declared.Profile.{Profile}
use Rattle.cleaning.specs.declared.Profile.TheVariants.{Full, Clean}
use Rattle.file_formats.specs.LayerFile as files
use Rattle.file_formats.specs.LayerRules.{LayerRules}
use Rattle.file_formats.specs.LayerRuleLaws.{ruled_tested}
use Rattle.read_layer.specs.Reading.{layer_at, layer_counts}
use Rattle.read_layer.specs.ReadingLaws.{read_written}
use Rattle.clean.proofs.CleanLaws.{clean_passes}
use Rattle.section.specs.Section.{Right}
use Rattle.cut.proofs.CutLaws.{cut_right}
use Rattle.all_sweep.specs.CutLayerLaws.{layer_rules}
use Rattle.mesh.specs.declared.Refusal.{Refusal}
use Rattle.nesting.specs.Nesting.{NestTables, nest_room_for, no_nest_room, nesting_tests, FindsNesting}
use Rattle.nesting.specs.HolderLaws.{length_polygons}
use Rattle.nesting.specs.NestingLaws.{nesting_entries, unheld_alone}
use Rattle.composed.specs.ComposedLaws.{Either, refused_either, only_verdict}
use Rattle.composed.specs.ReadBack.{MadeIn}
use Rattle.composed.specs.ReadBackLaws.{made}
use Rattle.composed.specs.NestedLayers.{NestsThese, NestsFront, CutNested, CleanNested, ReadNested}

-- ---- a layer that passes the tests of one

module _ {t : FlatLayer} (l : LayerTested t) {u : NestTables} {result : Result Unit Refusal} {u' : NestTables} (d : FindsNesting t u result u') where
  tested_nests : NestsThese (polygons_of t) u result u'
  unfolding nest_room_for
  tested_nests =
      let n = length_polygons l in
      record {
        only = only_verdict d (9 ∷ [])
            (λ r. refused_either (λ r. numbered (9 ∷ []) r ≡ true) (nesting_tests t u) (left (λ r. numbered (9 ∷ []) r ≡ true) (inr (λ i. refl))));
        given = λ depths parents.
            let room = and_of (le-leb (length t.ends) (length u.depths) (omega (arith, n)))
            (le-leb (length t.ends) (length u.parents) (omega (arith, n))) in
            only_verdict d [] (λ r. refused_either (λ r. numbered [] r ≡ true) (nesting_tests t u)
            (left (λ r. numbered [] r ≡ true) (inl (λ i h. ap not room))));
        entries = λ e i h.
            let at = nesting_entries d e i (omega (arith, n)) in
            record {
              depth = at.0;
              parent = at.1;
              alone = λ held. let a = unheld_alone l i (λ k b. held k (omega (arith, n))) in (at.0 ∙ a.0, at.1 ∙ a.1);
            };
      }
    where
      none : None (layer_tests t)
      none = fine_none (layer_tests t) (tested_fine t l)

      left : (P : Told → Type 0) → Nowhere (no_nest_room (length t.ends) (length u.depths) (length u.parents)) ⊎ ((i : ℕ) → P (refusal 9 i))
          → Either P (nesting_tests t u)
      left P room = go none
        where
          go : None (layer_tests t) → Either P (nesting_tests t u)
          go (more a (more b done)) = (inl a, (inl b, (room, tt)))

front_nests : {l : files.Layer} (t : FlatLayer) (j k : ℕ) → LayerRules l → layer_front (j, k) t ≡ flat_of l.contours → NestsFront t j k
front_nests {l} t j k r front u u' result d = tested_nests (subst LayerTested (sym front) (ruled_tested l r)) d

-- ---- what Cut gave, or Clean of that

made_right : (p : Profile) (m : OrderedMesh) (h : ℤ) (t : FlatLayer) (j k : ℕ) → MadeIn p m h t j k → Right m.paired
made_right Full m h t j k c = cut_right c.cuts c.told
made_right Clean m h t j k c = cut_right c.made.cuts c.made.told

pub cut_nested : CutNested
cut_nested p m h word t j k c = front_nests t j k (layer_rules m.paired (made_right p m h t j k c) h p word) (made p m h c).front

-- ---- what Clean gave

pub clean_nested : CleanNested
clean_nested t u u' clean d j k e w w' result n = tested_nests (layer_tested (layer_front (j, k) u') (clean_passes d e)) n

-- ---- what Read layer gave

same_given : {G : Type 0} {g f : G} → ◌≡◌ {A = Answer Told G} (gives g) (gives f) → g ≡ f
same_given e = cc

pub read_nested : ReadNested
unfolding after
read_nested p file bytes i t t' read d n h j k e =
    let f = read_written d bytes e in
    let ls = f.0 in
    let g = f.1.gives_it in
    let cs = (layer_at ls i).contours in
    let counts : (n, h, j, k) ≡ layer_counts ls i = same_given (sym e ∙ g.answered) in
    front_nests t' j k (at_each LayerRules _ ls f.1.rules.each i f.1.there)
    ((λ s. layer_front ((counts s).2, (counts s).3) (g.filled s)) ∙ front_holding cs t)

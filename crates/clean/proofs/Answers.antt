-- What `clean` answers and leaves at each return.
use Prim.Native.Nat.{◌≤◌, ◌<◌}
use mathlib.Core.Path.{◌≡◌, refl, sym, ap, ◌∙◌}
use mathlib.Core.Bool.{true, false, not}
use mathlib.Core.List.{[], ◌∷◌}
use Rattle.std.specs.Prelude.{Result, Ok, Err}
use native.Mathlib.Omega.{arith}
use borrow.Author.Tests.{leb-true, le-leb}
use lib.Dec.{leb}
use lib.ListN.{length}
use Rattle.laws.specs.Booleans.{is_false, and_parts, and_of}
use Rattle.mesh.specs.Operation.{Finding, gives, refuses, fine, verdict, unless_refused}
use Rattle.mesh.specs.OperationLaws.{whole_refused, whole_fine, verdict_one, join_stop, join_next, does_refuse, does_give}
use Rattle.mesh.specs.Refusals.{Told, refusal, told_of}
use Rattle.mesh.specs.declared.Refusal.{Refusal}
use Rattle.mesh.specs.declared.Refusal.TheVariants.{Room}
use Rattle.polygons.specs.Flat.{FlatLayer, layer_tests}
use Rattle.polygons.specs.declared.LayerCounts.{LayerCounts}
use Rattle.polygons.proofs.FlatLaws.{layer_tested}
use Rattle.clean_layers.specs.Layers.{Fills, CleanTables}
use Rattle.clean.specs.Clean.{clean_room_for, no_clean_room, cleaned_of, tell_clean, Cleans}
use Rattle.clean.proofs.CleanLaws.{tested_tables}

room_parts : (t u : FlatLayer) → clean_room_for t u ≡ true → (length t.points ≤ length u.points) × (length t.ends ≤ length u.ends)
unfolding clean_room_for
room_parts t u e =
    let p = and_parts (leb (length t.points) (length u.points)) (leb (length t.ends) (length u.ends)) e in
    (leb-true (length t.points) (length u.points) p.0, leb-true (length t.ends) (length u.ends) p.1)

-- what the layer's tests found
module _ {t u : FlatLayer} {f : Finding Told} (e : f ≡ verdict (layer_tests t)) where
  pub layer_refused : {r : Refusal} {result : Result LayerCounts Refusal} → f ≡ refuses (told_of r) → result ≡ Err r → Cleans t u result u
  unfolding unless_refused
  layer_refused h is = does_refuse (join_stop (layer_tests t) (no_clean_room t u ∷ []) e h) h (ap tell_clean is) refl

  module _ (h : f ≡ fine) where
    short : clean_room_for t u ≡ false → Cleans t u (Err (Room 0)) u
    unfolding unless_refused
    short s =
        let v = join_next (layer_tests t) (no_clean_room t u ∷ []) e h (whole_refused (refusal 9) _ (ap not s) ∙ verdict_one (no_clean_room t u)) in
        does_refuse v refl refl refl

    pub points_short : length u.points < length t.points → Cleans t u (Err (Room 0)) u
    points_short s = short (is_false _ (λ g. omega (arith, (room_parts t u g).0)))

    pub ends_short : length u.ends < length t.ends → Cleans t u (Err (Room 0)) u
    ends_short s = short (is_false _ (λ g. omega (arith, (room_parts t u g).1)))

    module _ (p : length t.points ≤ length u.points) (q : length t.ends ≤ length u.ends) where
      pub tables_there : CleanTables t u
      tables_there = tested_tables t u (layer_tested t (sym e ∙ h)) p q

      pub layer_cleaned : {counts : LayerCounts} {u' : FlatLayer} → Fills (cleaned_of t) u counts.contours counts.points u' → Cleans t u (Ok counts) u'
      unfolding unless_refused clean_room_for
      layer_cleaned l =
          let room = and_of (le-leb (length t.points) (length u.points) p) (le-leb (length t.ends) (length u.ends) q) in
          let v = join_next (layer_tests t) (no_clean_room t u ∷ []) e h (whole_fine (refusal 9) _ (ap not room) ∙ verdict_one (no_clean_room t u)) in
          does_give v refl (λ i. gives (l.contours_are i, l.points_are i)) l.holds

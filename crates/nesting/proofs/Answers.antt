-- What `nest_room_for` and `nesting` answer and leave at each return.
use Prim.Native.Nat.{ℕ, ◌≤◌, ◌<◌}
use mathlib.Core.Path.{◌≡◌, refl, sym, ap, ◌∙◌}
use mathlib.Core.Bool.{Bool, true, false, not, ◌&&◌}
use mathlib.Core.List.{[], ◌∷◌}
use borrow.Author.Tests.{le-leb, lt-leb}
use lib.Dec.{leb}
use lib.ListN.{length}
use Rattle.std.specs.Prelude.{Result, Ok, Err}
use Rattle.mesh.specs.Operation.{Finding, refuses, fine, Condition, verdict, unless_refused}
use Rattle.mesh.specs.OperationLaws.{whole_refused, whole_fine, verdict_one, join_stop, join_next, does_refuse, does_give}
use Rattle.mesh.specs.Refusals.{Told, refusal, told_of}
use Rattle.mesh.specs.declared.Refusal.{Refusal}
use Rattle.mesh.specs.declared.Refusal.TheVariants.{Room}
use Rattle.polygons.specs.Flat.{FlatLayer, polygons_of, layer_tests}
use Rattle.polygons.proofs.FlatLaws.{LayerTested, layer_tested}
use Rattle.nesting.specs.Nesting.{NestTables, nest_room_for, no_nest_room, nested, tell_nesting, FindsNesting}
use Rattle.nesting.specs.NestingLaws.{nest_room_parts}

-- ---- `nest_room_for`

module _ (contours depths parents : ℕ) where
  pub depths_short : depths < contours → leb contours depths ≡ nest_room_for contours depths parents
  unfolding nest_room_for
  depths_short h = let short = lt-leb contours depths h in short ∙ sym (ap (λ (b : Bool). b && leb contours parents) short)

  pub depths_enough : contours ≤ depths → leb contours parents ≡ nest_room_for contours depths parents
  unfolding nest_room_for
  depths_enough h = sym (ap (λ (b : Bool). b && leb contours parents) (le-leb contours depths h))

-- ---- `nesting`

-- the last of its tests
abbrev room : FlatLayer → NestTables → Condition Told
room t u = no_nest_room (length t.ends) (length u.depths) (length u.parents)

-- what the layer's tests found
module _ {t : FlatLayer} {u : NestTables} {f : Finding Told} (e : f ≡ verdict (layer_tests t)) where
  pub layer_refused : {r : Refusal} {result : Result Unit Refusal} → f ≡ refuses (told_of r) → result ≡ Err r → FindsNesting t u result u
  unfolding unless_refused
  layer_refused h is = does_refuse (join_stop (layer_tests t) (room t u ∷ []) e h) h (ap tell_nesting is) refl

  -- nothing; and whether there is room
  module _ {b : Bool} (h : f ≡ fine) (told : b ≡ nest_room_for (length t.ends) (length u.depths) (length u.parents)) where
    pub tables_short : b ≡ false → FindsNesting t u (Err (Room 0)) u
    unfolding unless_refused
    tables_short s =
        let v = join_next (layer_tests t) (room t u ∷ []) e h (whole_refused (refusal 9) _ (ap not (sym told ∙ s)) ∙ verdict_one (room t u)) in
        does_refuse v refl refl refl

    pub layer_nested : {u' : NestTables} → b ≡ true → u' ≡ nested (polygons_of t) u → FindsNesting t u (Ok tt) u'
    unfolding unless_refused
    layer_nested s l =
        let v = join_next (layer_tests t) (room t u ∷ []) e h (whole_fine (refusal 9) _ (ap not (sym told ∙ s)) ∙ verdict_one (room t u)) in
        does_give v refl refl l

-- the tables then are as `nest` asks
pub tables_there : {t : FlatLayer} (depths parents : ℕ) {f : Finding Told} {b : Bool} → f ≡ verdict (layer_tests t) → f ≡ fine
    → b ≡ nest_room_for (length t.ends) depths parents → b ≡ true → LayerTested t × (length t.ends ≤ depths) × (length t.ends ≤ parents)
tables_there {t} depths parents e h told s =
    let p = nest_room_parts (length t.ends) depths parents (sym told ∙ s) in
    (layer_tested t (sym e ∙ h), p.0, p.1)

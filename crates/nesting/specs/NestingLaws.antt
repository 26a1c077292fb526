-- What Nesting promises: it refuses exactly if a listed condition holds, at its place; its outcome is the only one; a refusal writes nothing;
-- else the first entries of the two tables are depth and parent of each contour. Of these: a parent is one of the contours that are counted,
-- the smallest, the lower number at a tie; there is none exactly at depth 0; a contour that no other holds has depth 0 and no parent.
use Rattle.std.specs.Prelude.{ℕ, ◌≤◌, ◌<◌, ◌≡◌, refl, true, ◌↔◌, leb, length, get_or, Result, Ok, Err}
use Rattle.std.proofs.Common.{ap, ◌∙◌, subst, arith, leb-true}
use Rattle.std.proofs.lemmas.Bool.{not-false}
use Rattle.laws.specs.Booleans.{and_parts}
use Rattle.laws.specs.TableLaws.{length_refill, refill_at, refill_past}
use Rattle.mesh.specs.Operation.{gives, refuses, unless_refused}
use Rattle.mesh.specs.OperationLaws.{First, None, more, done, Recovers, refused_exactly, given_exactly}
use Rattle.mesh.specs.OperationLaws.{left_given, left_refused, only_outcome}
use Rattle.mesh.specs.Refusals.{Told}
use Rattle.mesh.specs.RefusalLaws.{refusal_of, refusal_once}
use Rattle.mesh.specs.declared.Refusal.{Refusal}
use Rattle.polygons.specs.Flat.{FlatLayer, polygons_of}
use Rattle.polygons.proofs.FlatLaws.{LayerTested, none_tested}
use Rattle.nesting.specs.Nests.{depth_of, no_parent, parent_of}
use Rattle.nesting.specs.Nesting.{NestTables, nest_room_for, nesting_tests, nested, tell_nesting, FindsNesting}
use Rattle.nesting.specs.NestsLaws.{ParentAmong, UnheldTo, depth_few, parent_smallest, none_exactly, unheld_none}
use Rattle.nesting.specs.HolderLaws.{length_polygons, few_numbers}

-- ---- of a layer that is not refused

module _ {t : FlatLayer} (l : LayerTested t) (i : ℕ) where
  -- a parent is one of the contours that are counted, the smallest of them, the lower number at a tie
  pub parent_counted : (parent_of (polygons_of t) i ≡ no_parent → ⊥) → ParentAmong (polygons_of t) i (length t.ends) (parent_of (polygons_of t) i)
  parent_counted h =
      subst (λ (n : ℕ). ParentAmong (polygons_of t) i n (parent_of (polygons_of t) i)) (length_polygons l) (parent_smallest (polygons_of t) i (few_numbers l) h)

  -- there is none exactly at depth 0
  pub depth_none : (depth_of (polygons_of t) i ≡ 0) ↔ (parent_of (polygons_of t) i ≡ no_parent)
  depth_none = none_exactly (polygons_of t) i (few_numbers l)

  -- a contour that no other holds has depth 0 and no parent
  pub unheld_alone : UnheldTo (polygons_of t) i (length t.ends) → (depth_of (polygons_of t) i ≡ 0) × (parent_of (polygons_of t) i ≡ no_parent)
  unheld_alone u = unheld_none (polygons_of t) i (few_numbers l) (λ k h. u k (omega (arith, length_polygons l)))

  -- a depth is below the number of contours
  pub depth_below : i < length t.ends → depth_of (polygons_of t) i < length t.ends
  depth_below h = omega (arith, length_polygons l, depth_few (polygons_of t) i (omega (arith, length_polygons l)))

-- ---- the answer's cases, from what they tell

pub nesting_recovers : Recovers tell_nesting
nesting_recovers = record {
  back = elim [ gives _ ↦ Ok tt | refuses r ↦ Err (refusal_of r) ];
  once = elim [ Ok _ ↦ refl | Err r ↦ ap Err (refusal_once r) ];
}

-- ---- what is not refused

-- the layer and its tables, as `nest` asks
pub record NestTested (t : FlatLayer) (u : NestTables) : Type 0 where
  pub layer : LayerTested t
  pub depths_room : length t.ends ≤ length u.depths
  pub parents_room : length t.ends ≤ length u.parents

pub nest_room_parts : (contours depths parents : ℕ) → nest_room_for contours depths parents ≡ true → (contours ≤ depths) × (contours ≤ parents)
unfolding nest_room_for
nest_room_parts contours depths parents e =
    let p = and_parts (leb contours depths) (leb contours parents) e in
    (leb-true contours depths p.0, leb-true contours parents p.1)

pub none_nested : {t : FlatLayer} {u : NestTables} → None (nesting_tests t u) → NestTested t u
none_nested {t} {u} (more a (more b (more c done))) =
    let room = nest_room_parts (length t.ends) (length u.depths) (length u.parents) (not-false _ (c 0 (omega arith))) in
    record { layer = none_tested t a b; depths_room = room.0; parents_room = room.1 }

-- ---- Nesting

module _ {t : FlatLayer} {u : NestTables} {result : Result Unit Refusal} {u' : NestTables} (d : FindsNesting t u result u') where
  -- refused exactly if a listed condition holds, the first that fits; answered exactly if none does; and one outcome only
  pub nesting_refused : (r : Told) → (tell_nesting result ≡ refuses r) ↔ First (nesting_tests t u) r
  nesting_refused = refused_exactly d

  pub nesting_given : (tell_nesting result ≡ gives tt) ↔ None (nesting_tests t u)
  nesting_given = given_exactly d

  pub nesting_only : {other : Result Unit Refusal} {w : NestTables} → FindsNesting t u other w → (result ≡ other) × (u' ≡ w)
  nesting_only = only_outcome nesting_recovers d

  -- a refusal writes nothing (NEST-11)
  pub nesting_stays : {r : Told} → tell_nesting result ≡ refuses r → u' ≡ u
  unfolding unless_refused
  nesting_stays e = left_refused d e

  -- else the tables hold depth and parent of each contour (NEST-8)
  module _ (e : tell_nesting result ≡ gives tt) where
    pub nesting_fills : u' ≡ nested (polygons_of t) u
    unfolding unless_refused
    nesting_fills = left_given d e

    pub nesting_tested : NestTested t u
    nesting_tested = none_nested (nesting_given.0 e)

    -- entry by entry
    module _ (i : ℕ) where
      pub nesting_entries : i < length t.ends → (get_or u'.depths i 0 ≡ depth_of (polygons_of t) i) × (get_or u'.parents i 0 ≡ parent_of (polygons_of t) i)
      nesting_entries h =
          let n = length (polygons_of t) in
          let below : i < n = omega (arith, length_polygons nesting_tested.layer) in (
            ap (λ (v : NestTables). get_or v.depths i 0) nesting_fills ∙ refill_at n (depth_of (polygons_of t)) u.depths i 0 below,
            ap (λ (v : NestTables). get_or v.parents i 0) nesting_fills ∙ refill_at n (parent_of (polygons_of t)) u.parents i 0 below,
          )

      pub nesting_later : length t.ends ≤ i → (get_or u'.depths i 0 ≡ get_or u.depths i 0) × (get_or u'.parents i 0 ≡ get_or u.parents i 0)
      nesting_later h =
          let n = length (polygons_of t) in
          let past : n ≤ i = omega (arith, length_polygons nesting_tested.layer) in (
            ap (λ (v : NestTables). get_or v.depths i 0) nesting_fills ∙ refill_past n (depth_of (polygons_of t)) u.depths i 0 past,
            ap (λ (v : NestTables). get_or v.parents i 0) nesting_fills ∙ refill_past n (parent_of (polygons_of t)) u.parents i 0 past,
          )

    pub nesting_lengths : (length u'.depths ≡ length u.depths) × (length u'.parents ≡ length u.parents)
    nesting_lengths =
        let n = length (polygons_of t) in
        let few = length_polygons nesting_tested.layer in (
          ap (λ (v : NestTables). length v.depths) nesting_fills
              ∙ length_refill n (depth_of (polygons_of t)) u.depths (omega (arith, few, nesting_tested.depths_room)),
          ap (λ (v : NestTables). length v.parents) nesting_fills
              ∙ length_refill n (parent_of (polygons_of t)) u.parents (omega (arith, few, nesting_tested.parents_room)),
        )

-- Check put together: what its first tests establish, and its answer and tables at each return.
use Prim.Native.Nat.{ℕ, ◌≤◌, ◌<◌}
use mathlib.Core.Path.{◌≡◌, refl, sym, ap, ◌∙◌}
use mathlib.Core.Bool.{true, false}
use mathlib.Core.List.{List, [], ◌∷◌, ◌++◌}
use native.Mathlib.Omega.{arith}
use borrow.Author.Tests.{leb-true, not-false}
use lib.ListN.{length, get_or, replicate, length-replicate}
use lib.IntN.{pos, nat_abs}
use Rattle.laws.specs.Booleans.{and_parts}
use Rattle.laws.specs.Tables.{overwrite}
use Rattle.laws.specs.TableLaws.{length_overwrite, overwrite_is, overwrite_at, overwrite_past, refill_is}
use Rattle.mesh.specs.Corners.{largest, vertex_count}
use Rattle.mesh.specs.Meshes.{Mesh}
use Rattle.mesh.specs.Operation.{Condition, Finding, refuses, fine, verdict}
use Rattle.mesh.specs.OperationLaws.{None, done, more, fine_none, join_stop, join_next, refused_every, after_fine, after_kept, after_cleared, does_refuse}
use Rattle.mesh.specs.OperationLaws.{does_give}
use Rattle.mesh.specs.Order.{order_of}
use Rattle.mesh.specs.OrderTableLaws.{length_order}
use Rattle.mesh.specs.Refusals.{Told, numbered, told_of, tell_verdict}
use Rattle.mesh.specs.TestLaws.{sizes_parts, sizes_whole, in_range_lem, names_vertex, proper_edge}
use Rattle.mesh.specs.declared.Refusal.{Refusal}
use Rattle.std.specs.Prelude.{Result, Ok, Err}
use Rattle.check_mesh.specs.Check.{CheckTables, check_tables, check_room_for, check_tests, edge_tests, tell_check, Checks}
use Rattle.check_pairing.specs.Partners.{partner_of, pairing_of}
use Rattle.check_pairing.specs.Joining.{NamesVertices, Frame, PairingRoom, PairsFound}

-- ---- 9

module _ (n v a b : ℕ) where
  room_parts : check_room_for n v a b ≡ true → (n ≤ a) × (v ≤ b)
  unfolding check_room_for
  room_parts e = let p = and_parts _ _ e in (leb-true n a p.0, leb-true v b p.1)

-- only later entries of a table count where its first ones are overwritten
overwrite_frame : (n : ℕ) (vs t t' : List ℕ) → length vs ≡ n → n ≤ length t → Frame n t t' → overwrite vs t' ≡ overwrite vs t
overwrite_frame n vs t t' e h f =
    overwrite_is 0 vs t (overwrite vs t') (length_overwrite vs t' (omega (arith, f.len)) ∙ f.len) (omega arith)
    (λ i l. overwrite_at vs t' i 0 l) (λ i l. overwrite_past vs t' i 0 l ∙ f.later i (omega arith))

-- ---- what the first tests establish

pub record Passed (m : Mesh) (t : CheckTables) : Type 0 where
  pub named : NamesVertices m.corners (vertex_count m.coords)
  pub long : PairingRoom m.corners (vertex_count m.coords) t.pairing t.order
  pub range_of : (i : ℕ) → i < length m.coords → nat_abs (get_or m.coords i (pos 0)) ≤ largest

module _ (m : Mesh) (t : CheckTables) where
  abbrev n : ℕ
  n = length m.corners

  abbrev k : ℕ
  k = vertex_count m.coords

  abbrev first : List (Condition Told)
  first = check_tests m (length t.pairing) (length t.order)

  -- they found f
  module _ {f : Finding Told} (e : f ≡ verdict (check_tests m (length t.pairing) (length t.order))) where
    pub passed : f ≡ fine → Passed m t
    passed h = go (fine_none first (sym e ∙ h))
      where
        go : None first → Passed m t
        go (more a (more b (more c (more d (more s done))))) =
            let w = not-false _ (a 0 (omega arith)) in
            let r = room_parts _ _ _ _ (not-false _ (b 0 (omega arith))) in
            let z = sizes_parts _ _ w in
            record {
              named = record {
                whole = sizes_whole _ _ w;
                vertex = λ i l. names_vertex _ m.corners i (d i l);
                proper = proper_edge m.corners z.1 s;
                few = z.2;
              };
              long = record { links_long = r.0; heads_long = r.1 };
              range_of = λ i l. in_range_lem m.coords i (c i l);
            }

    -- a refusal
    pub checks_refused : {r : Refusal} {result : Result Unit Refusal} → result ≡ Err r → f ≡ refuses (told_of r) → Checks m t result t
    checks_refused {r} raised h =
        does_refuse (join_stop first (edge_tests m.corners) e h) h (ap tell_check raised)
        (λ i. check_tables
        (after_kept (numbered (6 ∷ [])) (pairing_of m.corners) n 0 t.pairing (told_of r) other i)
        (after_kept (numbered (6 ∷ [])) (order_of m.coords) k 0 t.order (told_of r) other i))
      where
        other : numbered (6 ∷ []) (told_of r) ≡ false
        other =
            refused_every (λ q. numbered (6 ∷ []) q ≡ false) first (told_of r)
            ((λ i. refl), ((λ i. refl), ((λ i. refl), ((λ i. refl), ((λ i. refl), tt))))) (sym e ∙ h)

    -- nothing, and pairs were sought
    module _ (h : f ≡ fine) {w : Result Unit Refusal} {t₁ : CheckTables}
        (p : PairsFound m.corners (vertex_count m.coords) t.pairing t.order t₁.pairing t₁.order w) where
      long : PairingRoom m.corners (vertex_count m.coords) t.pairing t.order
      long = (passed h).long

      decides : tell_verdict w ≡ verdict (check_tests m (length t.pairing) (length t.order) ++ edge_tests m.corners)
      decides = join_next first (edge_tests m.corners) e h p.is

      pub checks_cleared : {r : Refusal} {t₂ : CheckTables} → tell_verdict w ≡ refuses (told_of r)
          → t₂.pairing ≡ overwrite (replicate (length m.corners) 0) t₁.pairing
          → t₂.order ≡ overwrite (replicate (vertex_count m.coords) 0) t₁.order → Checks m t (Err r) t₂
      checks_cleared {r} g a b =
          does_refuse decides g refl
          (λ i. check_tables
          ((a ∙ overwrite_frame n (replicate n 0) t.pairing t₁.pairing (length-replicate n 0) long.links_long p.pairing_frame
          ∙ after_cleared (numbered (6 ∷ [])) (pairing_of m.corners) n 0 t.pairing (told_of r) edge) i)
          ((b ∙ overwrite_frame k (replicate k 0) t.order t₁.order (length-replicate k 0) long.heads_long p.order_frame
          ∙ after_cleared (numbered (6 ∷ [])) (order_of m.coords) k 0 t.order (told_of r) edge) i))
        where
          edge : numbered (6 ∷ []) (told_of r) ≡ true
          edge = refused_every (λ q. numbered (6 ∷ []) q ≡ true) (edge_tests m.corners) (told_of r) ((λ i. refl), tt) (sym p.is ∙ g)

      pub checks_accepted : {order₂ : List ℕ} → tell_verdict w ≡ fine → order₂ ≡ overwrite (order_of m.coords) t₁.order
          → Checks m t (Ok tt) (check_tables t₁.pairing order₂)
      unfolding pairing_of
      checks_accepted g b =
          does_give decides g refl
          (λ i. check_tables
          ((refill_is 0 n (partner_of m.corners) t.pairing t₁.pairing p.pairing_frame.len long.links_long (p.partners g)
          p.pairing_frame.later
          ∙ after_fine (numbered (6 ∷ [])) (pairing_of m.corners) n 0 t.pairing) i)
          ((b ∙ overwrite_frame k (order_of m.coords) t.order t₁.order (length_order m.coords) long.heads_long p.order_frame
          ∙ after_fine (numbered (6 ∷ [])) (order_of m.coords) k 0 t.order) i))

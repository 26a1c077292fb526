-- What Check promises: it refuses exactly if a listed condition holds, at the least place; it accepts exactly if the earlier tests pass and each edge is used
-- equally often both ways; and an accepted mesh has a pairing that refusal 7 never meets, the only one where no edge is shared, and an order that refusal 8
-- never meets.
use Rattle.std.specs.Prelude.{ℕ, ◌≤◌, ◌<◌, ◌≡◌, refl, true, not, ◌↔◌, ℤ, Result, Ok, Err}
use Rattle.std.proofs.Math.Path.{sym, ap}
use Rattle.std.proofs.Common.{◌∙◌, arith}
use mathlib.Core.List.{List, [], ◌∷◌, ◌++◌}
use Rattle.std.proofs.Math.ListN.{length, get_or}
use borrow.Author.Tests.{leb-true, lt-ltb, eq-eqb, not-false}
use Rattle.laws.specs.Booleans.{and_parts, and_of}
use Rattle.laws.specs.Tables.{overwrite}
use Rattle.laws.specs.TableLaws.{length_tabulate, length_overwrite, overwrite_at, get_d_tabulate}
use Rattle.mesh.specs.Corners.{vertex_count}
use Rattle.mesh.specs.Order.{order_of}
use Rattle.mesh.specs.OrderTableLaws.{length_order}
use Rattle.mesh.specs.Meshes.{Mesh}
use Rattle.mesh.specs.Operation.{gives, refuses, Condition, Finding, fine, test, ◌then◌, verdict, after}
use Rattle.mesh.specs.OperationLaws.{First, None, more, done, nowhere_fine, Recovers, refused_exactly, given_exactly, left_given}
use Rattle.mesh.specs.OperationLaws.{only_outcome}
use Rattle.mesh.specs.Refusals.{Told}
use Rattle.mesh.specs.RefusalLaws.{refusal_of, refusal_once}
use Rattle.mesh.specs.Tests.{pairs, ordered_at, orders}
use Rattle.mesh.specs.declared.Refusal.{Refusal}
use Rattle.check_mesh.specs.Check.{CheckTables, check_room_for, check_tests, checking, tell_check, Checks}
use Rattle.check_pairing.specs.Partners.{partner_of, pairing_of}
use Rattle.check_pairing.specs.EdgeUse.{EvenEdges, SingleEdges, open_by_edges}
use Rattle.check_pairing.proofs.PartnerLaws.{closed_exactly, pairing_right, open_single, pairing_only}

-- a table that starts with the order is right
pub order_right : (coords : List ℤ) (table : List ℕ) → vertex_count coords ≤ length table
    → ((i : ℕ) → i < vertex_count coords → get_or table i 0 ≡ get_or (order_of coords) i 0)
    → fine ≡ test (orders coords table)
order_right coords table long are = nowhere_fine (orders coords table) (λ i l. ap not (right i l))
  where
    right : (i : ℕ) → i < vertex_count coords → ordered_at coords table i ≡ true
    right i l = unfold ordered_at in (and_of (lt-ltb i (length table) (omega arith)) (eq-eqb _ _ (are i l)))

-- lists of refusals that differ in the last, which finds the same
last_same : (ks : List (Condition Told)) (a b : Condition Told) → test a ≡ test b → verdict (ks ++ (a ∷ [])) ≡ verdict (ks ++ (b ∷ []))
unfolding verdict
last_same [] a b e = ap (λ (f : Finding Told). f then fine) e
last_same (k ∷ ks) a b e = ap (λ (f : Finding Told). test k then f) (last_same ks a b e)

-- ---- Check

pub check_recovers : Recovers tell_check
check_recovers = record {
  back = elim [ gives _ ↦ Ok tt | refuses r ↦ Err (refusal_of r) ];
  once = elim [ Ok _ ↦ refl | Err r ↦ ap Err (refusal_once r) ];
}

module _ {m : Mesh} {t t' : CheckTables} {result : Result Unit Refusal} (c : Checks m t result t') where
  -- refused exactly if a listed condition holds, the first that fits, at the least place; accepted exactly if none does; and one outcome only
  pub check_refused : (r : Told) → (tell_check result ≡ refuses r) ↔ First (checking (m, t)).refusals r
  check_refused = refused_exactly c

  pub check_given : (tell_check result ≡ gives tt) ↔ None (checking (m, t)).refusals
  check_given = given_exactly c

  pub check_only : {other : Result Unit Refusal} {u' : CheckTables} → Checks m t other u' → (result ≡ other) × (t' ≡ u')
  check_only = only_outcome check_recovers c

  -- accepted exactly if 1, 9, 2, 3 and 4 do not fit and each edge is used equally often both ways (CHECK-17)
  pub check_even : (tell_check result ≡ gives tt) ↔ (None (check_tests m (length t.pairing) (length t.order)) × EvenEdges m.corners)
  check_even =
      (λ e. parts (check_given.0 e), λ (first, even). check_given.1 (both first even))
    where
      parts : None (checking (m, t)).refusals → None (check_tests m (length t.pairing) (length t.order)) × EvenEdges m.corners
      parts (more s (more r (more x (more y (more z (more o done)))))) =
          (more s (more r (more x (more y (more z done)))), (closed_exactly m.corners).0 o)

      both : None (check_tests m (length t.pairing) (length t.order)) → EvenEdges m.corners → None (checking (m, t)).refusals
      both (more s (more r (more x (more y (more z done))))) even =
          more s (more r (more x (more y (more z (more ((closed_exactly m.corners).1 even) done)))))

  -- where no two corners have the same directed edge it answers as by edges alone (CHECK-18)
  pub check_single : SingleEdges m.corners
      → tell_check result ≡ (verdict (check_tests m (length t.pairing) (length t.order) ++ (open_by_edges m.corners ∷ [])) then gives tt)
  check_single single =
      c.answers
      ∙ ap (λ (f : Finding Told). f then gives tt) (last_same (check_tests m (length t.pairing) (length t.order)) _ _ (open_single m.corners single))

  -- the promise that the cutting parts rest on (CHECK-14, FORM-4)
  pub record CheckPromise : Type 0 where
    pub pairing_fine : fine ≡ test (pairs m.corners t'.pairing)
    pub pairing_one : SingleEdges m.corners → (table : List ℕ) → test (pairs m.corners table) ≡ fine
        → (k : ℕ) → k < length m.corners → get_or table k 0 ≡ get_or t'.pairing k 0
    pub order_fine : fine ≡ test (orders m.coords t'.order)

  pub check_promise : tell_check result ≡ gives tt → CheckPromise
  unfolding after
  check_promise e = go (check_given.0 e)
    where
      filled : t'.pairing ≡ overwrite (pairing_of m.corners) t.pairing
      filled = ap (λ (u : CheckTables). u.pairing) (left_given c e)

      listed : t'.order ≡ overwrite (order_of m.coords) t.order
      listed = ap (λ (u : CheckTables). u.order) (left_given c e)

      room_parts : check_room_for (length m.corners) (vertex_count m.coords) (length t.pairing) (length t.order) ≡ true
          → (length m.corners ≤ length t.pairing) × (vertex_count m.coords ≤ length t.order)
      room_parts h = unfold check_room_for in (let p = and_parts _ _ h in (leb-true _ _ p.0, leb-true _ _ p.1))

      go : None (checking (m, t)).refusals → CheckPromise
      go (more s (more r (more x (more y (more z (more o done)))))) =
          let q = room_parts (not-false _ (r 0 (omega arith))) in
          let lp : length (pairing_of m.corners) ≡ length m.corners = unfold pairing_of in (length_tabulate (length m.corners) (partner_of m.corners))
          in
          let lo : length (order_of m.coords) ≡ vertex_count m.coords = length_order m.coords in
          let long : length m.corners ≤ length t'.pairing = omega
          (arith, ap length filled, length_overwrite (pairing_of m.corners) t.pairing (omega arith)) in
          let long' : vertex_count m.coords ≤ length t'.order = omega
          (arith, ap length listed, length_overwrite (order_of m.coords) t.order (omega arith)) in
          let at : (k : ℕ) → k < length m.corners → get_or t'.pairing k 0 ≡ partner_of m.corners k =
          λ k l. ap (λ (u : List ℕ). get_or u k 0) filled ∙ overwrite_at (pairing_of m.corners) t.pairing k 0 (omega arith)
          ∙ (unfold pairing_of in (get_d_tabulate (length m.corners) (partner_of m.corners) k 0 l)) in
          record {
            pairing_fine = pairing_right m.corners o t'.pairing long at;
            pairing_one = λ single u f k l. pairing_only m.corners single u f k l ∙ sym (at k l);
            order_fine =
                order_right m.coords t'.order long'
                (λ i l. ap (λ (u : List ℕ). get_or u i 0) listed ∙ overwrite_at (order_of m.coords) t.order i 0 (omega arith));
          }

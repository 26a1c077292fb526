-- An unrefused Layer at h ends at the number of vertices with z < h (LAYER-1), and gives what Cut gives at h (LAYER-2).
use Rattle.std.specs.Prelude.{ℕ, ◌≤◌, ◌≡◌, refl, length, ℤ, Result, Ok}
use Rattle.std.proofs.Common.{sym, ◌∙◌, arith}
use Rattle.std.proofs.Math.Path.{subst}
use mathlib.Core.List.{List, [], ◌∷◌}
use Rattle.mesh.specs.Corners.{vertex_count}
use Rattle.mesh.specs.Operation.{gives, refuses, fine, verdict}
use Rattle.mesh.specs.OperationLaws.{Nowhere, None, more, done, none_fine, fine_none, join_fine, does_give, given_verdict, left_given, left_refused}
use Rattle.mesh.specs.Refusals.{Told}
use Rattle.mesh.specs.declared.Refusal.{Refusal}
use Rattle.section.specs.Section.{below}
use Rattle.section.specs.Contours.{Traced}
use Rattle.section.proofs.LinkLaws.{table_trace}
use Rattle.cut.specs.Cut.{CutTables, lengths_of, used, section, contours_of, counts_of, tables_after_cut, cutting, tell_cut, Cuts}
use Rattle.polygons.specs.declared.LayerCounts.{LayerCounts}
use Rattle.sweep.specs.declared.Risen.{Risen}
use Rattle.sweep.specs.Sweep.{Sweep, sweep, mesh_of, sweep_pairing, passed_at, RingAt, count_below}
use Rattle.sweep.specs.SweepLaws.{entry_same, count_few, passed_below, passed_count, risen_to_lem, risen_right}
use Rattle.sweep.specs.Operations.{unless_refused, risen_passed, risen_table, risen_section, rise_tests, layering, tell_layer, Rises}
use Rattle.sweep.specs.Places.{RiseTested}
use Rattle.sweep.proofs.AnswerLaws.{rise_passed}

-- ---- what a tested rise comes to

module _ (s : Sweep) (h : ℤ) (r : RiseTested s h) where
  -- no more are passed than are below h
  pub rise_from : s.passed ≤ count_below (mesh_of s).coords h
  rise_from = passed_count (mesh_of s).coords s.ordered.order r.placed.ranked h s.passed r.placed.few r.low

  few : count_below (mesh_of s).coords h ≤ vertex_count (mesh_of s).coords
  few = count_few (mesh_of s).coords s.ordered.order r.placed.ranked h

  pub rise_to : risen_passed s h ≡ count_below (mesh_of s).coords h
  rise_to =
      risen_to_lem (mesh_of s).coords s.ordered.order r.placed.ranked h (vertex_count (mesh_of s).coords) s.passed rise_from (omega (arith, few))

  -- the ring table is the one of that count
  pub rise_table : RingAt (sweep s.ordered (risen_table s h) (count_below (mesh_of s).coords h))
  rise_table =
      risen_right s.ordered r.placed.ranked h r.placed.right.linked (vertex_count (mesh_of s).coords) s.passed s.ring r.table rise_from
      (omega (arith, few))

  -- and has the contours of the section at h
  pub rise_section : section s.ordered.paired h ≡ risen_section s h
  rise_section =
      let coords = (mesh_of s).coords in
      let corners = (mesh_of s).corners in
      let order = s.ordered.order in
      table_trace (below coords h) corners (sweep_pairing s) r.placed.right.linked (risen_table s h)
      (λ c l. rise_table.entries c l
      ∙ entry_same (passed_at order (count_below coords h)) (below coords h) coords corners (sweep_pairing s) r.placed.right.named r.placed.right.linked
      (passed_below coords order r.placed.ranked h) c l)

-- ---- Layer against Cut

-- what Layer does not refuse, Cut does not
rise_cut_fine : (s : Sweep) (h : ℤ) (t : CutTables) → section s.ordered.paired h ≡ risen_section s h
    → verdict (layering (s, h, t)).refusals ≡ fine → verdict (cutting (s.ordered.paired, h, t)).refusals ≡ fine
rise_cut_fine s h t same e = none_fine (cutting (s.ordered.paired, h, t)).refusals (go (fine_none (layering (s, h, t)).refusals e))
  where
    go : None (layering (s, h, t)).refusals → None (cutting (s.ordered.paired, h, t)).refusals
    go (more z (more u (more r (more v (more w (more p (more o (more m (more q (more a (more x done))))))))))) =
        let last = subst (λ (y : Traced). Nowhere (used (length (mesh_of s).corners) y)) (sym same) x in
        more z (more u (more r (more v (more w (more p (more last done))))))

module _ {s : Sweep} {h : ℤ} {t t' : CutTables} {result : Result Risen Refusal} {ring' : List ℕ} (ok : Rises s h t result ring' t') where
  -- a Layer that gave n passed, j contours and k points
  module _ {n j k : ℕ} (e : tell_layer result ≡ gives (n, (j, k))) where
    answered : (verdict (layering (s, h, t)).refusals ≡ fine) × ((n, (j, k)) ≡ (layering (s, h, t)).values)
    answered = given_verdict ok e

    left : (ring', t') ≡ (layering (s, h, t)).leaves fine
    left = left_given ok e

    pub rise_tests_lem : RiseTested s h
    rise_tests_lem =
        (rise_passed s h (lengths_of t) (join_fine (rise_tests s h (lengths_of t)) (used (length (mesh_of s).corners) (risen_section s h) ∷ []) answered.0)).0

    -- the count that it gives
    pub rise_state : n ≡ count_below (mesh_of s).coords h
    rise_state = (λ i. (answered.1 i).0) ∙ rise_to s h rise_tests_lem

    -- the ring table that it leaves
    pub rise_ring : RingAt (sweep s.ordered ring' (count_below (mesh_of s).coords h))
    unfolding unless_refused
    rise_ring =
        subst (λ (r : List ℕ). RingAt (sweep s.ordered r (count_below (mesh_of s).coords h))) (sym (λ i. (left i).0)) (rise_table s h rise_tests_lem)

    -- Cut, for the same mesh, pairing, height and tables, gives the same counts and leaves the same four tables
    pub rise_is_cut : (answer : Result LayerCounts Refusal) × (tell_cut answer ≡ gives (j, k)) × Cuts s.ordered.paired h t answer t'
    rise_is_cut =
        let same = rise_section s h rise_tests_lem in (
          Ok (record { contours = j; points = k }),
          refl,
          does_give refl (rise_cut_fine s h t same answered.0)
              ((λ i. gives (answered.1 i).1) ∙ (λ i. gives (counts_of (contours_of (sym same i)))))
              ((λ i. (left i).1) ∙ (λ i. tables_after_cut (mesh_of s) h (contours_of (sym same i)) t fine)),
        )

  -- a refused Layer leaves the ring table
  pub unrisen_ring : {r : Told} → tell_layer result ≡ refuses r → ring' ≡ s.ring
  unfolding unless_refused
  unrisen_ring e = λ i. (left_refused ok e i).0

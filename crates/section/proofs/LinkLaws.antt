-- A table whose entries are as the ring table's gives the same contours as the definition of crossing and successor.
use Prim.Native.Nat.{ℕ, zero, suc, ◌≤◌, ◌<◌}
use Rattle.std.specs.Prelude.{◌≡◌, Bool, ◌&&◌, List, [], ◌∷◌, eqb, length, get_or}
use Rattle.std.proofs.Math.Path.{refl, ap}
use Rattle.std.proofs.Common.{sym, ◌∙◌, subst, arith, eq-eqb, ne_eqb}
use Rattle.std.proofs.Math.Bool.{true, false, not, cond}
use Rattle.laws.specs.Booleans.{and_parts}
use Rattle.section.specs.Section.{VertexSet, rising, successor, no_corner, ring_entry, Among, Linked}
use Rattle.section.proofs.SectionLaws.{successor_crosses}
use Rattle.section.specs.Contours.{member, closed, met, onward, walk, Traced, contours, stuck, names_of, more, trace_at, trace_to, trace}
use Rattle.section.specs.Rings.{Leads}
use Rattle.section.specs.Links.{has_link, link_of, trace_links}
use Rattle.section.proofs.LayerLaws.{leads_on}

-- ---- two ways of going on that agree on the rising corners

module _ (rises : ℕ → Bool) (next : ℕ → ℕ) (n : ℕ) (leads : Leads rises next n) (rises' : ℕ → Bool) (next' : ℕ → ℕ)
    (same-rise : (c : ℕ) → c < n → rises c ≡ rises' c) (same_next : (c : ℕ) → Among n rises c → next c ≡ next' c) where
  walk_agrees : (start m c : ℕ) (used : List ℕ) → Among n rises c → walk next start m c used ≡ walk next' start m c used
  unfolding walk
  walk_agrees start zero c used x = refl
  walk_agrees start (suc m) c used x =
      let e = same_next c x in
      let ih = walk_agrees start m (next c) (c ∷ used) (leads.into c x) in
      λ i. cond (eqb (e i) start) (closed (c ∷ []))
      (cond (member (e i) (c ∷ used)) (met (e i)) (onward c ((ih ∙ ap (λ (d : ℕ). walk next' start m d (c ∷ used)) e) i)))

  trace_agrees : (c : ℕ) → c ≤ n → trace_to rises next n c ≡ trace_to rises' next' n c
  unfolding trace_to
  trace_agrees zero h = refl
  trace_agrees (suc c) h = ap (trace_at rises next n c) (trace_agrees c (omega arith)) ∙ at (trace_to rises' next' n c)
    where
      at : (t : Traced) → trace_at rises next n c t ≡ trace_at rises' next' n c t
      at (stuck p) = unfold trace_at in refl
      at (contours rs) = by (rises c && not (member c (names_of rs))) refl
        where
          test : {b : Bool} → (rises c && not (member c (names_of rs))) ≡ b → (rises' c && not (member c (names_of rs))) ≡ b
          test e = ap (λ (r : Bool). r && not (member c (names_of rs))) (sym (same-rise c (omega arith))) ∙ e

          by : (b : Bool) → (rises c && not (member c (names_of rs))) ≡ b → trace_at rises next n c (contours rs) ≡ trace_at rises' next' n c (contours rs)
          by false e = let f = test e in unfold trace_at in (rw (e, trace_at) (rw (f, trace_at)))
          by true e =
              let f = test e in
              let p = and_parts (rises c) (not (member c (names_of rs))) e in
              let w = walk_agrees c n c (names_of rs) (record { below = omega arith; upward = p.0 }) in
              unfold trace_at in (rw (e, trace_at) (rw (f, trace_at) (ap (more rs) w)))

  pub same_trace : trace_to rises next n n ≡ trace_to rises' next' n n
  same_trace = trace_agrees n (omega arith)

  -- what agrees leads on as well
  pub same_leads : Leads rises' next' n
  same_leads =
      record {
        into = λ c x. let y = leads.into c (old c x) in subst (λ (d : ℕ). Among n rises' d) (same_next c (old c x)) (new (next c) y);
        apart = λ c d x y e. leads.apart c d (old c x) (old d y) (same_next c (old c x) ∙ e ∙ sym (same_next d (old d y)));
        moves = λ c x e. leads.moves c (old c x) (same_next c (old c x) ∙ e);
      }
    where
      old : (c : ℕ) → Among n rises' c → Among n rises c
      old c x = record { below = x.below; upward = same-rise c x.below ∙ x.upward }

      new : (c : ℕ) → Among n rises c → Among n rises' c
      new c x = record { below = x.below; upward = sym (same-rise c x.below) ∙ x.upward }

-- ---- the ring table

module _ (passed : VertexSet) (corners pairing : List ℕ) (linked : Linked corners pairing) (links : List ℕ)
    (are : (c : ℕ) → c < length corners → get_or links c 0 ≡ ring_entry passed corners pairing c) where
  rise_link : (c : ℕ) → Among (length corners) (rising passed corners) c → successor passed corners pairing c ≡ get_or links c 0
  rise_link c x = let u = x.upward in sym (are c x.below ∙ (unfold ring_entry in (simp u)))

  pub link_rises : (c : ℕ) → c < length corners → rising passed corners c ≡ has_link links c
  unfolding has_link
  link_rises c l = by (rising passed corners c) refl
    where
      by : (b : Bool) → rising passed corners c ≡ b → b ≡ not (eqb (get_or links c 0) no_corner)
      by true e =
          let x : Among (length corners) (rising passed corners) c = record { below = l; upward = e } in
          ap not (sym (ne_eqb (get_or links c 0) no_corner
          (λ q. omega (arith, rise_link c x, (successor_crosses passed corners pairing linked c x).below, linked.whole.few))))
      by false e = ap not (sym (eq-eqb (get_or links c 0) no_corner (are c l ∙ (unfold ring_entry in (simp e)))))

  pub table_trace : trace passed corners pairing ≡ trace_links (length corners) links
  unfolding trace trace_links
  table_trace =
      same_trace (rising passed corners) (successor passed corners pairing) (length corners) (leads_on passed corners pairing linked) (has_link links)
      (link_of links) link_rises rise_link

  pub table_leads : Leads (has_link links) (link_of links) (length corners)
  table_leads =
      same_leads (rising passed corners) (successor passed corners pairing) (length corners) (leads_on passed corners pairing linked) (has_link links)
      (link_of links) link_rises rise_link

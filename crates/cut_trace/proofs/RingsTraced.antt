-- The pass over the corners: what the tables hold when corner c is reached, and after the last.
use Prim.Native.Nat.{ℕ, zero, suc, ◌+◌, ◌-◌, ◌≤◌, ◌<◌}
use mathlib.Core.Path.{◌≡◌, refl, sym, ap, ◌∙◌, subst}
use mathlib.Core.Bool.{Bool, true, false, not, ◌&&◌}
use mathlib.Core.List.{List, [], ◌∷◌, ◌++◌, flatten}
use native.Mathlib.Omega.{arith}
use native.Mathlib.Numerals.{add-one}
use native.Mathlib.Nat.{add-zero}
use borrow.Author.Tests.{eq-eqb, ne_eqb}
use lib.ListN.{length, get_or, set, drop, replicate, length-append, length-replicate}
use lib.Seq.{sets}
use Rattle.laws.specs.Booleans.{clash, is_false, and_parts}
use Rattle.laws.specs.Tables.{overwrite}
use Rattle.laws.specs.TableLaws.{length_snoc, overwrite_none, length_overwrite, overwrite_snoc, overwrite_more}
use Rattle.polygons.proofs.FlatLaws.{length_ends}
use Rattle.section.specs.Section.{no_corner, Among}
use Rattle.section.specs.Rings.{iterate, Ring, Leads}
use Rattle.section.specs.Contours.{member, Traced, contours, names_of as flat, trace_to, ends_from, ends_of}
use Rattle.section.specs.Links.{has_link, link_of, trace_links}
use Rattle.section.specs.OrbitLaws.{orbit, length_orbit, orbit_snoc}
use Rattle.section.proofs.LayerLaws.{names_snoc, ends_snoc, starts_at, Begun, begun_start, begun_skip, crosses, ring, ring_names}
use Rattle.section.proofs.LayerLaws.{fresh, begun_ring, ring_room_lem, begun_few}
use Rattle.cut_trace.specs.Traces.{trace_answer, zeroed, names_after, ends_after}
use Rattle.cut_trace.specs.Walks.{ring_of, strike, Walkable, Traceable, NoLinks, Sought}
use Rattle.std.specs.Prelude.{Result, Ok}
use Rattle.polygons.specs.declared.LayerCounts.{LayerCounts}
use Rattle.cut_trace.specs.declared.UsedCrossing.{UsedCrossing}
use Rattle.cut_trace.proofs.Strikes.{length_strike, strike_join, strike_other, strike_same, strike_behind}
use Rattle.cut_trace.proofs.RingWalking.{ring_is}

-- ---- two tables with the same links along a way

orbit_same : (f g : ℕ → ℕ) (m c : ℕ) → ((i : ℕ) → i < m → f (iterate g i c) ≡ g (iterate g i c))
    → (i : ℕ) → i ≤ m → iterate f i c ≡ iterate g i c
unfolding iterate
orbit_same f g m c h zero l = refl
orbit_same f g m c h (suc i) l = ap f (orbit_same f g m c h i (omega arith)) ∙ h i (omega arith)

orbit_equal : (f g : ℕ → ℕ) (m c : ℕ) → ((i : ℕ) → i ≤ m → iterate f i c ≡ iterate g i c) → orbit f m c ≡ orbit g m c
orbit_equal f g zero c h = unfold orbit in refl
orbit_equal f g (suc m) c h =
    orbit_snoc f m c ∙ (λ k. orbit_equal f g m c (λ i l. h i (omega arith)) k ++ (h m (omega arith) k ∷ [])) ∙ sym (orbit_snoc g m c)

-- ---- the pass

-- so many contours with so many names together
abbrev pub counted : ℕ → ℕ → Result LayerCounts UsedCrossing
counted j k = Ok (record { contours = j; points = k })

pub record RingsTraced (n : ℕ) (links₀ names₀ ends₀ links names ends : List ℕ) (c k j : ℕ) : Type 0 where
  pub given : Traceable n links₀ names₀ ends₀
  pub rings : List (List ℕ)
  pub begun : Begun (has_link links₀) (link_of links₀) n given.leads c rings
  pub upto : c ≤ n
  pub at_k : k ≡ length (flat rings)
  pub at_j : j ≡ length rings
  pub names_is : names ≡ overwrite (flat rings) names₀
  pub ends_is : ends ≡ overwrite (ends_of rings) ends₀
  pub links_is : links ≡ strike links₀ (flat rings)

pub tracing_start : {n : ℕ} {links names ends : List ℕ} → Traceable n links names ends → RingsTraced n links names ends links names ends 0 0 0
unfolding flatten
tracing_start {n} {links} {names} {ends} g =
    record {
      given = g;
      rings = [];
      begun = begun_start (has_link links) (link_of links) n g.leads;
      upto = omega arith;
      at_k = refl;
      at_j = refl;
      names_is = sym (overwrite_none names);
      ends_is = unfold ends_from in (sym (overwrite_none ends));
      links_is = refl;
    }

module _ {n : ℕ} {links₀ names₀ ends₀ links names ends : List ℕ} {c k j : ℕ} (w : RingsTraced n links₀ names₀ ends₀ links names ends c k j) where
  abbrev rises : ℕ → Bool
  rises = has_link links₀

  abbrev next : ℕ → ℕ
  next = link_of links₀

  abbrev leads : Leads (has_link links₀) (link_of links₀) n
  leads = w.given.leads

  k_few : k ≤ n
  k_few = omega (arith, w.at_k, begun_few rises next n leads c w.rings w.begun)

  pub names_length : length names ≡ length names₀
  names_length = ap length w.names_is ∙ length_overwrite (flat w.rings) names₀ (omega (arith, k_few, w.at_k, w.given.names_room))

  pub ends_length : length ends ≡ length ends₀
  ends_length =
      ap length w.ends_is
      ∙ length_overwrite (ends_of w.rings) ends₀ (omega (arith, length_ends 0 w.rings, w.begun.few, w.upto, w.given.ends_room))

  pub links_length : length links ≡ length links₀
  links_length = ap length w.links_is ∙ length_strike links₀ (flat w.rings)

  module _ (l : c < n) where
    pub j_inside : j < length ends
    j_inside = omega (arith, w.at_j, w.begun.few, ends_length, w.given.ends_room)

    link_here : get_or links c 0 ≡ get_or (strike links₀ (flat w.rings)) c 0
    link_here = ap (λ (t : List ℕ). get_or t c 0) w.links_is

    unlinked : member c (flat w.rings) ≡ false → get_or links c 0 ≡ no_corner → has_link links₀ c ≡ false
    unfolding has_link
    unlinked m e = ap not (eq-eqb (get_or links₀ c 0) no_corner (sym (strike_other (flat w.rings) links₀ c m) ∙ sym link_here ∙ e))

    -- no contour starts at c
    no_start : get_or links c 0 ≡ no_corner → starts_at rises next n leads w.rings c ≡ false
    no_start e = by (member c (flat w.rings)) refl
      where
        by : (b : Bool) → member c (flat w.rings) ≡ b → (has_link links₀ c && not b) ≡ false
        by true m = is_false _ (λ s. clash refl (sym (and_parts (has_link links₀ c) false s).1))
        by false m = simp (unlinked m e)

    pub tracing_skip : get_or links c 0 ≡ no_corner → RingsTraced n links₀ names₀ ends₀ links names ends (c + 1) k j
    tracing_skip e =
        record {
          given = w.given;
          rings = w.rings;
          begun = subst (λ (i : ℕ). Begun rises next n leads i w.rings) (sym (add-one c))
              (begun_skip rises next n leads c w.rings w.begun (no_start e));
          upto = omega arith;
          at_k = w.at_k;
          at_j = w.at_j;
          names_is = w.names_is;
          ends_is = w.ends_is;
          links_is = w.links_is;
        }

    -- a contour starts at c
    module _ (e : get_or links c 0 ≡ no_corner → ⊥) where
      unused : member c (flat w.rings) ≡ false
      unused = is_false _ (λ m. e (link_here ∙ strike_same (flat w.rings) links₀ c (omega (arith, w.given.links_room)) m))

      linked : get_or links₀ c 0 ≡ no_corner → ⊥
      linked q = e (link_here ∙ strike_other (flat w.rings) links₀ c unused ∙ q)

      here : Among n (has_link links₀) c
      here = record { below = l; upward = unfold has_link in (ap not (ne_eqb (get_or links₀ c 0) no_corner linked)) }

      abbrev r : Ring (link_of links₀) n c
      r = ring rises next n leads c w.rings w.begun here unused

      abbrev o : List ℕ
      o = ring_names rises next n leads c w.rings w.begun here unused

      free : (i : ℕ) → i < r.steps → member (iterate next i c) (flat w.rings) ≡ false
      free = fresh rises next n leads c w.rings w.begun here unused

      same_way : (i : ℕ) → i ≤ r.steps → iterate (link_of links) i c ≡ iterate next i c
      same_way =
          orbit_same (link_of links) next r.steps c
          (λ i h. ap (λ (t : List ℕ). get_or t (iterate next i c) 0) w.links_is
          ∙ strike_other (flat w.rings) links₀ (iterate next i c) (free i h))

      room : k + r.steps ≤ n
      room = omega (arith, w.at_k, ring_room_lem rises next n leads c w.rings w.begun here unused)

      inside : (i : ℕ) → i ≤ r.steps → iterate (link_of links) i c < n
      inside i h = omega (arith, same_way i h, (crosses rises next n leads c here i).below)

      pub walkable : Walkable links names c k
      walkable =
          record {
            back = record {
              steps = r.steps;
              some_step = r.some_step;
              few = omega (arith, r.few, links_length, w.given.links_room);
              returns = same_way r.steps (omega arith) ∙ r.returns;
              once = λ i m lo hi q. r.once i m lo hi (sym (same_way i (omega arith)) ∙ q ∙ same_way m (omega arith));
            };
            inside = λ i h. let z = inside i h in omega (arith, links_length, w.given.links_room);
            small = λ i h. let z = inside i h in omega (arith, w.given.few);
            room = omega (arith, room, names_length, w.given.names_room);
          }

      ring_same : ring_of links c ≡ o
      unfolding walkable
      ring_same = ring_is links c walkable.back ∙ orbit_equal (link_of links) next r.steps c same_way

      length_ring : length (ring_of links c) ≡ r.steps
      length_ring = ap length ring_same ∙ length_orbit next r.steps c

      pub end_few : k + length (ring_of links c) ≤ n
      end_few = omega (arith, room, length_ring)

      -- the pass after the walk of corner c
      pub tracing_ring : {links₁ names₁ : List ℕ} {k₁ : ℕ} → names₁ ≡ sets names k (ring_of links c)
          → links₁ ≡ strike links (ring_of links c) → k₁ ≡ k + length (ring_of links c)
          → RingsTraced n links₀ names₀ ends₀ links₁ names₁ (set ends j k₁) (c + 1) k₁ (j + 1)
      tracing_ring {links₁} {names₁} {k₁} en el ek =
          record {
            given = w.given;
            rings = w.rings ++ (o ∷ []);
            begun = subst (λ (i : ℕ). Begun rises next n leads i (w.rings ++ (o ∷ []))) (sym (add-one c))
                (begun_ring rises next n leads c w.rings w.begun here unused);
            upto = omega arith;
            at_k = omega (arith, len, ap length all, length-append (flat w.rings) o);
            at_j = omega (arith, w.at_j, length_snoc w.rings o);
            names_is = en
                ∙ (λ i. sets (w.names_is i) k (ring_same i))
                ∙ overwrite_more o (flat w.rings) names₀ k w.at_k (omega (arith, room, length_orbit next r.steps c, w.given.names_room))
                ∙ ap (λ (a : List ℕ). overwrite a names₀) (sym all);
            ends_is = (λ i. set (w.ends_is i) j (len i))
                ∙ overwrite_snoc (ends_of w.rings) ends₀ (0 + length (flat w.rings) + length o) j (w.at_j ∙ sym (length_ends 0 w.rings))
                (omega (arith, w.at_j, w.begun.few, w.given.ends_room))
                ∙ ap (λ (a : List ℕ). overwrite a ends₀) (sym (ends_snoc 0 w.rings o));
            links_is = el
                ∙ (λ i. strike (w.links_is i) (ring_same i))
                ∙ sym (strike_join links₀ (flat w.rings) o)
                ∙ ap (strike links₀) (sym all);
          }
        where
          all : flat (w.rings ++ (o ∷ [])) ≡ flat w.rings ++ o
          all = names_snoc w.rings o

          len : k₁ ≡ 0 + length (flat w.rings) + length o
          len = omega (arith, ek, ap length ring_same, w.at_k)

  -- after the last corner
  module _ (end : n ≤ c) where
    trace_is : trace_links n links₀ ≡ contours w.rings
    unfolding trace_links
    trace_is = let e : c ≡ n = omega (arith, w.upto) in subst (λ (i : ℕ). trace_to rises next n i ≡ contours w.rings) e w.begun.is

    found_is : counted j k ≡ trace_answer (trace_links n links₀)
    unfolding trace_answer
    found_is = (λ i. counted (w.at_j i) (w.at_k i)) ∙ ap trace_answer (sym trace_is)

    names_end : names ≡ names_after (trace_links n links₀) n names₀
    unfolding names_after
    names_end = w.names_is ∙ ap (λ (t : Traced). names_after t n names₀) (sym trace_is)

    ends_end : ends ≡ ends_after (trace_links n links₀) n ends₀
    unfolding ends_after
    ends_end = w.ends_is ∙ ap (λ (t : Traced). ends_after t n ends₀) (sym trace_is)

    links_end : zeroed n links ≡ zeroed n links₀
    unfolding overwrite
    links_end =
        let z : length {A = ℕ} (replicate n 0) ≡ n = length-replicate {A = ℕ} n 0 in
        ap (λ (s : List ℕ). replicate n 0 ++ s)
        (ap (λ (i : ℕ). drop i links) z
        ∙ ap (drop n) w.links_is
        ∙ strike_behind (flat w.rings) links₀ n (λ x y. (w.begun.only x y).below)
        ∙ ap (λ (i : ℕ). drop i links₀) (sym z))

    -- what the last corner leaves, once the links are zeroed
    pub traced : {t : List ℕ} → t ≡ zeroed n links
        → (counted j k ≡ trace_answer (trace_links n links₀))
        × ((names ≡ names_after (trace_links n links₀) n names₀) × ((ends ≡ ends_after (trace_links n links₀) n ends₀) × (t ≡ zeroed n links₀)))
    traced e = (found_is, (names_end, (ends_end, e ∙ links_end)))

-- the corners passed over
module _ (n : ℕ) (links₀ names₀ ends₀ links names ends : List ℕ) (k j : ℕ) where
  -- the pass stands at corner c
  abbrev Reached : ℕ → Type 0
  Reached c = RingsTraced n links₀ names₀ ends₀ links names ends c k j

  over : (m c : ℕ) → Reached c → NoLinks links c (c + m) → c + m ≤ n → Reached (c + m)
  over zero c w f l = subst Reached (sym (add-zero c)) w
  over (suc m) c w f l =
      let e : c + 1 + m ≡ c + suc m = omega arith in
      let here = tracing_skip w (omega arith) (f c (omega arith) (omega arith)) in
      subst Reached e (over m (c + 1) here (λ i a b. f i (omega arith) (omega arith)) (omega arith))

  over_to : (c d : ℕ) → Reached c → Sought n links c d → Reached d
  over_to c d w s =
      let e : c + (d - c) ≡ d = omega (arith, s.onward) in
      subst Reached e (over (d - c) c w (λ i l h. s.none i l (omega (arith, s.onward))) (omega (arith, s.onward, s.upto)))

pub tracing_pass : {n : ℕ} {links₀ names₀ ends₀ links names ends : List ℕ} {c d k j : ℕ}
    → RingsTraced n links₀ names₀ ends₀ links names ends c k j → Sought n links c d → RingsTraced n links₀ names₀ ends₀ links names ends d k j
tracing_pass w s = over_to _ _ _ _ _ _ _ _ _ _ _ w s

-- The walk along one ring: what it has written at each place, and at its end.
use Prim.Native.Nat.{ℕ, suc, ◌+◌, ◌≤◌, ◌<◌}
use mathlib.Core.Path.{◌≡◌, refl, sym, ap, ◌∙◌}
use mathlib.Core.Bool.{false}
use mathlib.Core.List.{List, [], ◌∷◌}
use native.Mathlib.Omega.{arith}
use native.Mathlib.Decide.{ℕ_discrete}
use lib.ListN.{length, get_or, set, length-set}
use lib.Seq.{sets, length-sets}
use Rattle.laws.specs.Booleans.{is_false}
use Rattle.laws.specs.TableLaws.{sets_snoc}
use Rattle.section.specs.Section.{no_corner}
use Rattle.section.specs.Rings.{iterate, Ring}
use Rattle.section.specs.Contours.{places_of, member}
use Rattle.section.specs.Links.{link_of}
use Rattle.section.specs.OrbitLaws.{orbit, length_orbit, orbit_snoc, orbit_at, walk_closes}
use Rattle.cut_trace.specs.Walks.{ring_of, strike, Walkable}
use Rattle.cut_trace.proofs.Strikes.{length_strike, strike_join, strike_other}

pub ring_is : (links : List ℕ) (start : ℕ) (r : Ring (link_of links) (length links) start)
    → ring_of links start ≡ orbit (link_of links) r.steps start
unfolding ring_of
ring_is links start r = ap places_of (walk_closes (link_of links) (length links) start r [] (λ j l. unfold member in refl))

-- the walk stands at c, which goes to place k
pub record RingWalking (links₀ names₀ : List ℕ) (start at : ℕ) (links names : List ℕ) (c k : ℕ) : Type 0 where
  pub way : Walkable links₀ names₀ start at
  pub place : ℕ
  pub short : place < way.back.steps
  pub at_k : k ≡ at + place
  pub at_c : c ≡ iterate (link_of links₀) place start
  pub names_is : names ≡ sets names₀ at (orbit (link_of links₀) place start)
  pub links_is : links ≡ strike links₀ (orbit (link_of links₀) place start)

pub walking_start : {links names : List ℕ} {start at : ℕ} → Walkable links names start at → RingWalking links names start at links names start at
walking_start way =
    record {
      way = way;
      place = 0;
      short = way.back.some_step;
      at_k = omega arith;
      at_c = unfold iterate in refl;
      names_is = unfold orbit in refl;
      links_is = unfold orbit in refl;
    }

module _ {links₀ names₀ : List ℕ} {start at : ℕ} {links names : List ℕ} {c k : ℕ} (w : RingWalking links₀ names₀ start at links names c k) where
  abbrev f : ℕ → ℕ
  f = link_of links₀

  pub names_length : length names ≡ length names₀
  names_length = ap length w.names_is ∙ length-sets names₀ at (orbit f w.place start)

  pub links_length : length links ≡ length links₀
  links_length = ap length w.links_is ∙ length_strike links₀ (orbit f w.place start)

  pub c_inside : c < length links
  c_inside = omega (arith, w.at_c, w.way.inside w.place (omega (arith, w.short)), links_length)

  pub c_small : c < 196608
  c_small = omega (arith, w.at_c, w.way.small w.place (omega (arith, w.short)))

  pub k_inside : k < length names
  k_inside = omega (arith, w.at_k, w.short, w.way.room, names_length)

  -- a place that the walk has not come to keeps its link
  ahead : (i : ℕ) → w.place ≤ i → i < w.way.back.steps → member (iterate f i start) (orbit f w.place start) ≡ false
  ahead i lo hi =
      is_false _ (λ e.
      let a = orbit_at f (iterate f i start) w.place start e in
      w.way.back.once a.0 i (omega (arith, a.1)) hi (sym a.2))

  link_is : get_or links c 0 ≡ iterate f (suc w.place) start
  unfolding iterate
  link_is =
      ap (λ (l : List ℕ). get_or l c 0) w.links_is
      ∙ ap (λ (x : ℕ). get_or (strike links₀ (orbit f w.place start)) x 0) w.at_c
      ∙ strike_other (orbit f w.place start) links₀ (iterate f w.place start) (ahead w.place (omega arith) w.short)

  names_next : set names k c ≡ sets names₀ at (orbit f (suc w.place) start)
  names_next =
      (λ i. set (w.names_is i) k (w.at_c i))
      ∙ sets_snoc (orbit f w.place start) names₀ at k (iterate f w.place start)
      (w.at_k ∙ ap (λ (j : ℕ). at + j) (sym (length_orbit f w.place start)))
      ∙ ap (sets names₀ at) (sym (orbit_snoc f w.place start))

  links_next : set links c no_corner ≡ strike links₀ (orbit f (suc w.place) start)
  links_next =
      (λ i. set (w.links_is i) (w.at_c i) no_corner)
      ∙ sym (strike_join links₀ (orbit f w.place start) (iterate f w.place start ∷ []))
      ∙ ap (strike links₀) (sym (orbit_snoc f w.place start))

  module _ {d : ℕ} (step : d ≡ get_or links c 0) where
    d_is : d ≡ iterate f (suc w.place) start
    d_is = step ∙ link_is

    pub d_inside : d < length (set links c no_corner)
    d_inside = omega (arith, length-set links c no_corner, links_length, d_is, w.way.inside (suc w.place) w.short)

    pub d_small : d < 196608
    d_small = omega (arith, d_is, w.way.small (suc w.place) w.short)

    more : (d ≡ start → ⊥) → suc w.place < w.way.back.steps
    more ne = by (ℕ_discrete (suc w.place) w.way.back.steps)
      where
        by : Dec (suc w.place ≡ w.way.back.steps) → suc w.place < w.way.back.steps
        by (yes e) = absurd (ne (d_is ∙ ap (λ (j : ℕ). iterate f j start) e ∙ w.way.back.returns))
        by (no e) = omega (arith, w.short)

    pub walking_next : (d ≡ start → ⊥) → RingWalking links₀ names₀ start at (set links c no_corner) (set names k c) d (k + 1)
    walking_next ne =
        record {
          way = w.way;
          place = suc w.place;
          short = more ne;
          at_k = omega (arith, w.at_k);
          at_c = d_is;
          names_is = names_next;
          links_is = links_next;
        }

    last : d ≡ start → suc w.place ≡ w.way.back.steps
    last e = by (ℕ_discrete (suc w.place) w.way.back.steps)
      where
        by : Dec (suc w.place ≡ w.way.back.steps) → suc w.place ≡ w.way.back.steps
        by (yes q) = q
        by (no q) =
            absurd (w.way.back.once 0 (suc w.place) (omega arith) (omega (arith, w.short)) (unfold iterate in (sym (sym d_is ∙ e))))

    pub walking_end : d ≡ start
        → (k + 1 ≡ at + length (ring_of links₀ start))
        × ((set names k c ≡ sets names₀ at (ring_of links₀ start)) × (set links c no_corner ≡ strike links₀ (ring_of links₀ start)))
    walking_end e =
        let q = last e in
        let r : orbit f (suc w.place) start ≡ ring_of links₀ start =
        ap (λ (j : ℕ). orbit f j start) q ∙ sym (ring_is links₀ start w.way.back) in
        let l = ap length (sym r) ∙ length_orbit f (suc w.place) start in
        (omega (arith, w.at_k, l), (names_next ∙ ap (sets names₀ at) r, links_next ∙ ap (strike links₀) r))

-- refusal 16 does not arise: the next place still has its link
pub never_met : {links₀ names₀ : List ℕ} {start at : ℕ} {links names : List ℕ} {d k : ℕ}
    → RingWalking links₀ names₀ start at links names d k → get_or links d 0 ≡ no_corner → ⊥
never_met w e = omega (arith, link_is w, w.way.small (suc w.place) w.short)

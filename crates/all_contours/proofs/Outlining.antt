-- The pass along the list of the crossings: what the tables hold when crossing c is reached, and after the last.
use Prim.Native.Nat.{ℕ, zero, suc, ◌+◌, ◌≤◌, ◌<◌}
use mathlib.Core.Path.{◌≡◌, refl, sym, ap, ◌∙◌, subst}
use mathlib.Core.Bool.{Bool, true, false, not}
use mathlib.Core.List.{List, [], ◌∷◌, ◌++◌, flatten}
use mathlib.Core.Logic.{⊎_elim}
use native.Mathlib.Omega.{arith}
use lib.ListN.{length, get_or, set, length-append}
use lib.Seq.{sets}
use lib.IntN.{ℤ}
use Rattle.laws.specs.Booleans.{clash, is_true, is_false, and_parts, split_lt}
use Rattle.laws.specs.Tables.{overwrite}
use Rattle.laws.specs.TableLaws.{length_snoc, overwrite_none, length_overwrite, overwrite_snoc, overwrite_more}
use Rattle.mesh.specs.Meshes.{PairedMesh}
use Rattle.polygons.proofs.FlatLaws.{length_ends}
use Rattle.section.specs.Section.{below, rising, Among, Right}
use Rattle.section.specs.Rings.{Ring}
use Rattle.section.specs.Contours.{member, contours, names_of as flat, trace_to, trace, ends_from, ends_of}
use Rattle.section.specs.OrbitLaws.{length_orbit}
use Rattle.section.proofs.LayerLaws.{names_snoc, ends_snoc, Leads, leads_on, starts_at, Begun, begun_start, begun_skip, ring, ring_names}
use Rattle.section.proofs.LayerLaws.{begun_ring, ring_room_lem, begun_few}
use Rattle.all_active.specs.Lists.{next_in, active_at}
use Rattle.all_active.specs.ListLaws.{next_upto, next_found, next_between}
use Rattle.all_contours.specs.Rounds.{successor_at, contour_from, stamped, Followable, ContourFollowed, Outlinable, Followed, Marked}
use Rattle.all_contours.proofs.Stamps.{length_stamped, stamped_join, stamped_other, stamped_same}
use Rattle.all_contours.proofs.ContourWalking.{round_is}

-- ---- corners that do not rise start no contour

module _ (rises : ℕ → Bool) (next : ℕ → ℕ) (n : ℕ) (leads : Leads rises next n) (rs : List (List ℕ)) where
  begun_gap : (c m : ℕ) → c ≤ m → Begun rises next n leads c rs → ((x : ℕ) → c ≤ x → x < m → rises x ≡ false) → Begun rises next n leads m rs
  begun_gap c zero l b none = let e : c ≡ 0 = omega arith in subst (λ (k : ℕ). Begun rises next n leads k rs) e b
  begun_gap c (suc m) l b none = ⊎_elim
      (λ h. let e : rises m ≡ false = none m (omega arith) (omega arith) in begun_skip rises next n leads m rs
      (begun_gap c m (omega arith) b (λ x a z. none x a (omega arith))) (simp e))
      (λ h. let e : c ≡ suc m = omega arith in subst (λ (k : ℕ). Begun rises next n leads k rs) e b)
      (split_lt c (suc m))

-- ---- the pass

module _ (m : PairedMesh) (h : ℤ) where
  abbrev coords : List ℤ
  coords = m.mesh.coords

  abbrev corners : List ℕ
  corners = m.mesh.corners

  abbrev pairing : List ℕ
  pairing = m.pairing

  abbrev rises : ℕ → Bool
  rises = rising (below coords h) corners

  abbrev next : ℕ → ℕ
  next = successor_at m h

  abbrev leads : Right m → Leads (rising (below m.mesh.coords h) m.mesh.corners) (successor_at m h) (length m.mesh.corners)
  leads right = leads_on (below coords h) corners pairing right.linked

  pub record Outlining (stamp : ℕ) (ring : List ℕ) (head : ℕ) (names₀ ends₀ marks₀ names ends marks : List ℕ) (c k j : ℕ) : Type 0 where
    pub given : Outlinable m h stamp ring head names₀ ends₀ marks₀
    pub rings : List (List ℕ)
    pub begun : Begun (rising (below m.mesh.coords h) m.mesh.corners) (successor_at m h) (length m.mesh.corners)
        (leads_on (below m.mesh.coords h) m.mesh.corners m.pairing given.right.linked) c rings
    pub upto : c ≤ length m.mesh.corners
    pub here : c < length m.mesh.corners → rising (below m.mesh.coords h) m.mesh.corners c ≡ true
    pub at_k : k ≡ length (flat rings)
    pub at_j : j ≡ length rings
    pub names_is : names ≡ overwrite (flat rings) names₀
    pub ends_is : ends ≡ overwrite (ends_of rings) ends₀
    pub marks_is : marks ≡ stamped stamp marks₀ (flat rings)

  pub outlining_start : {stamp : ℕ} {ring : List ℕ} {head : ℕ} {names ends marks : List ℕ} → Outlinable m h stamp ring head names ends marks
      → Outlining stamp ring head names ends marks names ends marks head 0 0
  unfolding flatten
  outlining_start {head = head} {names} {ends} g =
      let e : head ≡ next_in rises (length corners) 0 = g.stands.head_is in
      record {
        given = g;
        rings = [];
        begun = begun_gap rises next (length corners) (leads g.right) [] 0 head (omega arith) (begun_start rises next (length corners) (leads g.right))
            (λ x l m. next_between rises (length corners) 0 x l (omega (arith, e)));
        upto = omega (arith, e, next_upto rises (length corners) 0);
        here = λ l. ap rises e ∙ (next_found rises (length corners) 0 (omega (arith, e))).1;
        at_k = refl;
        at_j = refl;
        names_is = sym (overwrite_none names);
        ends_is = unfold ends_from in (sym (overwrite_none ends));
        marks_is = refl;
      }

  module _ {stamp : ℕ} {links : List ℕ} {head : ℕ} {names₀ ends₀ marks₀ names ends marks : List ℕ} {c k j : ℕ}
      (w : Outlining stamp links head names₀ ends₀ marks₀ names ends marks c k j) where
    abbrev n : ℕ
    n = length corners

    abbrev led : Leads (rising (below m.mesh.coords h) m.mesh.corners) (successor_at m h) (length m.mesh.corners)
    led = leads w.given.right

    k_few : k ≤ n
    k_few = omega (arith, w.at_k, begun_few rises next n led c w.rings w.begun)

    pub names_length : length names ≡ length names₀
    names_length = ap length w.names_is ∙ length_overwrite (flat w.rings) names₀ (omega (arith, k_few, w.at_k, w.given.names_room))

    pub ends_length : length ends ≡ length ends₀
    ends_length =
        ap length w.ends_is
        ∙ length_overwrite (ends_of w.rings) ends₀ (omega (arith, length_ends 0 w.rings, w.begun.few, w.upto, w.given.ends_room))

    pub marks_length : length marks ≡ length marks₀
    marks_length = ap length w.marks_is ∙ length_stamped stamp marks₀ (flat w.rings)

    module _ (l : c < length m.mesh.corners) where
      pub c_small : c < 196608
      c_small = omega (arith, w.given.right.named.whole.few)

      pub c_inside : (c < length links) × (c < length marks)
      c_inside = (omega (arith, w.given.ring_room_lem), omega (arith, marks_length, w.given.marks_room))

      pub j_inside : j < length ends
      j_inside = omega (arith, w.at_j, w.begun.few, ends_length, w.given.ends_room)

      pub j_small : j < 196608
      j_small = omega (arith, w.at_j, w.begun.few, c_small)

      mark_here : get_or marks c 0 ≡ get_or (stamped stamp marks₀ (flat w.rings)) c 0
      mark_here = ap (λ (t : List ℕ). get_or t c 0) w.marks_is

      -- the next crossing of the list
      module _ {d : ℕ} (ed : d ≡ get_or links c 0) where
        d_is : d ≡ next_in rises n (c + 1)
        d_is = ed ∙ w.given.stands.links_are c l (w.here l)

        pub d_after : c < d
        d_after = ⊎_elim (λ m. omega (arith, d_is, (next_found rises n (c + 1) m).0)) (λ m. omega (arith, d_is)) (split_lt (next_in rises n (c + 1)) n)

        pub d_upto : d ≤ n
        d_upto = omega (arith, d_is, next_upto rises n (c + 1))

        d_here : d < n → rises d ≡ true
        d_here m = ap rises d_is ∙ (next_found rises n (c + 1) (omega (arith, d_is))).1

        over : (rs : List (List ℕ)) → Begun rises next n led (suc c) rs → Begun rises next n led d rs
        over rs b = begun_gap rises next n led rs (suc c) d d_after b (λ x a z. next_between rises n (c + 1) x (omega arith) (omega (arith, d_is)))

        -- a contour has c already
        pub outlining_skip : get_or marks c 0 ≡ stamp → Outlining stamp links head names₀ ends₀ marks₀ names ends marks d k j
        outlining_skip e =
            record {
              given = w.given;
              rings = w.rings;
              begun = over w.rings (begun_skip rises next n led c w.rings w.begun no_start);
              upto = d_upto;
              here = d_here;
              at_k = w.at_k;
              at_j = w.at_j;
              names_is = w.names_is;
              ends_is = w.ends_is;
              marks_is = w.marks_is;
            }
          where
            old : member c (flat w.rings) ≡ true
            old =
                is_true _ (λ m. let z = w.given.unstamped c l (w.here l) in omega
                (arith, sym (stamped_other stamp (flat w.rings) marks₀ c m) ∙ sym mark_here ∙ e))

            no_start : starts_at rises next n led w.rings c ≡ false
            no_start = is_false _ (λ s. clash (and_parts (rises c) (not (member c (flat w.rings))) s).1 (ap not old))

        -- a contour starts at c
        module _ (e : get_or marks c 0 ≡ stamp → ⊥) where
          unused : member c (flat w.rings) ≡ false
          unused = is_false _ (λ m. e (mark_here ∙ stamped_same stamp (flat w.rings) marks₀ c (omega (arith, w.given.marks_room)) m))

          crossing : Among (length m.mesh.corners) (rising (below m.mesh.coords h) m.mesh.corners) c
          crossing = record { below = l; upward = w.here l }

          abbrev r : Ring (successor_at m h) (length m.mesh.corners) c
          r = ring rises next n led c w.rings w.begun crossing unused

          abbrev o : List ℕ
          o = ring_names rises next n led c w.rings w.begun crossing unused

          round_same : contour_from m h c ≡ o
          round_same = round_is m h c r

          length_round : length (contour_from m h c) ≡ r.steps
          length_round = ap length round_same ∙ length_orbit next r.steps c

          room : k + r.steps ≤ n
          room = omega (arith, w.at_k, ring_room_lem rises next n led c w.rings w.begun crossing unused)

          pub roundable : Followable m h names marks c k
          roundable =
              record {
                right = w.given.right;
                crosses = crossing;
                marks_room = omega (arith, marks_length, w.given.marks_room);
                room = omega (arith, room, length_round, names_length, w.given.names_room);
              }

          module _ {names₁ marks₁ : List ℕ} {k₁ : ℕ} (z : ContourFollowed m h stamp c k names marks names₁ marks₁ k₁) where
            pub end_few : k₁ ≤ n
            end_few = omega (arith, z.end_is, room, length_round)

            all : flat (w.rings ++ (o ∷ [])) ≡ flat w.rings ++ o
            all = names_snoc w.rings o

            len : k₁ ≡ 0 + length (flat w.rings) + length o
            len = omega (arith, z.end_is, ap length round_same, w.at_k)

            pub outlining_ring : Outlining stamp links head names₀ ends₀ marks₀ names₁ (set ends j k₁) marks₁ d k₁ (j + 1)
            outlining_ring =
                record {
                  given = w.given;
                  rings = w.rings ++ (o ∷ []);
                  begun = over (w.rings ++ (o ∷ [])) (begun_ring rises next n led c w.rings w.begun crossing unused);
                  upto = d_upto;
                  here = d_here;
                  at_k = omega (arith, len, ap length all, length-append (flat w.rings) o);
                  at_j = omega (arith, w.at_j, length_snoc w.rings o);
                  names_is = z.names_are ∙ (λ i. sets (w.names_is i) k (round_same i))
                      ∙ overwrite_more o (flat w.rings) names₀ k w.at_k (omega (arith, room, length_orbit next r.steps c, w.given.names_room))
                      ∙ ap (λ (a : List ℕ). overwrite a names₀) (sym all);
                  ends_is = (λ i. set (w.ends_is i) j (len i))
                      ∙ overwrite_snoc (ends_of w.rings) ends₀ (0 + length (flat w.rings) + length o) j (w.at_j ∙ sym (length_ends 0 w.rings))
                      (omega (arith, w.at_j, w.begun.few, w.given.ends_room))
                      ∙ ap (λ (a : List ℕ). overwrite a ends₀) (sym (ends_snoc 0 w.rings o));
                  marks_is = z.marks_are ∙ (λ i. stamped stamp (w.marks_is i) (round_same i)) ∙ sym (stamped_join stamp marks₀ (flat w.rings) o)
                      ∙ ap (stamped stamp marks₀) (sym all);
                }

    -- after the last crossing
    module _ (end : length m.mesh.corners ≤ c) where
      trace_is : trace (below m.mesh.coords h) m.mesh.corners m.pairing ≡ contours w.rings
      unfolding trace
      trace_is = let e : c ≡ n = omega (arith, w.upto) in subst (λ (i : ℕ). trace_to rises next n i ≡ contours w.rings) e w.begun.is

      pub outlined_end : {h₀ : ℤ} → h ≡ h₀ → Followed m h₀ names₀ ends₀ names ends j k
      outlined_end e =
          subst (λ (z : ℤ). Followed m z names₀ ends₀ names ends j k) e
          (record { rings = w.rings; is = trace_is; j_is = w.at_j; k_is = w.at_k; names_are = w.names_is; ends_are = w.ends_is })

    pub marked_end : {h₀ : ℤ} → h ≡ h₀ → Marked (active_at m.mesh.coords m.mesh.corners h₀) (length m.mesh.corners) stamp marks₀ marks
    marked_end e =
        subst (λ (z : ℤ). Marked (active_at coords corners z) (length corners) stamp marks₀ marks) e
        (record {
          kept = record { size = marks_length; past = λ i l. same i (is_false _ (λ m. omega (arith, (w.begun.only i m).below))) };
          upto = λ i l p. by i l p (member i (flat w.rings)) refl;
          other = λ i p. same i (is_false _ (λ m. clash (w.begun.only i m).upward p));
        })
      where
        same : (i : ℕ) → member i (flat w.rings) ≡ false → get_or marks i 0 ≡ get_or marks₀ i 0
        same i m = ap (λ (t : List ℕ). get_or t i 0) w.marks_is ∙ stamped_other stamp (flat w.rings) marks₀ i m

        by : (i : ℕ) → i < n → active_at coords corners h i ≡ true → (b : Bool) → member i (flat w.rings) ≡ b → get_or marks i 0 ≤ stamp
        by i l p true m =
            omega (arith, ap (λ (t : List ℕ). get_or t i 0) w.marks_is, stamped_same stamp (flat w.rings) marks₀ i (omega (arith, w.given.marks_room)) m)
        by i l p false m = omega (arith, same i m, w.given.unstamped i l p)

pub outlinable_held : {m : PairedMesh} {h h' : ℤ} {stamp : ℕ} {ring : List ℕ} {head : ℕ} {names ends marks : List ℕ} → h' ≡ h
    → Outlinable m h stamp ring head names ends marks → Outlinable m h' stamp ring head names ends marks
outlinable_held {m} {stamp = stamp} {ring} {head} {names} {ends} {marks} e = subst (λ (z : ℤ). Outlinable m z stamp ring head names ends marks) (sym e)

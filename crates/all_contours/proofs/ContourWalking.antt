-- The walk along one contour: what it has written at each place, and at its end.
use Prim.Native.Nat.{ℕ, suc, ◌+◌, ◌<◌}
use mathlib.Core.Path.{◌≡◌, refl, sym, ap, ◌∙◌, subst}
use mathlib.Core.Bool.{true, false}
use mathlib.Core.List.{List, [], ◌∷◌}
use native.Mathlib.Omega.{arith}
use native.Mathlib.Decide.{ℕ_discrete}
use lib.ListN.{length, get_or, set}
use lib.Seq.{sets, length-sets}
use lib.IntN.{ℤ}
use Rattle.laws.specs.TableLaws.{sets_snoc}
use Rattle.mesh.specs.Corners.{triangle_of, next_corner, start_of, end_of, vertex_count}
use Rattle.mesh.specs.Meshes.{PairedMesh}
use Rattle.mesh.specs.Tests.{pair_of}
use Rattle.mesh.specs.TestLaws.{next_below}
use Rattle.section.specs.Section.{below, rising, rising_in, successor, Crossing, Right}
use Rattle.section.proofs.SectionLaws.{next_thrice, next_triangle, falling_parts, rising_of, rising_in_is, pair_falls, crossing_ring}
use Rattle.section.specs.Rings.{iterate, Ring}
use Rattle.section.specs.Contours.{places_of, member}
use Rattle.section.specs.OrbitLaws.{orbit, length_orbit, orbit_snoc, walk_closes}
use Rattle.section.proofs.LayerLaws.{crosses, leads_on}
use Rattle.all_contours.specs.Rounds.{successor_at, contour_from, stamped, Followable, ContourFollowed}
use Rattle.all_contours.proofs.Stamps.{length_stamped, stamped_join}

-- ---- the successor of a crossing

-- corner d is paired with c, e and f are the other corners of its triangle, and v is the vertex of f
pub record Across (m : PairedMesh) (c d e f v : ℕ) : Type 0 where
  pub pair : d ≡ pair_of m.pairing c
  pub next : e ≡ next_corner d
  pub third : f ≡ next_corner e
  pub vertex : v ≡ get_or m.mesh.corners f 0

module _ {m : PairedMesh} (right : Right m) (h : ℤ) {c : ℕ} (x : Crossing (below m.mesh.coords h) m.mesh.corners c) where
  pub pair_below : {d : ℕ} → d ≡ pair_of m.pairing c → d < length m.mesh.corners
  pair_below e = omega (arith, (right.linked.each c x.below).corner)

  module _ {d e f v : ℕ} (a : Across m c d e f v) where
    pub third_below : f < length m.mesh.corners
    third_below =
        let n = length m.mesh.corners in
        let b : e < n = subst (λ (k : ℕ). k < n) (sym a.next) (next_below n d right.linked.whole.threes (pair_below a.pair)) in
        subst (λ (k : ℕ). k < n) (sym a.third) (next_below n e right.linked.whole.threes b)

    pub third_vertex : v < vertex_count m.mesh.coords
    third_vertex = omega (arith, a.vertex, right.named.vertices f third_below)

    -- the corners by the pair of c
    e_is : e ≡ next_corner (pair_of m.pairing c)
    e_is = a.next ∙ ap next_corner a.pair

    f_is : f ≡ next_corner (next_corner (pair_of m.pairing c))
    f_is = a.third ∙ ap next_corner e_is

    third_is : below m.mesh.coords h v ≡ below m.mesh.coords h (end_of m.mesh.corners (next_corner (pair_of m.pairing c)))
    third_is = ap (below m.mesh.coords h) (a.vertex ∙ ap (λ (k : ℕ). get_or m.mesh.corners k 0) f_is)

    -- the one corner of the pair's triangle that rises
    found : (r : ℕ) → triangle_of r ≡ triangle_of (pair_of m.pairing c) → rising (below m.mesh.coords h) m.mesh.corners r ≡ true
        → r ≡ successor_at m h c
    unfolding successor
    found r t p =
        sym (ap (rising_in (below m.mesh.coords h) m.mesh.corners) (sym t) ∙ rising_in_is (below m.mesh.coords h) m.mesh.corners r p)

    falls : (below m.mesh.coords h (end_of m.mesh.corners (pair_of m.pairing c)) ≡ true)
        × (below m.mesh.coords h (start_of m.mesh.corners (pair_of m.pairing c)) ≡ false)
    falls =
        falling_parts (below m.mesh.coords h) m.mesh.corners (pair_of m.pairing c)
        (pair_falls (below m.mesh.coords h) m.mesh.corners m.pairing right.linked c x)

    pub third_above : below m.mesh.coords h v ≡ false → e ≡ successor_at m h c
    third_above t =
        let p = pair_of m.pairing c in
        e_is ∙ found (next_corner p) (next_triangle p)
        (rising_of (below m.mesh.coords h) m.mesh.corners (next_corner p) falls.0 (sym third_is ∙ t))

    pub third_passed : below m.mesh.coords h v ≡ true → f ≡ successor_at m h c
    third_passed t =
        let p = pair_of m.pairing c in
        f_is ∙ found (next_corner (next_corner p)) (next_triangle (next_corner p) ∙ next_triangle p)
        (rising_of (below m.mesh.coords h) m.mesh.corners (next_corner (next_corner p)) (sym third_is ∙ t)
        (ap (λ (k : ℕ). below m.mesh.coords h (get_or m.mesh.corners k 0)) (next_thrice p) ∙ falls.1))

-- ---- the walk

pub round_is : (m : PairedMesh) (h : ℤ) (start : ℕ) (r : Ring (successor_at m h) (length m.mesh.corners) start)
    → contour_from m h start ≡ orbit (successor_at m h) r.steps start
unfolding contour_from
round_is m h start r = ap places_of (walk_closes (successor_at m h) (length m.mesh.corners) start r [] (λ j l. unfold member in refl))

-- the walk stands at c, which goes to place k
pub record ContourWalking (m : PairedMesh) (h : ℤ) (stamp : ℕ) (names₀ marks₀ : List ℕ) (start at : ℕ) (names marks : List ℕ) (c k : ℕ) : Type 0 where
  pub way : Followable m h names₀ marks₀ start at
  pub back : Ring (successor_at m h) (length m.mesh.corners) start
  pub place : ℕ
  pub short : place < back.steps
  pub at_k : k ≡ at + place
  pub at_c : c ≡ iterate (successor_at m h) place start
  pub names_is : names ≡ sets names₀ at (orbit (successor_at m h) place start)
  pub marks_is : marks ≡ stamped stamp marks₀ (orbit (successor_at m h) place start)

module _ {m : PairedMesh} {h : ℤ} where
  pub walking_start : {stamp : ℕ} {names marks : List ℕ} {start at : ℕ} → Followable m h names marks start at
      → ContourWalking m h stamp names marks start at names marks start at
  walking_start {start = start} way =
      let r : Ring (successor_at m h) (length m.mesh.corners) start =
      crossing_ring (below m.mesh.coords h) m.mesh.corners m.pairing way.right.linked start way.crosses in
      record {
        way = way;
        back = r;
        place = 0;
        short = r.some_step;
        at_k = omega arith;
        at_c = unfold iterate in refl;
        names_is = unfold orbit in refl;
        marks_is = unfold orbit in refl;
      }

  module _ {stamp : ℕ} {names₀ marks₀ : List ℕ} {start at : ℕ} {names marks : List ℕ} {c k : ℕ}
      (w : ContourWalking m h stamp names₀ marks₀ start at names marks c k) where
    pub names_length : length names ≡ length names₀
    names_length = ap length w.names_is ∙ length-sets names₀ at (orbit (successor_at m h) w.place start)

    pub marks_length : length marks ≡ length marks₀
    marks_length = ap length w.marks_is ∙ length_stamped stamp marks₀ (orbit (successor_at m h) w.place start)

    pub c_crosses : Crossing (below m.mesh.coords h) m.mesh.corners c
    c_crosses =
        subst (Crossing (below m.mesh.coords h) m.mesh.corners) (sym w.at_c)
        (crosses _ _ (length m.mesh.corners) (leads_on (below m.mesh.coords h) m.mesh.corners m.pairing w.way.right.linked) start
        w.way.crosses w.place)

    pub c_small : c < 196608
    c_small = omega (arith, c_crosses.below, w.way.right.named.whole.few)

    pub c_inside : c < length marks
    c_inside = omega (arith, c_crosses.below, marks_length, w.way.marks_room)

    pub k_inside : k < length names
    k_inside =
        let size = ap length (round_is m h start w.back) ∙ length_orbit (successor_at m h) w.back.steps start in
        omega (arith, w.at_k, w.short, w.way.room, names_length, size)

    names_next : set names k c ≡ sets names₀ at (orbit (successor_at m h) (suc w.place) start)
    names_next =
        (λ i. set (w.names_is i) k (w.at_c i))
        ∙ sets_snoc (orbit (successor_at m h) w.place start) names₀ at k (iterate (successor_at m h) w.place start)
        (w.at_k ∙ ap (λ (j : ℕ). at + j) (sym (length_orbit (successor_at m h) w.place start)))
        ∙ ap (sets names₀ at) (sym (orbit_snoc (successor_at m h) w.place start))

    marks_next : set marks c stamp ≡ stamped stamp marks₀ (orbit (successor_at m h) (suc w.place) start)
    marks_next =
        (λ i. set (w.marks_is i) (w.at_c i) stamp)
        ∙ sym (stamped_join stamp marks₀ (orbit (successor_at m h) w.place start) (iterate (successor_at m h) w.place start ∷ []))
        ∙ ap (stamped stamp marks₀) (sym (orbit_snoc (successor_at m h) w.place start))

    module _ {d : ℕ} (step : d ≡ successor_at m h c) where
      d_is : d ≡ iterate (successor_at m h) (suc w.place) start
      unfolding iterate
      d_is = step ∙ ap (successor_at m h) w.at_c

      more : (d ≡ start → ⊥) → suc w.place < w.back.steps
      more ne = by (ℕ_discrete (suc w.place) w.back.steps)
        where
          by : Dec (suc w.place ≡ w.back.steps) → suc w.place < w.back.steps
          by (yes e) = absurd (ne (d_is ∙ ap (λ (j : ℕ). iterate (successor_at m h) j start) e ∙ w.back.returns))
          by (no e) = omega (arith, w.short)

      pub walking_next : (d ≡ start → ⊥) → ContourWalking m h stamp names₀ marks₀ start at (set names k c) (set marks c stamp) d (k + 1)
      walking_next ne =
          record {
            way = w.way;
            back = w.back;
            place = suc w.place;
            short = more ne;
            at_k = omega (arith, w.at_k);
            at_c = d_is;
            names_is = names_next;
            marks_is = marks_next;
          }

      last : d ≡ start → suc w.place ≡ w.back.steps
      last e = by (ℕ_discrete (suc w.place) w.back.steps)
        where
          by : Dec (suc w.place ≡ w.back.steps) → suc w.place ≡ w.back.steps
          by (yes q) = q
          by (no q) = absurd (w.back.once 0 (suc w.place) (omega arith) (omega (arith, w.short)) (unfold iterate in (sym (sym d_is ∙ e))))

      pub walking_end : {h₀ : ℤ} → h ≡ h₀ → d ≡ start → ContourFollowed m h₀ stamp start at names₀ marks₀ (set names k c) (set marks c stamp) (k + 1)
      walking_end eh e =
          let q = last e in
          let r : orbit (successor_at m h) (suc w.place) start ≡ contour_from m h start =
          ap (λ (j : ℕ). orbit (successor_at m h) j start) q ∙ sym (round_is m h start w.back) in
          let l = ap length (sym r) ∙ length_orbit (successor_at m h) (suc w.place) start in
          subst (λ (z : ℤ). ContourFollowed m z stamp start at names₀ marks₀ (set names k c) (set marks c stamp) (k + 1)) eh
          (record { end_is = omega (arith, w.at_k, l); names_are = names_next ∙ ap (sets names₀ at) r; marks_are = marks_next ∙ ap (stamped stamp marks₀) r })

pub roundable_held : {m : PairedMesh} {h h' : ℤ} {names marks : List ℕ} {start at : ℕ} → h' ≡ h → Followable m h names marks start at
    → Followable m h' names marks start at
roundable_held {m} {names = names} {marks} {start} {at} e = subst (λ (z : ℤ). Followable m z names marks start at) (sym e)

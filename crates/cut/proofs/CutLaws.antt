-- What Cut promises: it refuses exactly if a listed condition holds, at the least place; and what it
-- gives is the layer: closed contours of every crossing once (RESULT-1), solid on the left (RESULT-2),
-- with points in coordinate range and at most half a unit from the exact crossing (RESULT-3).
use Rattle.std.specs.Prelude.{ℕ, ◌*◌, ◌<◌, ◌≤◌, ◌≡◌, refl, List, ◌↔◌, length, get_or, ℤ, pos, nat_abs, ◌-ℤ◌, ◌*ℤ◌}
use Rattle.std.proofs.Common.{ap, ◌∙◌, subst, arith, to_z, of_z, SFits}
use Rattle.std.proofs.Math.Decide.{dec_lt}
use Rattle.std.proofs.lemmas.Bool.{not-false}
use Rattle.std.specs.Int.{w32}
use Rattle.std.proofs.lemmas.Int.{to_z-of_z}
use Rattle.mesh.specs.Corners.{largest, triangle_count, triangle_of}
use Rattle.mesh.specs.Meshes.{PairedMesh}
use Rattle.mesh.specs.Operation.{gives, refuses, fine}
use Rattle.mesh.specs.OperationLaws.{First, None, more, fine_none, Recovers, given_verdict, refused_exactly, given_exactly, left_given, only_outcome}
use Rattle.mesh.specs.Refusals.{Told}
use Rattle.mesh.specs.RefusalLaws.{refusal_of, refusal_once}
use Rattle.section.specs.Section.{VertexSet, below, Crossing, Linked, Right}
use Rattle.section.proofs.SectionLaws.{rising_unique}
use Rattle.section.specs.RightLaws.{right_of}
use Rattle.section.specs.RingLaws.{pigeonhole}
use Rattle.section.specs.Contours.{names_of}
use Rattle.section.specs.Layers as layers
use Rattle.section.specs.OrbitLaws.{at_member}
use Rattle.section.proofs.LayerLaws.{trace_layer}
use Rattle.cut_points.specs.Points.{exact_over, exact_under, point_at, points_of}
use Rattle.cut_points.proofs.RoundedLaws.{point_near, points_in_lem}
use Rattle.std.specs.Prelude.{Result, Ok, Err}
use Rattle.mesh.specs.declared.Refusal.{Refusal}
use Rattle.polygons.specs.declared.LayerCounts.{LayerCounts}
use Rattle.cut.specs.Cut.{CutTables, section, contours_of, counts_of, tables_after_cut, cutting, tell_cut, Cuts}
use Rattle.cut.specs.Solid.{SolidLeft}
use Rattle.cut.specs.SolidLaws.{solid_left, crossing_climbs}

-- ---- a layer has at most one point for each triangle

pub one_each : (passed : VertexSet) (corners pairing : List ℕ) (rs : List (List ℕ)) → Linked corners pairing → layers.LayerContours passed corners pairing rs
    → length (names_of rs) ≤ triangle_count corners
one_each passed corners pairing rs linked l = by (dec_lt (triangle_count corners) (length (names_of rs)))
  where
    crosses : (i : ℕ) → i < length (names_of rs) → Crossing passed corners (get_or (names_of rs) i 0)
    crosses i h = l.only (get_or (names_of rs) i 0) (at_member (names_of rs) i h)

    by : Dec (triangle_count corners < length (names_of rs)) → length (names_of rs) ≤ triangle_count corners
    by (no m) = omega arith
    by (yes m) =
        let r = pigeonhole (triangle_count corners) (λ i. triangle_of (get_or (names_of rs) i 0))
        (λ i h. let z = (crosses i (omega arith)).below in omega (arith, linked.whole.threes)) in
        let a : r.first < length (names_of rs) = omega (arith, r.order, r.bound) in
        let b : r.second < length (names_of rs) = omega (arith, r.bound) in
        absurd (l.once r.first r.second r.order b
        (rising_unique passed corners _ _ r.equal (crosses r.first a).upward (crosses r.second b).upward))

-- ---- Cut

-- a height as the code holds it
pub at_height : {m : PairedMesh} {h : ℤ} {t t' : CutTables} {result : Result LayerCounts Refusal}
    → SFits w32 h → Cuts m (to_z w32 (of_z w32 h)) t result t' → Cuts m h t result t'
at_height {m} {h} {t} {t'} {result} f = subst (λ (z : ℤ). Cuts m z t result t') (to_z-of_z w32 h f)

pub cut_recovers : Recovers tell_cut
cut_recovers = record {
  back = elim [ gives n ↦ Ok (record { contours = n.0; points = n.1 }) | refuses r ↦ Err (refusal_of r) ];
  once = elim [ Ok v ↦ refl | Err r ↦ ap Err (refusal_once r) ];
}

module _ {m : PairedMesh} {h : ℤ} {t t' : CutTables} {result : Result LayerCounts Refusal} (c : Cuts m h t result t') where
  -- refused exactly if a listed condition holds, the first that fits, at the least place; a layer exactly if none does; and one outcome only
  pub cut_refused : (r : Told) → (tell_cut result ≡ refuses r) ↔ First (cutting (m, h, t)).refusals r
  cut_refused = refused_exactly c

  pub cut_given : (tell_cut result ≡ gives (counts_of (contours_of (section m h)))) ↔ None (cutting (m, h, t)).refusals
  cut_given = given_exactly c

  pub cut_only : {other : Result LayerCounts Refusal} {u' : CutTables} → Cuts m h t other u' → (result ≡ other) × (t' ≡ u')
  cut_only = only_outcome cut_recovers c

  -- what a layer is
  pub record CutPromise (j k : ℕ) : Type 0 where
    pub rings : List (List ℕ)
    pub layer : layers.LayerContours (below m.mesh.coords h) m.mesh.corners m.pairing rings
    pub count : j ≡ length rings
    pub total : k ≡ length (names_of rings)
    pub few : k ≤ triangle_count m.mesh.corners
    pub tables_are : t' ≡ tables_after_cut m.mesh h rings t fine
    pub near : (x : ℕ) → Crossing (below m.mesh.coords h) m.mesh.corners x → (axis : ℕ)
        → 2 * nat_abs (exact_under m.mesh x *ℤ point_at m.mesh h axis x -ℤ exact_over m.mesh h axis x) ≤ nat_abs (exact_under m.mesh x)
    pub inside : (i : ℕ) → i < length (points_of m.mesh h (names_of rings)) → nat_abs (get_or (points_of m.mesh h (names_of rings)) i (pos 0)) ≤ largest
    pub left : (x : ℕ) → Crossing (below m.mesh.coords h) m.mesh.corners x → SolidLeft m h x

  -- a mesh of which a layer is given is right
  pub cut_right : {g : ℕ × ℕ} → tell_cut result ≡ gives g → Right m
  cut_right e = go (fine_none (cutting (m, h, t)).refusals (given_verdict c e).0)
    where
      go : None (cutting (m, h, t)).refusals → Right m
      go (more s (more n (more r (more v (more x (more p rest)))))) = right_of m (not-false _ (s 0 (omega arith))) r v x p

  pub cut_promise : {j k : ℕ} → tell_cut result ≡ gives (j, k) → CutPromise j k
  cut_promise {j} {k} e =
      let counts = (given_verdict c e).1 in
      let right = cut_right e in
      let l = trace_layer (below m.mesh.coords h) m.mesh.corners m.pairing right.linked in
      let rs = l.0 in
      let is : contours_of (section m h) ≡ rs = ap contours_of l.1.0 in
      let total : k ≡ length (names_of rs) = (λ i. (counts i).1) ∙ ap (λ (q : List (List ℕ)). length (names_of q)) is in
      record {
        rings = rs;
        layer = l.1.1;
        count = (λ i. (counts i).0) ∙ ap length is;
        total = total;
        few = omega (arith, one_each (below m.mesh.coords h) m.mesh.corners m.pairing rs right.linked l.1.1);
        tables_are = left_given c e ∙ (λ i. tables_after_cut m.mesh h (is i) t fine);
        near = λ y z axis. point_near m.mesh h y (crossing_climbs m h right y z) axis;
        inside = points_in_lem m.mesh h (names_of rs) (λ i q. crossing_climbs m h right _ (l.1.1.only _ (at_member (names_of rs) i q)));
        left = λ y z. solid_left m h y right z;
      }

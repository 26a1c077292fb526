-- Laws of the layer of a ring table: what a ring table of a height asks and gives.
use Rattle.std.specs.Prelude.{ℕ, ◌*◌, ◌<◌, ◌≡◌, Bool, true, false, List, [], ◌∷◌, length, get_or, replicate, ℤ, pos, Result}
use Rattle.std.proofs.Math.Path.{refl, sym, subst}
use Rattle.std.proofs.Common.{ap, ◌∙◌, arith, leb-true}
use Rattle.std.proofs.lemmas.List.{length-replicate}
use Rattle.laws.specs.Booleans.{and_parts}
use Rattle.laws.specs.Tables.{tabulate, overwrite, refill}
use Rattle.laws.specs.TableLaws.{refill_at, overwrite_twice, length_tabulate}
use Rattle.mesh.specs.Meshes.{Mesh, PairedMesh}
use Rattle.mesh.specs.Operation.{refuses, fine, verdict, after}
use Rattle.mesh.specs.OperationLaws.{nowhere_fine, verdict_one, then_fine, after_kept, left_given, does_give}
use Rattle.mesh.specs.Refusals.{Told, numbered}
use Rattle.mesh.specs.declared.Refusal.{Refusal}
use Rattle.polygons.specs.declared.LayerCounts.{LayerCounts}
use Rattle.section.specs.Section.{below, under, ring_entry, Right}
use Rattle.section.proofs.SectionLaws.{below_under}
use Rattle.section.specs.Contours.{Traced, contours, names_of, ends_of}
use Rattle.cut_points.specs.Points.{points_of}
use Rattle.section.proofs.LayerLaws.{trace_layer}
use Rattle.section.specs.Links.{trace_links}
use Rattle.section.proofs.LinkLaws.{table_trace, table_leads, link_rises}
use Rattle.cut.specs.Cut.{CutTables, lent, Lengths, lengths, cut_room_for, met_at, used, section, contours_of, tables_after_cut}
use Rattle.cut.specs.Outlines.{Long, Outlined, Traces}
use Rattle.cut.specs.SolidLaws.{crossing_climbs}

-- what a passed test of room gives
pub room_long : (n : ℕ) (l : Lengths) → cut_room_for n l ≡ true → Long n l
unfolding cut_room_for
room_long n l e =
    let p = and_parts _ _ e in
    let q = and_parts _ _ p.0 in
    let r = and_parts _ _ q.0 in
    record { names_long = leb-true _ _ r.0; points_long = leb-true _ _ r.1; ends_long = leb-true _ _ q.1; marks_long = leb-true _ _ p.1 }

pub used_fine : (n : ℕ) (s : Traced) (rs : List (List ℕ)) → s ≡ contours rs → verdict (used n s ∷ []) ≡ fine
unfolding met_at
used_fine n s rs e =
    ap (λ (u : Traced). verdict (used n u ∷ [])) e ∙ sym (verdict_one (used n (contours rs))) ∙ sym (nowhere_fine (used n (contours rs)) (λ i l. refl))

-- the marks table is as long as before
pub long_links : {n names points ends marks marks₀ : ℕ} → Long n (lengths names points ends marks₀) → marks ≡ marks₀ → Long n (lengths names points ends marks)
long_links l e = record { names_long = l.names_long; points_long = l.points_long; ends_long = l.ends_long; marks_long = omega (arith, l.marks_long) }

-- a right mesh is never refused with 16
pub section_fine : (m : PairedMesh) (h : ℤ) → Right m → verdict (used (length m.mesh.corners) (section m h) ∷ []) ≡ fine
section_fine m h right =
    let l = trace_layer (below m.mesh.coords h) m.mesh.corners m.pairing right.linked in
    used_fine (length m.mesh.corners) (section m h) l.0 l.1.0

-- a refusal other than 16 leaves the tables
pub layer_kept : (m : Mesh) (h : ℤ) (rs : List (List ℕ)) (t : CutTables) (r : Told) → numbered (16 ∷ []) r ≡ false → t ≡ tables_after_cut m h rs t (refuses r)
layer_kept m h rs t r e =
    let n = length m.corners in
    λ i. lent
    (after_kept (numbered (16 ∷ [])) (names_of rs) n 0 t.names r e i)
    (after_kept (numbered (16 ∷ [])) (points_of m h (names_of rs)) (2 * n) (pos 0) t.points r e i)
    (after_kept (numbered (16 ∷ [])) (ends_of rs) n 0 t.ends r e i)
    (after_kept (numbered (16 ∷ [])) (replicate n 0) n 0 t.marks r e i)

-- ---- the ring table of a height

module _ (m : PairedMesh) (h : ℤ) where
  abbrev corners : List ℕ
  corners = m.mesh.corners

  abbrev entry : ℕ → ℕ
  entry = ring_entry (under m.mesh.coords h 0) m.mesh.corners m.pairing

  module _ (right : Right m) (links links₀ : List ℕ)
      (is : links ≡ refill (length m.mesh.corners) (ring_entry (under m.mesh.coords h 0) m.mesh.corners m.pairing) links₀) where
    entry_at : (c : ℕ) → c < length corners → get_or links c 0 ≡ ring_entry (below m.mesh.coords h) corners m.pairing c
    entry_at c l =
        ap (λ (t : List ℕ). get_or t c 0) is ∙ refill_at (length corners) entry links₀ c 0 l
        ∙ ap (λ (p : ℕ → Bool). ring_entry p corners m.pairing c) (sym (below_under m.mesh.coords h))

    pub outlined : Outlined m.mesh h links
    outlined =
        record {
          few = right.named.whole.few;
          leads = table_leads (below m.mesh.coords h) corners m.pairing right.linked links entry_at;
          climbs = λ c x. crossing_climbs m h right c
              (record {
                below = x.below;
                upward = link_rises (below m.mesh.coords h) corners m.pairing right.linked links entry_at c x.below ∙ x.upward;
              });
        }

    pub section_is : trace_links (length m.mesh.corners) links ≡ section m h
    section_is = sym (table_trace (below m.mesh.coords h) corners m.pairing right.linked links entry_at)

    -- marks are zeroed over the ring table as over what stood there before
    over : overwrite (replicate (length corners) 0) links ≡ overwrite (replicate (length corners) 0) links₀
    over =
        let z : length {A = ℕ} (replicate (length corners) 0) ≡ length (tabulate (length corners) entry) =
        length-replicate {A = ℕ} (length corners) 0 ∙ sym (length_tabulate (length corners) entry) in
        ap (overwrite (replicate (length corners) 0)) is ∙ overwrite_twice (replicate (length corners) 0) (tabulate (length corners) entry) links₀ z

    -- the same contours, and marks zero over what stood there before the ring table
    pub sliced : {names : List ℕ} {points : List ℤ} {ends : List ℕ} {result : Result LayerCounts Refusal} {t' : CutTables}
        → Traces (trace_links (length m.mesh.corners) links) m.mesh h (lent names points ends links) result t'
        → Traces (section m h) m.mesh h (lent names points ends links₀) result t'
    unfolding after
    sliced {names} {points} {ends} {result} {t'} d =
        let r : Traces (section m h) m.mesh h (lent names points ends links) result t' =
        subst (λ (s : Traced). Traces s m.mesh h (lent names points ends links) result t') section_is d in
        let f = section_fine m h right in
        let g = r.answers ∙ sym (then_fine f) in
        let q = tables_after_cut m.mesh h (contours_of (section m h)) (lent names points ends links) fine in
        does_give refl f g (left_given r g ∙ (λ i. lent q.names q.points q.ends (over i)))

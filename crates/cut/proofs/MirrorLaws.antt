-- Cut of a mirror image (CUT-14): the same answer, names and ends, and the same points with x or y negated.
use Prim.Native.Nat.{ℕ, ◌+◌, ◌*◌, ◌/◌, ◌%◌, ◌<◌, ◌≤◌}
use Rattle.std.specs.Prelude.{◌≡◌, Bool, true, false, not, eqb, get_or, take, replicate, pos, neg_ℤ}
use Rattle.std.proofs.Math.Path.{refl, sym, ap}
use Rattle.std.proofs.Common.{◌∙◌, subst, ext_get_or, ne_eqb}
use Rattle.std.proofs.Math.Bool.{cond}
use mathlib.Core.List.{List, [], ◌∷◌}
use Rattle.std.proofs.Math.Logic.{⊎_elim}
use native.Mathlib.Omega.{arith}
use Rattle.std.proofs.Math.Dec.{ltb}
use Rattle.std.proofs.Math.ListN.{length, get_or-eq_default}
use Rattle.std.proofs.Math.IntN.{ℤ, nat_abs}
use Rattle.std.specs.Int.Signed.{lt_z}
use Rattle.laws.specs.Booleans.{split_lt}
use Rattle.laws.specs.Integers.{abs_neg}
use Rattle.laws.specs.Ring.{x, ◌⊕◌, ◌⊖◌, ◌⊗◌, ⊝, ring}
use Rattle.laws.specs.Tables.{tabulate, overwrite}
use Rattle.laws.specs.TableLaws.{length_tabulate, get_d_tabulate, overwrite_front, overwrite_twice}
use Rattle.mesh.specs.Corners.{largest, start_of, end_of, coord_of, z_of}
use Rattle.mesh.specs.Meshes.{PairedMesh}
use Rattle.mesh.specs.Operation.{gives, refuses, Finding, whole, ◌then◌, verdict, after}
use Rattle.mesh.specs.OperationLaws.{apart, same_values}
use Rattle.mesh.specs.Refusals.{Told, refusal}
use Rattle.mesh.specs.Tests.{sizes_fit, out_of_range, vertex, triangle, pairs}
use Rattle.section.specs.Section.{VertexSet, below}
use Rattle.section.specs.Contours.{names_of, trace, ends_of}
use Rattle.cut_points.specs.Points.{numerator, denominator, rounded, exact_over, exact_under, point_at, points_of}
use Rattle.cut_points.specs.PointLaws.{length_points_of, points_at_lem}
use Rattle.cut_points.proofs.RoundedLaws.{rounded_neg}
use Rattle.std.specs.Prelude.{Result, Ok, Err}
use Rattle.mesh.specs.declared.Refusal.{Refusal}
use Rattle.polygons.specs.declared.LayerCounts.{LayerCounts}
use Rattle.cut.specs.Cut.{CutTables, lent, lengths_of, room, used, section, contours_of, counts_of, tables_after_cut, cutting, tell_cut, Cuts}
use Rattle.cut.proofs.CutLaws.{cut_only}
use Rattle.cut.specs.Mirrors.{mirrored_at, mirrored_row, mirrored_mesh, mirrored_tables}

-- ---- rows

module _ (width axis : ℕ) where
  mirrored_zero : (i : ℕ) → mirrored_at width axis i (pos 0) ≡ pos 0
  mirrored_zero i = by (eqb (i % width) axis)
    where
      by : (b : Bool) → cond b (pos 0) (pos 0) ≡ pos 0
      by true = refl
      by false = refl

  pub mirrored_size : (i : ℕ) (u : ℤ) → nat_abs (mirrored_at width axis i u) ≡ nat_abs u
  mirrored_size i u = by (eqb (i % width) axis)
    where
      by : (b : Bool) → nat_abs (cond b (neg_ℤ u) u) ≡ nat_abs u
      by true = abs_neg u
      by false = refl

  module _ (row : List ℤ) where
    pub length_mirrored : length (mirrored_row width axis row) ≡ length row
    unfolding mirrored_row
    length_mirrored = length_tabulate (length row) (λ i. mirrored_at width axis i (get_or row i (pos 0)))

    -- each entry, and what stands for one past the end
    pub mirrored_entry : (i : ℕ) → get_or (mirrored_row width axis row) i (pos 0) ≡ mirrored_at width axis i (get_or row i (pos 0))
    unfolding mirrored_row
    mirrored_entry i =
        let entry : ℕ → ℤ = λ k. mirrored_at width axis k (get_or row k (pos 0)) in
        ⊎_elim
        (λ l. get_d_tabulate (length row) entry i (pos 0) l)
        (λ l. get_or-eq_default (mirrored_row width axis row) (pos 0) (omega (arith, length_mirrored))
        ∙ sym (ap (mirrored_at width axis i) (get_or-eq_default row (pos 0) l) ∙ mirrored_zero i))
        (split_lt i (length row))

    -- in front of a table that holds the row
    row_left : (table : List ℤ) (n : ℕ) → length row ≡ n
        → overwrite (mirrored_row width axis (take n (overwrite row table))) (overwrite row table) ≡ overwrite (mirrored_row width axis row) table
    row_left table n e =
        ap (λ (q : List ℤ). overwrite (mirrored_row width axis q) (overwrite row table)) (overwrite_front row table e)
        ∙ overwrite_twice (mirrored_row width axis row) row table length_mirrored

-- ---- the mesh

module _ (axis : ℕ) (coords : List ℤ) where
  abbrev image : List ℤ
  image = mirrored_row 3 axis coords

  coord_mirrored : (a v : ℕ) → a ≤ 2 → coord_of image a v ≡ cond (eqb a axis) (neg_ℤ (coord_of coords a v)) (coord_of coords a v)
  coord_mirrored a v h =
      let e : (3 * v + a) % 3 ≡ a = omega arith in
      mirrored_entry 3 axis coords (3 * v + a) ∙ ap (λ (k : ℕ). cond (eqb k axis) (neg_ℤ (coord_of coords a v)) (coord_of coords a v)) e

  module _ (low : axis ≤ 1) where
    z_mirrored : (v : ℕ) → z_of image v ≡ z_of coords v
    z_mirrored v = coord_mirrored 2 v (omega arith) ∙ ap (λ (b : Bool). cond b (neg_ℤ (z_of coords v)) (z_of coords v)) (ne_eqb 2 axis (λ e. omega arith))

    below_mirrored : (h : ℤ) → below image h ≡ below coords h
    unfolding below
    below_mirrored h = λ i v. lt_z (z_mirrored v i) h

-- ---- points

module _ (u0 u1 z0 z1 h : ℤ) where
  numerator_neg : numerator (neg_ℤ u0) (neg_ℤ u1) z0 z1 h ≡ neg_ℤ (numerator u0 u1 z0 z1 h)
  unfolding numerator
  numerator_neg =
      ring (u0 ∷ u1 ∷ z0 ∷ z1 ∷ h ∷ []) (⊝ (x 0) ⊗ (x 3 ⊖ x 2) ⊕ (⊝ (x 1) ⊖ ⊝ (x 0)) ⊗ (x 4 ⊖ x 2))
      (⊝ (x 0 ⊗ (x 3 ⊖ x 2) ⊕ (x 1 ⊖ x 0) ⊗ (x 4 ⊖ x 2))) tt

  -- an edge with both ends negated, or with neither, has its point negated, or as it was
  ends_negated : (b : Bool) (d : ℤ)
      → rounded (numerator (cond b (neg_ℤ u0) u0) (cond b (neg_ℤ u1) u1) z0 z1 h) d
      ≡ cond b (neg_ℤ (rounded (numerator u0 u1 z0 z1 h) d)) (rounded (numerator u0 u1 z0 z1 h) d)
  ends_negated true d = ap (λ (n : ℤ). rounded n d) numerator_neg ∙ rounded_neg (numerator u0 u1 z0 z1 h) d
  ends_negated false d = refl

module _ (axis : ℕ) (low : axis ≤ 1) (m : PairedMesh) (h : ℤ) where
  abbrev mirror : PairedMesh
  mirror = mirrored_mesh axis m

  point_mirrored : (a c : ℕ) → a ≤ 1 → point_at mirror.mesh h a c ≡ mirrored_at 2 axis a (point_at m.mesh h a c)
  unfolding point_at exact_over exact_under denominator
  point_mirrored a c l =
      let coords = m.mesh.coords in
      let u = start_of m.mesh.corners c in
      let v = end_of m.mesh.corners c in
      let p = point_at m.mesh h a c in
      let e : a ≡ a % 2 = omega arith in
      (λ i. rounded
      (numerator (coord_mirrored axis coords a u (omega arith) i) (coord_mirrored axis coords a v (omega arith) i)
      (z_mirrored axis coords low u i) (z_mirrored axis coords low v i) h)
      (denominator (z_mirrored axis coords low u i) (z_mirrored axis coords low v i)))
      ∙ ends_negated (coord_of coords a u) (coord_of coords a v) (z_of coords u) (z_of coords v) h (eqb a axis) (denominator (z_of coords u) (z_of coords v))
      ∙ ap (λ (k : ℕ). cond (eqb k axis) (neg_ℤ p) p) e

  -- the points of any names
  pub points_mirrored : (names : List ℕ) → points_of mirror.mesh h names ≡ mirrored_row 2 axis (points_of m.mesh h names)
  points_mirrored names =
      let points = points_of m.mesh h names in
      let n = length_points_of m.mesh h names in
      let n' = length_points_of mirror.mesh h names in
      ext_get_or (pos 0) (points_of mirror.mesh h names) (mirrored_row 2 axis points) (n' ∙ sym n ∙ sym (length_mirrored 2 axis points))
      (λ j l. at j (omega (arith, n')) ∙ sym (mirrored_entry 2 axis points j))
    where
      at : (j : ℕ) → j / 2 < length names
          → get_or (points_of mirror.mesh h names) j (pos 0) ≡ mirrored_at 2 axis j (get_or (points_of m.mesh h names) j (pos 0))
      at j l =
          let i = j / 2 in
          let a = j % 2 in
          let k : a ≤ 1 = omega arith in
          let e : 2 * i + a ≡ j = omega arith in
          let f : a % 2 ≡ (2 * i + a) % 2 = omega arith in
          let p = point_at m.mesh h a (get_or names i 0) in
          subst (λ (q : ℕ). get_or (points_of mirror.mesh h names) q (pos 0) ≡ mirrored_at 2 axis q (get_or (points_of m.mesh h names) q (pos 0))) e
          (points_at_lem mirror.mesh h names i l a k
          ∙ point_mirrored a (get_or names i 0) k
          ∙ ap (λ (q : ℕ). cond (eqb q axis) (neg_ℤ p) p) f
          ∙ sym (ap (mirrored_at 2 axis (2 * i + a)) (points_at_lem m.mesh h names i l a k)))

  -- ---- Cut

  -- the section goes by z alone
  pub section_mirrored : section mirror h ≡ section m h
  section_mirrored = ap (λ (passed : VertexSet). trace passed m.mesh.corners m.pairing) (below_mirrored axis m.mesh.coords low h)

  -- so do the tests by lengths, corners and pairing; and a coordinate is in range if its negation is
  range_mirrored : out_of_range mirror.mesh.coords ≡ out_of_range m.mesh.coords
  unfolding out_of_range
  range_mirrored = λ i k. ltb largest ((ap nat_abs (mirrored_entry 3 axis m.mesh.coords k) ∙ mirrored_size 3 axis k (get_or m.mesh.coords k (pos 0))) i)

  refusals_mirrored : (t : CutTables) → (cutting (mirror, h, t)).refusals ≡ (cutting (m, h, t)).refusals
  refusals_mirrored t =
      let corners = m.mesh.corners in
      let n = length_mirrored 3 axis m.mesh.coords in
      λ i. whole (refusal 1) (not (sizes_fit (n i) (length corners)))
      ∷ room (length corners) (lengths_of t)
      ∷ record { tells = refusal 2; places = n i; fits = range_mirrored i }
      ∷ vertex (n i / 3) corners
      ∷ triangle corners
      ∷ pairs corners m.pairing
      ∷ used (length corners) (section_mirrored i)
      ∷ []

  verdict_mirrored : (t : CutTables) → verdict (cutting (mirror, h, t)).refusals ≡ verdict (cutting (m, h, t)).refusals
  verdict_mirrored t = ap verdict (refusals_mirrored t)

  -- what it leaves after each answer
  left_mirrored : (rs : List (List ℕ)) (t : CutTables) (answer : Result LayerCounts Refusal) (f : Finding Told)
      → tell_cut answer ≡ (f then gives (counts_of rs))
      → mirrored_tables axis answer (tables_after_cut m.mesh h rs t f) ≡ tables_after_cut mirror.mesh h rs t f
  unfolding mirrored_row tabulate overwrite after ◌then◌
  left_mirrored rs t (Ok v) (gives tt) e =
      let names = names_of rs in
      let points = points_of m.mesh h names in
      let n : length points ≡ 2 * v.points = length_points_of m.mesh h names ∙ ap (λ (g : ℕ × ℕ). 2 * g.1) (sym (same_values e)) in
      let marks = overwrite (replicate (length m.mesh.corners) 0) t.marks in
      ap (λ (q : List ℤ). lent (overwrite names t.names) q (overwrite (ends_of rs) t.ends) marks)
      (row_left 2 axis points t.points (2 * v.points) n ∙ ap (λ (q : List ℤ). overwrite q t.points) (sym (points_mirrored names)))
  left_mirrored rs t (Ok v) (refuses r) e = apart (sym e)
  left_mirrored rs t (Err r) (gives tt) e = apart e
  left_mirrored rs t (Err q) (refuses r) e = refl

  -- Cut of the mirror image, at the same height and with the same tables lent
  pub mirror_cut : {t t' : CutTables} {answer : Result LayerCounts Refusal} → Cuts m h t answer t' → Cuts mirror h t answer (mirrored_tables axis answer t')
  mirror_cut {t} {t'} {answer} c =
      record {
        answers = c.answers ∙ sym (λ i. verdict_mirrored t i then gives (counts_of (contours_of (section_mirrored i))));
        leaves =
            ap (mirrored_tables axis answer) c.leaves
            ∙ left_mirrored (contours_of (section m h)) t answer (verdict (cutting (m, h, t)).refusals) c.answers
            ∙ sym (λ i. tables_after_cut mirror.mesh h (contours_of (section_mirrored i)) t (verdict_mirrored t i));
      }

  -- which is its only outcome
  pub mirror_only : {t t' u' : CutTables} {answer other : Result LayerCounts Refusal} → Cuts m h t answer t' → Cuts mirror h t other u'
      → (other ≡ answer) × (u' ≡ mirrored_tables axis answer t')
  mirror_only c d = cut_only d (mirror_cut c)

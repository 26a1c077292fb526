-- The layer of a ring table: what tracing and its points leave.
use Prim.Native.Nat.{ℕ, ◌*◌, ◌<◌, ◌≤◌}
use mathlib.Core.Path.{◌≡◌, refl, sym, ap, ◌∙◌, subst}
use mathlib.Core.List.{List}
use native.Mathlib.Omega.{arith}
use lib.ListN.{length, get_or, take}
use lib.IntN.{ℤ}
use Rattle.laws.specs.Tables.{overwrite}
use Rattle.laws.specs.TableLaws.{length_overwrite, overwrite_at, overwrite_front}
use Rattle.mesh.specs.Meshes.{Mesh}
use Rattle.mesh.specs.Operation.{gives, fine, after}
use Rattle.mesh.specs.OperationLaws.{does_give}
use Rattle.section.specs.Contours.{Traced, contours, names_of, ends_of}
use Rattle.section.specs.Links.{has_link, link_of, trace_links}
use Rattle.section.specs.OrbitLaws.{at_member}
use Rattle.section.proofs.LayerLaws.{Begun, trace_all, begun_few}
use Rattle.cut_points.specs.Points.{points_of}
use Rattle.cut_points.specs.Climbs.{Climbs}
use Rattle.cut_trace.specs.Traces.{trace_answer, zeroed, names_after, ends_after}
use Rattle.cut_trace.specs.Walks.{Traceable}
use Rattle.cut_trace.specs.declared.UsedCrossing.{UsedCrossing}
use Rattle.std.specs.Prelude.{Result, Ok, Err}
use Rattle.polygons.specs.declared.LayerCounts.{LayerCounts}
use Rattle.cut.specs.Cut.{CutTables, lent, lengths_of, contours_of, tables_after_cut}
use Rattle.cut.specs.Outlines.{Long, Outlined, Traces}
use Rattle.cut.specs.OutlineLaws.{used_fine}

module _ (m : Mesh) (h : ℤ) (tables : CutTables) (o : Outlined m h tables.marks) (l : Long (length m.corners) (lengths_of tables)) where
  abbrev corners : List ℕ
  corners = m.corners

  abbrev marks : List ℕ
  marks = tables.marks

  abbrev n : ℕ
  n = length m.corners

  abbrev t : Traced
  t = trace_links (length corners) marks

  pub traceable : Traceable (length m.corners) tables.marks tables.names tables.ends
  traceable = record { leads = o.leads; few = o.few; links_room = l.marks_long; names_room = l.names_long; ends_room = l.ends_long }

  all : (rs : List (List ℕ)) × Begun (has_link marks) (link_of marks) (length corners) o.leads (length corners) rs
  all = trace_all (has_link marks) (link_of marks) (length corners) o.leads

  abbrev rs : List (List ℕ)
  rs = all.0

  is : trace_links (length corners) marks ≡ contours rs
  unfolding trace_links
  is = all.1.is

  names_few : length (names_of rs) ≤ length corners
  names_few = begun_few (has_link marks) (link_of marks) n o.leads n rs all.1

  -- what tracing has left
  module _ {r : Result LayerCounts UsedCrossing} {names₁ ends₁ marks₁ : List ℕ}
      (left : (r ≡ trace_answer t) × ((names₁ ≡ names_after t n tables.names) × ((ends₁ ≡ ends_after t n tables.ends) × (marks₁ ≡ zeroed n marks)))) where
    names_is : names₁ ≡ overwrite (names_of rs) tables.names
    names_is = left.1.0 ∙ (unfold names_after in (ap (λ (u : Traced). names_after u n tables.names) is))

    ends_is : ends₁ ≡ overwrite (ends_of rs) tables.ends
    ends_is = left.1.1.0 ∙ (unfold ends_after in (ap (λ (u : Traced). ends_after u n tables.ends) is))

    -- the counts of the contours
    abbrev all_counted : LayerCounts
    all_counted = record { contours = length rs; points = length (names_of rs) }

    found_is : r ≡ Ok all_counted
    found_is = left.0 ∙ (unfold trace_answer in (ap trace_answer is))

    pub never_stuck : {met : UsedCrossing} → r ≡ Err met → ⊥
    never_stuck e = absurd (let z : ◌≡◌ {A = ℕ} 0 1 = apart (sym found_is ∙ e) in omega arith)
      where
        apart : {v : LayerCounts} {met : UsedCrossing} → ◌≡◌ {A = Result LayerCounts UsedCrossing} (Ok v) (Err met) → ◌≡◌ {A = ℕ} 0 1
        apart e = cc

    module _ {v : LayerCounts} (e : r ≡ Ok v) {h' : ℤ} (eh : h' ≡ h) where
      abbrev k : ℕ
      k = v.points

      counts : v ≡ all_counted
      counts = the_same (sym e ∙ found_is)
        where
          the_same : {a b : LayerCounts} → ◌≡◌ {A = Result LayerCounts UsedCrossing} (Ok a) (Ok b) → a ≡ b
          the_same e = cc

      few : k ≡ length (names_of rs)
      few = ap (λ (w : LayerCounts). w.points) counts

      front : take k names₁ ≡ names_of rs
      front = ap (take k) names_is ∙ overwrite_front (names_of rs) tables.names (sym few)

      -- what the points ask, of the height as the code holds it
      pub points_asked : ((k ≤ length names₁) × (2 * k ≤ length tables.points)) × ((i : ℕ) → i < k → Climbs m h' (get_or names₁ i 0))
      points_asked = (
        (
          omega (
            arith,
            few,
            names_few,
            l.names_long,
            ap length names_is,
            length_overwrite (names_of rs) tables.names
                (omega (arith, names_few, l.names_long)),
          ),
          omega (arith, few, names_few, l.points_long),
        ),
        climbing,
      )
        where
          climbing : (i : ℕ) → i < k → Climbs m h' (get_or names₁ i 0)
          climbing i q =
              let b : i < length (names_of rs) = omega (arith, few) in
              subst (λ (z : ℤ). Climbs m z (get_or names₁ i 0)) (sym eh)
              (subst (Climbs m h) (sym (ap (λ (u : List ℕ). get_or u i 0) names_is ∙ overwrite_at (names_of rs) tables.names i 0 b))
              (o.climbs (get_or (names_of rs) i 0) (all.1.only (get_or (names_of rs) i 0) (at_member (names_of rs) i b))))

      pub traces : {points₁ : List ℤ} → points₁ ≡ overwrite (points_of m h' (take k names₁)) tables.points
          → Traces t m h tables (Ok v) (lent names₁ points₁ ends₁ marks₁)
      unfolding after
      traces {points₁} ep =
          let c : contours_of t ≡ rs = ap contours_of is in
          let q : CutTables = lent (overwrite (names_of rs) tables.names) (overwrite (points_of m h (names_of rs)) tables.points)
          (overwrite (ends_of rs) tables.ends) (zeroed n marks) in
          let e : lent names₁ points₁ ends₁ marks₁ ≡ q =
          λ i. lent (names_is i) ((ep ∙ (λ w. overwrite (points_of m (eh w) (front w)) tables.points)) i) (ends_is i) (left.1.1.1 i) in
          does_give refl (used_fine n t rs is)
          ((λ i. gives ((counts i).contours, (counts i).points)) ∙ (λ i. gives (length (sym c i), length (names_of (sym c i)))))
          (e ∙ (λ i. tables_after_cut m h (sym c i) tables fine))

-- What the layer of a ring table asks, and what it leaves.
use Rattle.std.specs.Prelude.{ℕ, ◌*◌, ◌≤◌, List, [], ◌∷◌, length, ℤ, Result}
use Rattle.mesh.specs.Meshes.{Mesh}
use Rattle.mesh.specs.Operation.{Operation, Does}
use Rattle.mesh.specs.Refusals.{Told}
use Rattle.mesh.specs.declared.Refusal.{Refusal}
use Rattle.polygons.specs.declared.LayerCounts.{LayerCounts}
use Rattle.section.specs.Section.{Among}
use Rattle.section.specs.Contours.{Traced}
use Rattle.section.specs.Links.{has_link, link_of}
use Rattle.section.specs.Rings.{Leads}
use Rattle.cut_points.specs.Climbs.{Climbs}
use Rattle.cut.specs.Cut.{CutTables, Lengths, used, contours_of, counts_of, tables_after_cut, tell_cut}
use Rattle.mesh.specs.Corners.{most_corners}

-- what 9 establishes: the tables have room for n corners
pub record Long (n : ℕ) (l : Lengths) : Type 0 where
  pub names_long : n ≤ l.names
  pub points_long : 2 * n ≤ l.points
  pub ends_long : n ≤ l.ends
  pub marks_long : n ≤ l.marks

-- the links lead round rings of edges that go up through h
pub record Outlined (m : Mesh) (h : ℤ) (links : List ℕ) : Type 0 where
  pub few : length m.corners ≤ most_corners
  pub leads : Leads (has_link links) (link_of links) (length m.corners)
  pub climbs : (c : ℕ) → Among (length m.corners) (has_link links) c → Climbs m h c

-- Cut where only 16 is left to test
abbrev pub tracing : Traced × Mesh × ℤ × CutTables → Operation Told (ℕ × ℕ) CutTables
tracing = λ (s, m, h, t). record {
  refusals = used (length m.corners) s ∷ [];
  values = counts_of (contours_of s);
  leaves = tables_after_cut m h (contours_of s) t;
}

abbrev pub Traces : Traced → Mesh → ℤ → CutTables → Result LayerCounts Refusal → CutTables → Type 0
Traces s m h t result t' = Does tracing tell_cut (s, m, h, t) result t'

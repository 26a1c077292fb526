-- What the steps of a listing ask: contours that can be summed, tables that have room for a layer, a mesh and heights that can be listed, an output that has
-- room for every line.
use Rattle.std.specs.Prelude.{ℕ, ◌≤◌, ◌<◌, List, length, ℤ}
use Rattle.mesh.specs.Meshes.{PairedMesh}
use Rattle.section.specs.Section.{Right}
use Rattle.contours.specs.Areas.{point_count, sum_of, area_of}
use Rattle.contours.specs.Contours.{contour_of}
use Rattle.contours.specs.Runs.{PointRun}
use Rattle.cut.specs.Cut.{Lengths}
use Rattle.cut.specs.Outlines.{Long}
use Rattle.all_heights.specs.Heights.{heights_taken}
use Rattle.list_decimals.specs.Texts.{PutsText}
use Rattle.list_lines.specs.Limits.{held_heights, held_entries, most_output}

-- ---- how many bytes a first line, another line and the line of a refusal take at most

abbrev pub most_first : ℕ
most_first = 28

abbrev pub most_line : ℕ
most_line = 92

abbrev pub most_refused : ℕ
most_refused = 50

-- ---- one layer

-- the sum of the areas of the first j contours that points and ends hold
unfoldable pub areas_in : List ℤ → List ℕ → ℕ → ℤ
areas_in points ends j = sum_of j (λ i. area_of (contour_of points ends i))

-- these contours are few, and each is a run of few points in range
pub record Summable (points : List ℤ) (ends : List ℕ) (j : ℕ) : Type 0 where
  pub few : j ≤ held_entries
  pub each : (i : ℕ) → i < j → PointRun (contour_of points ends i)
  pub short : (i : ℕ) → i < j → point_count (contour_of points ends i) ≤ held_entries

-- a mesh of n corners is small, and tables of these lengths have room for its layers
pub record Workable (n : ℕ) (l : Lengths) : Type 0 where
  pub few : n ≤ held_entries
  pub long : Long n l

-- a line is written, and is not long
pub record PutsLine (output : List ℕ) (at : ℕ) (line : List ℕ) (end : ℕ) (output' : List ℕ) : Type 0 where
  pub puts : PutsText output at line end output'
  pub short : length line ≤ most_line

-- ---- all layers

-- a mesh that the tests of Cut pass, and heights of which not too many are taken
pub record Listable (m : PairedMesh) (heights : List ℤ) : Type 0 where
  pub right : Right m
  pub few : length (heights_taken m.mesh.coords heights) ≤ held_heights

-- the first line at most stands before this position, in an output that has room for all
pub record FirstLine (output : List ℕ) (at : ℕ) : Type 0 where
  pub first : at ≤ most_first
  pub long : most_output ≤ length output

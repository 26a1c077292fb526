-- What one contour more makes of depths and parents, and what the functions that find them are handed.
use Rattle.std.specs.Prelude.{ℕ, ◌+◌, ◌≤◌, ◌<◌, ◌≡◌, Bool, true, cond, List, ◌⊎◌, ltb, eqb, length, get_or, set, ℤ}
use Rattle.laws.specs.Tables.{refill}
use Rattle.polygons.specs.Flat.{Point, FlatLayer, points_in, polygons_of}
use Rattle.polygons.specs.TestedLayers.{LayerTested}
use Rattle.contours.specs.Contours.{contour_of}
use Rattle.inside.specs.Extents.{Spans}
use Rattle.inside.specs.declared.ContourExtent.{ContourExtent}
use Rattle.nesting.specs.Nests.{held_by, size_of, no_parent}
use Rattle.nesting.specs.Nesting.{NestTables, nest_tables}

-- ---- one contour

-- a contour of this size is to be the parent instead of q
unfoldable pub closer : List (List Point) → ℕ → ℕ → Bool
closer cs size q = cond (eqb q no_parent) true (ltb size (size_of cs q))

-- a depth d of contour i, and a parent q, after contour j
unfoldable pub next_depth : List (List Point) → ℕ → ℕ → ℕ → ℕ
next_depth cs j i d = cond (held_by cs i j) (d + 1) d

unfoldable pub next_parent : List (List Point) → ℕ → ℕ → ℕ → ℕ
next_parent cs j i q = cond (held_by cs i j) (cond (closer cs (size_of cs j) q) j q) q

-- ---- the tables

-- after contour j, the entries of contour i
unfoldable pub met_by : List (List Point) → ℕ → ℕ → NestTables → NestTables
met_by cs j i u =
    nest_tables (set u.depths i (next_depth cs j i (get_or u.depths i 0))) (set u.parents i (next_parent cs j i (get_or u.parents i 0)))

-- after contour j, the entries of the first m contours
unfoldable pub met_to : List (List Point) → ℕ → ℕ → NestTables → NestTables
met_to cs j m u =
    nest_tables (refill m (λ i. next_depth cs j i (get_or u.depths i 0)) u.depths)
    (refill m (λ i. next_parent cs j i (get_or u.parents i 0)) u.parents)

-- and of all
abbrev pub all_met_by : List (List Point) → ℕ → NestTables → NestTables
all_met_by cs j u = met_to cs j (length cs) u

-- ---- what functions are handed

-- a parent so far: none, or one of the first m contours
abbrev pub ParentTo : ℕ → ℕ → Type 0
ParentTo m q = (q ≡ no_parent) ⊎ (q < m)

-- the tables have entries for n contours: after the first j of them no depth is above j, and parents are below j
pub record NestEntries (n j : ℕ) (u : NestTables) : Type 0 where
  pub depths_long : n ≤ length u.depths
  pub parents_long : n ≤ length u.parents
  pub shallow : (i : ℕ) → i < n → get_or u.depths i 0 ≤ j
  pub named : (i : ℕ) → i < n → ParentTo j (get_or u.parents i 0)

-- contour j of a layer that was tested, with its extent and its absolute area
pub record Holder (t : FlatLayer) (contour : List ℤ) (e : ContourExtent) (size j : ℕ) : Type 0 where
  pub layer : LayerTested t
  pub there : j < length t.ends
  pub contour_is : contour ≡ contour_of t.points t.ends j
  pub spans : Spans (points_in contour) e
  pub size_is : size ≡ size_of (polygons_of t) j

-- contour j of that size, and whether it holds contour i, whose entries are those of the contours before j
pub record Meeting (t : FlatLayer) (size j i : ℕ) (inside : Bool) (u : NestTables) : Type 0 where
  pub layer : LayerTested t
  pub there : j < length t.ends
  pub size_is : size ≡ size_of (polygons_of t) j
  pub inside_is : inside ≡ held_by (polygons_of t) i j
  pub depths_long : i < length u.depths
  pub parents_long : i < length u.parents
  pub shallow : get_or u.depths i 0 ≤ j
  pub named : ParentTo (length t.ends) (get_or u.parents i 0)

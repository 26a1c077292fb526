-- The rules of the layer file for layers as data (FILE-2 to FILE-5, FILE-7).
-- `LayerRuleLaws` proves that these are exactly the layers that may be written.
use Rattle.std.specs.Prelude.{◌≤◌, List, [], ◌∷◌, length, ℤ, nat_abs, ◌<ℤ◌}
use Rattle.mesh.specs.Corners.{largest}
pub use Rattle.polygons.specs.Flat.{point_total}
use Rattle.file_formats.specs.Formats.{Each}
use Rattle.file_formats.specs.Numbers.{Word}
use Rattle.file_formats.specs.LayerFile.{Point, Layer, most_layers, most_points, fewest_points, lowest}

-- a point lies in coordinate range (FILE-7)
abbrev pub PointRules : Point → Type 0
PointRules p = (nat_abs p.x ≤ largest) × (nat_abs p.y ≤ largest)

-- a contour has at least two points (FILE-4)
abbrev pub ContourRules : List Point → Type 0
ContourRules c = (fewest_points ≤ length c) × Each PointRules c

-- a layer's height has 32 bits, and it has no more points in all than a layer may have (FILE-5)
pub record LayerRules (l : Layer) : Type 0 where
  pub height_fits : Word l.height
  pub few : point_total l.contours ≤ most_points
  pub each : Each ContourRules l.contours

-- heights rise strictly, from above low (FILE-3)
abbrev pub RisingLayers : ℤ → List Layer → Type 0
RisingLayers low [] = Unit {0}
RisingLayers low (l ∷ ls) = (low <ℤ l.height) × RisingLayers l.height ls

-- a file's layers: not too many (FILE-2), and their heights rise (FILE-3)
pub record Rules (ls : List Layer) : Type 0 where
  pub few : length ls ≤ most_layers
  pub rises : RisingLayers lowest ls
  pub each : Each LayerRules ls

-- What cleaning a layer asks of its tables, and what it leaves in those that it fills.
use Rattle.std.specs.Prelude.{ℕ, ◌≤◌, ◌≡◌, List, length, take}
use Rattle.polygons.specs.Flat.{Point, point_total, FlatLayer, flat, polygons_of}
pub use Rattle.polygons.specs.Flat.{holding, layer_front}
use Rattle.file_write.specs.LayerTables.{EndsWithin}
use Rattle.cleaning.specs.Cleaning.{cleaned}
use Rattle.cleaning.specs.declared.Profile.{Profile}
use Rattle.cleaning.specs.declared.Profile.TheVariants.{Full, Clean}

-- a layer, and two tables that are not shorter than its own
pub record CleanTables (t u : FlatLayer) : Type 0 where
  pub rise : EndsWithin (length t.points) 0 t.ends
  pub points_room : length t.points ≤ length u.points
  pub ends_room : length t.ends ≤ length u.ends

-- they stand there, and how many contours and points they are
pub record Fills (cs : List (List Point)) (t : FlatLayer) (contours points : ℕ) (t' : FlatLayer) : Type 0 where
  pub contours_are : contours ≡ length cs
  pub points_are : points ≡ point_total cs
  pub holds : t' ≡ holding cs t

-- a layer of j contours brought into a profile, where it has r
abbrev pub LeftIn : Profile → FlatLayer → ℕ → ℕ → FlatLayer → Type 0
LeftIn Full t j r t' = (r ≡ j) × (t' ≡ t)
LeftIn Clean t j r t' =
    let cs = cleaned (polygons_of (flat t.points (take j t.ends))) in
    (r ≡ length cs) × (t' ≡ holding cs t)

-- The two profiles: a layer as it was cut, and cleaned (PROFILE-1, PROFILE-2).
use Rattle.std.specs.Prelude.{Bool, true, List}
use Rattle.polygons.specs.Flat.{Point}
use Rattle.cleaning.specs.Cleaning.{cleaned, is_clean}
use Rattle.cleaning.specs.declared.Profile.{Profile}
use Rattle.cleaning.specs.declared.Profile.TheVariants.{Full, Clean}

-- the contours of a layer in a profile
abbrev pub profiled : Profile → List (List Point) → List (List Point)
profiled Full cs = cs
profiled Clean cs = cleaned cs

-- a contour may stand in a file of the profile
abbrev pub fits_in : Profile → List Point → Bool
fits_in Full c = true
fits_in Clean c = is_clean c

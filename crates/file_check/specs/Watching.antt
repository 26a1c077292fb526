-- What is kept in mind of the points of a contour, by profile: only the clean one asks.
use Rattle.std.specs.Prelude.{Bool, true}
use Rattle.polygons.specs.Flat.{Point}
use Rattle.cleaning.specs.declared.Profile.{Profile}
use Rattle.cleaning.specs.declared.Profile.TheVariants.{Full, Clean}
use Rattle.clean_test.specs.Seeing.{seeing, seen_clean}
use Rattle.clean_test.specs.declared.ContourSeen.{ContourSeen}

-- after one more point q, where p came before
abbrev pub seeing_in : Profile → ContourSeen → Point → Point → ContourSeen
seeing_in Full s p q = s
seeing_in Clean s p q = seeing s p q

-- after the last point p: the contour may stand in a file of the profile
abbrev pub seen_fits : Profile → ContourSeen → Point → Bool
seen_fits Full s p = true
seen_fits Clean s p = seen_clean s p

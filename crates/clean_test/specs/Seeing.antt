-- Whether a contour is clean, point by point: what is kept in mind after each (`Seen`, src/lib.rt).
-- `SeeingLaws` proves that this finds `is_clean`.
use Rattle.std.specs.Prelude.{ℕ, Bool, true, not, cond, ◌&&◌, ◌||◌, List, [], ◌∷◌, eqb, pos}
use Rattle.polygons.specs.Flat.{Point, point}
use Rattle.cleaning.specs.Cleaning.{same_point, fewest_different}
use Rattle.clean_test.specs.declared.ContourSeen.{ContourSeen}

abbrev pub seen : ℕ → Point → Point → Bool → ContourSeen
seen n p q b = record { different = n; x = p.x; y = p.y; u = q.x; v = q.y; apart = b }

-- the first point, and the latest that differed from all before it
abbrev pub first_seen : ContourSeen → Point
first_seen s = point s.x s.y

abbrev pub latest_seen : ContourSeen → Point
latest_seen s = point s.u s.v

-- before the first point
abbrev pub unseen : ContourSeen
unseen = seen 0 (point (pos 0) (pos 0)) (point (pos 0) (pos 0)) true

-- nothing is learned from q but whether it equals the one before: three are different, or it is known
abbrev pub is_known : ContourSeen → Point → Bool
is_known s q = eqb s.different fewest_different || (same_point (first_seen s) q || same_point (latest_seen s) q)

-- one more than one or two
abbrev pub one_more : ℕ → ℕ
one_more n = cond (eqb n 1) 2 3

-- after one more point q, where p came before
unfoldable pub seeing : ContourSeen → Point → Point → ContourSeen
seeing s p q =
    let apart = s.apart && not (same_point p q) in
    cond (eqb s.different 0) (seen 1 q q true)
    (cond (is_known s q) (seen s.different (first_seen s) (latest_seen s) apart) (seen (one_more s.different) (first_seen s) q apart))

-- after the last point p
unfoldable pub seen_clean : ContourSeen → Point → Bool
seen_clean s p = eqb s.different fewest_different && (s.apart && not (same_point (first_seen s) p))

-- after p and the points that follow
unfoldable pub seen_all : ContourSeen → Point → List Point → Bool
seen_all s p [] = seen_clean s p
seen_all s p (q ∷ c) = seen_all (seeing s p q) q c

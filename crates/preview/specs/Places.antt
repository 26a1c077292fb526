-- What the functions inside Preview say: the contour that has a call, and calls written one after another.
use Rattle.std.specs.Prelude.{ℕ, zero, suc, ◌+◌, ◌-◌, ◌*◌, ◌≤◌, ◌<◌, ◌≡◌, true, cond, List, [], ◌∷◌, ◌++◌, eqb, length, get_or, set, ℤ, pos, nat_abs}
use Rattle.mesh.specs.Corners.{largest}
use Rattle.polygons.specs.Flat.{Point, point, end_before}
use Rattle.preview_floats.specs.declared.Origin.{Origin}
use Rattle.preview_floats.specs.DrawnPoints.{whole_origin}
use Rattle.preview.specs.declared.PathCall.{PathCall}
use Rattle.preview.specs.declared.PathCall.TheVariants.{Move, Line, Close}
use Rattle.preview.specs.Calls.{move, line, drawn_call}
use Rattle.preview.specs.Preview.{CallTables, call_tables}

-- contour j has call number k: it lies from the contour's start up to its end, counted with the j closes before it; past all contours j is their number
pub record Belongs (ends : List ℕ) (k j : ℕ) : Type 0 where
  pub upto : j ≤ length ends
  pub from : end_before 0 ends j + j ≤ k
  pub to : j < length ends → k ≤ get_or ends j 0 + j

-- point i of a table of points, asked where it is one
abbrev pub table_point : List ℤ → ℕ → Point
table_point points i = point (get_or points (2 * i) (pos 0)) (get_or points (2 * i + 1) (pos 0))

-- the call at point i, or at the end e, of a contour from s up to e
unfoldable pub call_here : Origin → List ℤ → ℕ → ℕ → ℕ → PathCall
call_here o points s e i =
    cond (eqb i e) Close (cond (eqb i s) (drawn_call o (move (table_point points i))) (drawn_call o (line (table_point points i))))

-- ---- calls written one after another

-- the lines to n points of a table, from point i on
unfoldable pub lines_from : Origin → List ℤ → ℕ → ℕ → List PathCall
lines_from o points i zero = []
lines_from o points i (suc n) = drawn_call o (line (table_point points i)) ∷ lines_from o points (suc i) n

-- those from point i up to e, and a close
abbrev pub rest_from : Origin → List ℤ → ℕ → ℕ → List PathCall
rest_from o points i e = lines_from o points i (e - i) ++ (Close ∷ [])

-- the calls of a contour from s up to e that are left at point i, or at its end: a move where i is its start, lines, and a close
unfoldable pub calls_left : Origin → List ℤ → ℕ → ℕ → ℕ → List PathCall
calls_left o points s e i = cond (eqb i s) (drawn_call o (move (table_point points i)) ∷ rest_from o points (suc i) e) (rest_from o points i e)

-- a call as the n-th
abbrev pub put_call : ℕ → PathCall → CallTables → CallTables
put_call n (Move x y) u = call_tables (set u.kinds n 0) (set (set u.floats (2 * n) x) (2 * n + 1) y)
put_call n (Line x y) u = call_tables (set u.kinds n 1) (set (set u.floats (2 * n) x) (2 * n + 1) y)
put_call n Close u = call_tables (set u.kinds n 2) u.floats

-- calls from the n-th on
unfoldable pub put_calls : ℕ → List PathCall → CallTables → CallTables
put_calls n [] u = u
put_calls n (c ∷ calls) u = put_calls (suc n) calls (put_call n c u)

-- the tables hold calls n up to `last`
pub record Room (u : CallTables) (n last : ℕ) : Type 0 where
  pub order : n ≤ last
  pub kinds_room : last ≤ length u.kinds
  pub floats_room : 2 * last ≤ length u.floats

-- so many points stand in a table, of coordinate range, and the origin is whole: they can be drawn
pub record Points (points : List ℤ) (o : Origin) (n : ℕ) : Type 0 where
  pub there : 2 * n ≤ length points
  pub small : (i : ℕ) → i < length points → nat_abs (get_or points i (pos 0)) ≤ largest
  pub origin : whole_origin o ≡ true

-- `unchecked::call_at` meets its contract.
use Prim.Native.Nat.{ℕ, ◌+◌, ◌-◌, ◌*◌, ◌≤◌, ◌<◌}
use mathlib.Core.Path.{◌≡◌, sym, ◌∙◌}
use mathlib.Core.Bool.{true}
use mathlib.Core.List.{List}
use native.Mathlib.Omega.{arith}
use borrow.Author.Tests.{ltb-true, ltb-false}
use lib.Dec.{ltb}
use lib.ListN.{length, get_or}
use lib.IntN.{nat_abs}
use Rattle.std.proofs.lemmas.Grind.{get_or_default_zero}
use Rattle.mesh.specs.Corners.{largest}
use Rattle.polygons.specs.Flat.{FlatLayer, flat}
use Rattle.preview.specs.Places.{table_point}
use Rattle.preview.specs.PreviewLaws.{draw_tested}
use Rattle.preview.proofs.Fetching.{point_there, point_small, read_is, read_small, fetch_past, fetch_close, fetch_move, fetch_line}
use Rattle.preview.proofs.unchecked.call_at.Goals as goal
use Rattle.preview.proofs.unchecked.call_at.Goals.{Else-e-i}

-- where a table of ends was read, there is that contour, and its end is what was read
read_end : (ends : List ℕ) (j e : ℕ) → true ≡ ltb j (length ends) → e ≡ get_or ends j e → (j < length ends) × (e ≡ get_or ends j 0)
read_end ends j e h q = let l = ltb-true j (length ends) (sym h) in (l, q ∙ get_or_default_zero ends j e l)

-- ---- past the test for a close

module _ (c : Else-e-i) where
  abbrev layer : FlatLayer
  layer = flat c.args.points.now c.args.ends.now

  abbrev point : ℕ
  point = c.args.number - c.contour_with-j.result

  -- the point is in the table
  inside : 2 * point + 1 < length c.args.points.now
  inside =
      let end = read_end _ _ _ c.in_ok-e.ensures.lookup.0 c.in_ok-e.ensures.lookup.1 in
      point_there layer c.args.origin (draw_tested _ _ c.requires) _ _ c.contour_with-j.ensures.result end.0 end.1 c.if-e-i.false

  -- and in range
  small : (nat_abs (table_point c.args.points.now point).x ≤ largest) × (nat_abs (table_point c.args.points.now point).y ≤ largest)
  small = point_small point (draw_tested layer c.args.origin c.requires) inside

pub returns-in_err-e : goal.returns-in_err-e
returns-in_err-e c = record {
  value = c.from_residual.ensures
      ∙ fetch_past _ _ (draw_tested _ _ c.requires) _ _ c.contour_with-j.ensures.result (ltb-false _ _ (sym c.in_err-e.ensures.lookup.0));
}

pub returns-then-e-i : goal.returns-then-e-i
returns-then-e-i c =
    let end = read_end _ _ _ c.in_ok-e.ensures.lookup.0 c.in_ok-e.ensures.lookup.1 in
    record {
      value = fetch_close _ _ (draw_tested _ _ c.requires) _ _ c.contour_with-j.ensures.result end.0 end.1 c.if-e-i.true;
    }

pub bounds-points-k : goal.bounds-points-k
bounds-points-k c = omega (arith, inside c)

pub bounds-points-l : goal.bounds-points-l
bounds-points-l c = inside (goal.at.bounds-points-l c).Else-e-i

pub drawn_point-p-requires : goal.drawn_point-p-requires
drawn_point-p-requires c =
    let at = (goal.at.drawn_point-p-requires c).Else-e-i in
    let p = table_point c.args.points.now (point at) in
    (read_small p.x (small at).0, read_small p.y (small at).1, (draw_tested _ _ c.requires).origin)

pub returns-then-prior_end-i : goal.returns-then-prior_end-i
returns-then-prior_end-i c =
    let end = read_end _ _ _ c.in_ok-e.ensures.lookup.0 c.in_ok-e.ensures.lookup.1 in
    let s = small (goal.at.returns-then-prior_end-i c).Else-e-i in
    record {
      value = fetch_move _ _ (draw_tested _ _ c.requires) _ _ c.contour_with-j.ensures.result end.0 end.1 c.if-e-i.false
          c.prior_end.ensures.value (read_is _ s.0) (read_is _ s.1) c.drawn_point-p.ensures.value c.if-prior_end-i.true;
    }

pub returns : goal.returns
returns c =
    let end = read_end _ _ _ c.in_ok-e.ensures.lookup.0 c.in_ok-e.ensures.lookup.1 in
    let s = small (goal.at.returns c).Else-e-i in
    record {
      value = fetch_line _ _ (draw_tested _ _ c.requires) _ _ c.contour_with-j.ensures.result end.0 end.1 c.if-e-i.false
          c.prior_end.ensures.value (read_is _ s.0) (read_is _ s.1) c.drawn_point-p.ensures.value c.if-prior_end-i.false;
    }

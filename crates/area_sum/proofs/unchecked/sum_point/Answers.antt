-- `unchecked::sum_point` meets its contract.
use mathlib.Core.Path.{◌≡◌, ap, ◌∙◌}
use lib.IntN.{ℤ, ◌+ℤ◌}
use mir.Syntax.{w64}
use mir.Val.{to_z}
use Rattle.polygons.specs.Flat.{point}
use Rattle.area_sum.specs.Summing.{trapezoid_points}
use Rattle.area_sum.proofs.Adding.{narrow_is, Wider, made_wider, wider_near, trapezoid_is, sum_ok, sum_with, point_later, point_first}
use Rattle.area_sum.proofs.unchecked.sum_point.Goals as goal
use Rattle.area_sum.proofs.unchecked.sum_point.Goals.{After-from-4, After-trapezoid}

-- the two points
module _ (c : After-from-4) where
  prior : Wider (point c.args.px c.args.py) c.from.result c.from-2.result
  prior = made_wider c.requires.1 c.from.type_inv c.from-2.type_inv c.from.ensures c.from-2.ensures

  next : Wider (point c.args.x c.args.y) c.from-3.result c.from-4.result
  next = made_wider c.requires.2 c.from-3.type_inv c.from-4.type_inv c.from-3.ensures c.from-4.ensures

-- the sum with the trapezoid
sum_told : (c : After-trapezoid) → let t = c.trapezoid in
    to_z w64 (sum_with c.requires.0 t.result t.type_inv t.ensures.result.1).n
    ≡ c.args.s.sum +ℤ trapezoid_points (point c.args.px c.args.py) (point c.args.x c.args.y)
sum_told c =
    let t = c.trapezoid in
    (sum_with c.requires.0 t.result t.type_inv t.ensures.result.1).is
    ∙ ap (λ (z : ℤ). c.args.s.sum +ℤ z) (trapezoid_is (prior c.before) (next c.before) t.ensures.result.0)

pub trapezoid-requires : goal.trapezoid-requires
trapezoid-requires c = wider_near (prior c) (next c)

pub overflow_add-sum : goal.overflow_add-sum
overflow_add-sum c = let t = c.trapezoid in sum_ok c.requires.0 t.result t.type_inv t.ensures.result.1

pub returns-then-s : goal.returns-then-s
returns-then-s c =
    let s = c.args.s in record {
      value = simp (narrow_is s.x c.requires.0.near.0, narrow_is s.y c.requires.0.near.1)
          (point_later s _ _ (sum_told (goal.at.returns-then-s c).After-trapezoid) c.if-s.true);
    }

pub returns : goal.returns
returns c = record {
  value = simp (narrow_is c.args.x c.requires.2.0, narrow_is c.args.y c.requires.2.1)
      (point_first c.args.s _ _ (sum_told (goal.at.returns c).After-trapezoid) c.if-s.false);
}

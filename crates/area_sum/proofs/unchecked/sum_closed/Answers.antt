-- `unchecked::sum_closed` meets its contract.
use native.Mathlib.Omega.{arith}
use Rattle.polygons.specs.Flat.{point}
use Rattle.area_sum.specs.Summing.{first_summed}
use Rattle.area_sum.proofs.Adding.{Wider, made_wider, wider_near, sum_ok, sum_twice_ok, closes}
use Rattle.area_sum.proofs.unchecked.sum_closed.Goals as goal
use Rattle.area_sum.proofs.unchecked.sum_closed.Goals.{After-from-2}

-- the first point, and the last
module _ (c : After-from-2) where
  first : Wider (first_summed c.args.s) c.from-u.result c.from-v.result
  first = made_wider c.requires.0.near c.from-u.type_inv c.from-v.type_inv c.from-u.ensures c.from-v.ensures

  last : Wider (point c.args.x c.args.y) c.from.result c.from-2.result
  last = made_wider c.requires.1 c.from.type_inv c.from-2.type_inv c.from.ensures c.from-2.ensures

pub trapezoid-requires : goal.trapezoid-requires
trapezoid-requires c = wider_near (last c) (first c)

pub overflow_add-result : goal.overflow_add-result
overflow_add-result c =
    let t = c.trapezoid in
    sum_ok c.requires.0 t.result t.type_inv t.ensures.result.1

pub trapezoid-requires-2 : goal.trapezoid-requires-2
trapezoid-requires-2 c =
    let near = first (goal.at.trapezoid-requires-2 c).After-from-2 in
    let e = wider_near near near in
    (e.0, e.1, omega arith, omega arith)

pub overflow_add-result-2 : goal.overflow_add-result-2
overflow_add-result-2 c =
    let t = c.trapezoid in
    sum_twice_ok c.requires.0 t.result t.type_inv t.ensures.result.1
    c.trapezoid-2.result c.trapezoid-2.type_inv c.trapezoid-2.ensures.result.1

pub returns : goal.returns
returns c =
    let at = (goal.at.returns c).After-from-2 in
    let t = c.trapezoid in
    let u = c.trapezoid-2 in record {
      value = closes c.args.s c.requires.0 (last at) (first at)
          t.result t.type_inv t.ensures.result.1 t.ensures.result.0
          u.result u.type_inv u.ensures.result.1 u.ensures.result.0;
    }

-- `unchecked::doubled_area` meets its contract.
use borrow.Author.Rules.{rules}
use Rattle.contours.proofs.Sums.{held, PointHeld, area_empty, loaded, start, held_x, held_y, sum_ok, again, closed}
use Rattle.contours.proofs.unchecked.doubled_area.Goals as goal
use Rattle.contours.proofs.unchecked.doubled_area.Goals.{After-from-y0, After-from-v}

pub returns-then-is_empty : goal.returns-then-is_empty
returns-then-is_empty c = record { value = area_empty _ c.is_empty.ensures c.if-is_empty.true }

-- the first point, and point k
first : (c : After-from-y0) → PointHeld c.args.points.now 0 (held c.from-x0.result) (held c.from-y0.result)
first c = loaded c.requires 0 c.from-x0.type_inv c.from-y0.type_inv c.from-x0.ensures c.from-y0.ensures

next : (c : After-from-v) → PointHeld c.args.points.now c.loop-k.k (held c.from-u.result) (held c.from-v.result)
next c = loaded c.requires c.loop-k.k c.from-u.type_inv c.from-v.type_inv c.from-u.ensures c.from-v.ensures

pub loop-k-init : goal.loop-k-init
loop-k-init c = start c.requires c.is_empty.ensures c.if-is_empty.false (first c)

pub trapezoid-sum-requires : goal.trapezoid-sum-requires
trapezoid-sum-requires c =
    let s = c.loop-k.invariant in
    search (rules, held_x s.run s.held, held_y s.run s.held, held_x s.run (next c), held_y s.run (next c))

pub overflow_add-sum : goal.overflow_add-sum
overflow_add-sum c = sum_ok c.loop-k.sum-bits c.loop-k.invariant c.trapezoid-sum.result c.trapezoid-sum.type_inv c.trapezoid-sum.ensures.result.1

pub loop-k-preserved : goal.loop-k-preserved
loop-k-preserved c =
    let z = c.trapezoid-sum in
    let there = next (goal.at.loop-k-preserved c).After-from-v in
    again c.loop-k.sum-bits c.loop-k.invariant z.result z.type_inv z.ensures.result.1 there z.ensures.result.0 c.loop-k-test.true

pub trapezoid-requires : goal.trapezoid-requires
trapezoid-requires c =
    let s = c.loop-k.invariant in
    let there = first (goal.at.trapezoid-requires c).After-from-y0 in
    search (rules, held_x s.run s.held, held_y s.run s.held, held_x s.run there, held_y s.run there)

pub overflow_add-result : goal.overflow_add-result
overflow_add-result c = sum_ok c.loop-k.sum-bits c.loop-k.invariant c.trapezoid.result c.trapezoid.type_inv c.trapezoid.ensures.result.1

pub returns : goal.returns
returns c =
    let z = c.trapezoid in
    let there = first (goal.at.returns c).After-from-y0 in
    record { value = closed c.loop-k.sum-bits c.loop-k.invariant z.result z.type_inv z.ensures.result.1 there z.ensures.result.0 c.loop-k-test.false }

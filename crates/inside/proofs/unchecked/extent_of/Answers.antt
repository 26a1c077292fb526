-- `unchecked::extent_of` meets its contract.
use Rattle.inside.proofs.Extending.{extended_start, extended_again, extended_end}
use Rattle.inside.proofs.unchecked.extent_of.Goals as goal

pub loop-k-init : goal.loop-k-init
loop-k-init c = let pre = c.requires in extended_start pre.0 pre.1

pub loop-k-preserved : goal.loop-k-preserved
loop-k-preserved c =
    let left = c.min-left in
    let right = c.max-right in
    let low = c.min-low in
    let high = c.max-high in
    extended_again c.loop-k.invariant _ _ _ _ (left.type_inv, right.type_inv, low.type_inv, high.type_inv)
    (left.ensures.self_bound, left.ensures.other_bound) (right.ensures.self_bound, right.ensures.other_bound)
    (low.ensures.self_bound, low.ensures.other_bound) (high.ensures.self_bound, high.ensures.other_bound) c.loop-k-test.true

pub returns : goal.returns
returns c = record { value = extended_end c.loop-k.invariant c.loop-k-test.false }

-- `unchecked::lies_in` meets its contract.
use mathlib.Core.Path.{◌∙◌}
use native.Mathlib.Omega.{arith}
use borrow.Author.Rules.{rules}
use Rattle.polygons.specs.Flat.{point}
use Rattle.inside.specs.PointLaws.{back_lies}
use Rattle.inside.proofs.Rounds.{one_few, point_loaded, near_loaded, counted_start, at_near, counted_few, counted_again, counted_round}
use Rattle.inside.proofs.unchecked.lies_in.Goals as goal

pub loop-k-init : goal.loop-k-init
loop-k-init c =
    let pre = c.requires in
    counted_start (point c.args.x c.args.y) pre.0 pre.2 pre.1

pub edge_counts-requires : goal.edge_counts-requires
edge_counts-requires c =
    let at-loop = c.loop-k in
    let s = at-loop.invariant in
    search (rules, s.near, at_near s, near_loaded s.run at-loop.k)

pub overflow_add-n : goal.overflow_add-n
overflow_add-n c =
    let s = c.loop-k.invariant in
    omega (arith, counted_few s, c.from-n.ensures, one_few c.edge_counts.result)

pub loop-k-preserved : goal.loop-k-preserved
loop-k-preserved c =
    let at-loop = c.loop-k in
    let next = point_loaded at-loop.invariant.run at-loop.k in
    counted_again at-loop.invariant next c.edge_counts.ensures.value c.from-n.ensures c.loop-k-test.true

pub edge_counts-requires-2 : goal.edge_counts-requires-2
edge_counts-requires-2 c = let s = c.loop-k.invariant in search (rules, s.near, at_near s, near_loaded s.run 0)

pub overflow_add-n-2 : goal.overflow_add-n-2
overflow_add-n-2 c = omega (arith, counted_few c.loop-k.invariant, c.from-n-2.ensures, one_few c.edge_counts-2.result)

pub returns : goal.returns
returns c =
    let s = c.loop-k.invariant in
    record {
      value = counted_round s (point_loaded s.run 0) c.edge_counts-2.ensures.value c.from-n-2.ensures c.loop-k-test.false
          ∙ back_lies _ c.requires.2 _;
    }

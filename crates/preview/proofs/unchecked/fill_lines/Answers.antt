-- `unchecked::fill_lines` meets its contract.
use Rattle.preview.proofs.Fetching.{read_is}
use Rattle.preview.proofs.Lining.{lining_start, lining_small, lining_step, lining_end}
use Rattle.preview.proofs.unchecked.fill_lines.Goals as goal

pub loop-k-init : goal.loop-k-init
loop-k-init c = lining_start c.requires.fact_1 c.requires.fact_2

pub loop-k-preserved : goal.loop-k-preserved
loop-k-preserved c =
    let inv = c.loop-k.invariant in
    let small = lining_small inv c.loop-k-test.true in
    lining_step inv c.loop-k-test.true (read_is _ small.0) (read_is _ small.1) c.drawn_point.ensures.value
    c.put_point.ensures.left

pub returns : goal.returns
returns c = record { left = lining_end c.loop-k.invariant c.loop-k-test.false }

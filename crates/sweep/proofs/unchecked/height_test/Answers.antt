-- `unchecked::height_test` meets its contract.
use Rattle.sweep.proofs.Moves.{got_lt, none_high, low_last, high_last}
use Rattle.sweep.proofs.unchecked.height_test.Goals as goal
use Rattle.sweep.proofs.unchecked.height_test.Goals.{then-n-eq0-via-then-n-eq0, then-n-eq0-via-else-n-eq0+then-height_behind-h}

pub returns-then-n-eq0 : goal.returns-then-n-eq0
returns-then-n-eq0 c = record {
  told = elim c.then-n-eq0.branch [
    | then-n-eq0-via-then-n-eq0 w ↦ none_high _ _ _ _ w.if-n-eq0.true
    | then-n-eq0-via-else-n-eq0+then-height_behind-h w ↦
        low_last c.args.coords.now c.args.order.now c.args.h c.requires.fact_2 c.args.n c.requires.fact_1 w.if-n-eq0.false
        w.height_behind.result w.height_behind.ensures.value
        (got_lt w.height_behind.result c.args.h w.height_behind.type_inv c.ranges.h w.if-height_behind-h.true)
  ];
}

pub returns : goal.returns
returns c = record {
  told = high_last c.args.coords.now c.args.order.now c.args.h c.requires.fact_2 c.args.n c.requires.fact_1 c.if-n-eq0.false
      c.height_behind.result c.height_behind.ensures.value
      (got_lt c.height_behind.result c.args.h c.height_behind.type_inv c.ranges.h c.if-height_behind-h.false);
}

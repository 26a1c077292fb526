-- `unchecked::fill_rest` meets its contract.
use Rattle.preview.proofs.Filling.{rest_closed, rest_full, closed_at, full_at}
use Rattle.preview.proofs.unchecked.fill_rest.Goals as goal

pub returns-then-last-room : goal.returns-then-last-room
returns-then-last-room c =
    let last_is = c.min-last.ensures in
    record {
      value = closed_at c.requires.fact_1 c.requires.fact_2 c.requires.fact_3 last_is c.if-last-room.true;
      left = rest_closed c.requires.fact_1 c.requires.fact_2 c.requires.fact_3 last_is c.fill_lines.ensures.left c.if-last-room.true;
    }

pub returns : goal.returns
returns c =
    let last_is = c.min-last.ensures in
    record {
      value = full_at c.requires.fact_1 c.requires.fact_2 c.requires.fact_3 last_is c.if-last-room.false;
      left = rest_full c.requires.fact_1 c.requires.fact_2 c.requires.fact_3 last_is c.fill_lines.ensures.left c.if-last-room.false;
    }

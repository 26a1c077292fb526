-- `unchecked::is_short` meets its contract.
use mathlib.Core.Path.{refl}
use Rattle.laws.specs.Booleans.{clash}
use Rattle.all_sweep.specs.PassLaws.{works_none, works_begun, works_more}
use Rattle.all_sweep.specs.StepLaws.{right_ranged, tested_more}
use Rattle.all_output.proofs.Putting.{room_bound, room_short, not_short}
use Rattle.all_output.proofs.unchecked.is_short.Goals as goal

pub returns-then-bound-room : goal.returns-then-bound-room
returns-then-bound-room c = record {
  value = room_bound c.requires.fact_3 c.if-bound-room.true;
  work = works_none;
  outcome = (λ e. c.requires.fact_2);
}

pub layers_length-n-requires : goal.layers_length-n-requires
layers_length-n-requires c = record {
  fact_1 = c.requires.fact_1;
  fact_2 = c.requires.fact_2;
}

pub returns-then-room-n : goal.returns-then-room-n
returns-then-room-n c = record {
  value = room_short c.layers_length-n.ensures.value c.if-room-n.true;
  work = c.layers_length-n.ensures.work;
  outcome = (λ e. absurd (clash refl e));
}

pub begin-requires : goal.begin-requires
begin-requires c =
    let spent = c.layers_length-n.ensures.work in
    let t = tested_more c.requires.fact_1 spent in record {
      fact_1 = right_ranged t.right;
      fact_2 = (t.long.marks_long, t.ring_long, c.requires.fact_2.heads_room);
    }

pub returns : goal.returns
returns c = record {
  value = not_short c.layers_length-n.ensures.value c.if-room-n.false;
  work = works_more c.layers_length-n.ensures.work (works_begun c.begin.ensures.spent);
  outcome = (λ q. c.begin.ensures.lists);
}

-- `unchecked::put_layers` meets its contract.
use mathlib.Core.Path.{sym, ◌∙◌}
use borrow.Author.Tests.{ltb-false}
use Rattle.all_sweep.specs.PassLaws.{works_begun, works_more}
use Rattle.all_sweep.specs.StepLaws.{right_ranged, tested_more}
use Rattle.all_output.proofs.Bounding.{file_bound}
use Rattle.all_output.proofs.Putting.{puts_short, puts_whole}
use Rattle.all_output.proofs.unchecked.put_layers.Goals as goal

pub begin-crossings-requires : goal.begin-crossings-requires
begin-crossings-requires c =
    let t = c.requires.fact_1 in record {
      fact_1 = right_ranged t.right;
      fact_2 = (t.long.marks_long, t.ring_long, c.requires.fact_2);
    }

pub longest-bound-requires : goal.longest-bound-requires
longest-bound-requires c = c.begin-crossings.ensures.total.few

pub is_short-short-requires : goal.is_short-short-requires
is_short-short-requires c =
    let t = c.requires.fact_1 in
    let bound = file_bound c.args.profile _ t.right t.listed c.begin-crossings.ensures.total c.longest-bound.ensures.value in record {
      fact_1 = tested_more t (works_begun c.begin-crossings.ensures.spent);
      fact_2 = c.begin-crossings.ensures.lists;
      fact_3 = bound;
    }

pub returns-then-short : goal.returns-then-short
returns-then-short c = record {
  outcome = puts_short _ _ (sym c.is_short-short.ensures.value ∙ c.if-short.true);
  work = works_more (works_begun c.begin-crossings.ensures.spent) c.is_short-short.ensures.work;
}

pub write_layers-requires : goal.write_layers-requires
write_layers-requires c =
    let t = c.requires.fact_1 in record {
      fact_1 = tested_more t (works_more (works_begun c.begin-crossings.ensures.spent) c.is_short-short.ensures.work);
      fact_2 = c.is_short-short.ensures.outcome c.if-short.false;
      fact_3 = ltb-false _ _ (sym c.is_short-short.ensures.value ∙ c.if-short.false);
    }

pub shape_of-marks : goal.shape_of-marks
shape_of-marks c =
    (works_more (works_more (works_begun c.begin-crossings.ensures.spent) c.is_short-short.ensures.work) c.write_layers.ensures.work
    ).marks_spent.same_length

pub shape_of-ring : goal.shape_of-ring
shape_of-ring c =
    (works_more (works_more (works_begun c.begin-crossings.ensures.spent) c.is_short-short.ensures.work) c.write_layers.ensures.work
    ).ring_spent.same_length

pub shape_of-heads : goal.shape_of-heads
shape_of-heads c =
    c.is_short-short.auto.heads ∙ c.begin-crossings.auto.heads

pub returns : goal.returns
returns c = record {
  outcome = puts_whole _ _ (sym c.is_short-short.ensures.value ∙ c.if-short.false) c.write_layers.ensures.value c.write_layers.ensures.output_left;
  work = works_more (works_more (works_begun c.begin-crossings.ensures.spent) c.is_short-short.ensures.work) c.write_layers.ensures.work;
}

-- `unchecked::longest` meets its contract.
use native.Mathlib.Omega.{arith}
use Rattle.file_formats.specs.NumberLaws.{number_bytes}
use Rattle.all_sweep.specs.PassLaws.{held_word_is}
use Rattle.all_output.proofs.Bounding.{bounding_start, bounding_next, bounding_end}
use Rattle.all_output.proofs.unchecked.longest.Goals as goal

pub number_length-requires : goal.number_length-requires
number_length-requires c = tt

pub overflow_mul-total : goal.overflow_mul-total
overflow_mul-total c = record { fits = omega (arith, c.requires) }

pub overflow_add-total : goal.overflow_add-total
overflow_add-total c =
    let count = c.args.levels.count in
    record { fits = omega (arith, c.requires, c.number_length.ensures.value, number_bytes count (omega (arith, c.args.levels.climbing.few))) }

pub loop-k-init : goal.loop-k-init
loop-k-init c = bounding_start (omega (arith, c.args.levels.climbing.few)) c.number_length.ensures.value

pub height_length-requires : goal.height_length-requires
height_length-requires c = tt

pub overflow_add-total-in-loop-k : goal.overflow_add-total-in-loop-k
overflow_add-total-in-loop-k c = record { fits = omega (arith, c.height_length.ensures.result.1) }

pub overflow_add-total-in-loop-k-2 : goal.overflow_add-total-in-loop-k-2
overflow_add-total-in-loop-k-2 c =
    record {
      fits = omega (
        arith,
        c.height_length.ensures.result.1,
        c.loop-k.invariant.few,
        c.loop-k-test.true,
        c.args.levels.climbing.few,
        c.requires,
      );
    }

pub loop-k-preserved : goal.loop-k-preserved
loop-k-preserved c =
    bounding_next c.loop-k.invariant c.loop-k-test.true
    (held_word_is c.height-h.type_inv c.height-h.ensures.value) c.height_length.ensures.result.0 c.height_length.ensures.result.1

pub returns : goal.returns
returns c = record { value = bounding_end c.loop-k.invariant c.loop-k-test.false }

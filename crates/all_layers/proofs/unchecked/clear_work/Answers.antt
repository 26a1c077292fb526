-- `unchecked::clear_work` meets its contract.
use native.Mathlib.Omega.{arith}
use Rattle.all_layers.proofs.Filing.{work_zeroed}
use Rattle.all_layers.proofs.unchecked.clear_work.Goals as goal

pub fill-requires : goal.fill-requires
fill-requires c =
    c.requires.fact_1.names_long

pub overflow_mul-n : goal.overflow_mul-n
overflow_mul-n c =
    omega (arith, c.requires.fact_3)

pub fill-requires-2 : goal.fill-requires-2
fill-requires-2 c =
    c.requires.fact_1.points_long

pub fill-requires-3 : goal.fill-requires-3
fill-requires-3 c =
    c.requires.fact_1.ends_long

pub fill-requires-4 : goal.fill-requires-4
fill-requires-4 c =
    c.requires.fact_1.marks_long

pub fill-requires-5 : goal.fill-requires-5
fill-requires-5 c =
    omega (arith, c.requires.fact_2)

pub returns : goal.returns
returns c = record { left = work_zeroed c.fill.ensures.left c.fill-2.ensures.left c.fill-3.ensures.left c.fill-4.ensures.left c.fill-5.ensures.left }

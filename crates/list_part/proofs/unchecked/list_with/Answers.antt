-- `unchecked::list_with` meets its contract.
use mathlib.Core.Path.{ap}
use native.Mathlib.Omega.{arith}
use Rattle.read_part.specs.Parts.{PartSizes}
use Rattle.list_part.proofs.Parts.{front_length}
use Rattle.list_part.proofs.Reading.{part_read_lem, put_part, put_stop}
use Rattle.list_part.proofs.unchecked.list_with.Goals as goal

pub overflow_mul-n : goal.overflow_mul-n
overflow_mul-n c =
    let read = part_read_lem _ _ _ c.in-Ok.ensures.outcome in
    omega (arith, read.coords_there, c.take_part.auto.coords, ap (λ (s : PartSizes). s.coords) c.requires.fact_1)

pub overflow_mul-m : goal.overflow_mul-m
overflow_mul-m c =
    let read = part_read_lem _ _ _ c.in-Ok.ensures.outcome in
    omega (arith, read.corners_there, c.take_part.auto.corners, ap (λ (s : PartSizes). s.corners) c.requires.fact_1)

pub slice_bounds-list_part-end : goal.slice_bounds-list_part-end
slice_bounds-list_part-end c = (part_read_lem _ _ _ c.in-Ok.ensures.outcome).coords_there

pub slice_bounds-list_part-end-in-Ok : goal.slice_bounds-list_part-end-in-Ok
slice_bounds-list_part-end-in-Ok c = front_length _ _ (part_read_lem _ _ _ c.in-Ok.ensures.outcome).coords_there

pub slice_bounds-list_part-end-in-Ok-2 : goal.slice_bounds-list_part-end-in-Ok-2
slice_bounds-list_part-end-in-Ok-2 c = (part_read_lem _ _ _ c.in-Ok.ensures.outcome).corners_there

pub slice_bounds-list_part-end-in-Ok-3 : goal.slice_bounds-list_part-end-in-Ok-3
slice_bounds-list_part-end-in-Ok-3 c = front_length _ _ (part_read_lem _ _ _ c.in-Ok.ensures.outcome).corners_there

pub slice_bounds-list_part-end-in-Ok-4 : goal.slice_bounds-list_part-end-in-Ok-4
slice_bounds-list_part-end-in-Ok-4 c = (part_read_lem _ _ _ c.in-Ok.ensures.outcome).heights_there

pub slice_bounds-list_part-end-in-Ok-5 : goal.slice_bounds-list_part-end-in-Ok-5
slice_bounds-list_part-end-in-Ok-5 c = front_length _ _ (part_read_lem _ _ _ c.in-Ok.ensures.outcome).heights_there

pub returns-in-Ok : goal.returns-in-Ok
returns-in-Ok c = record { outcome = put_part (part_read_lem _ _ _ c.in-Ok.ensures.outcome) c.list_part.ensures.outcome }

pub returns-in-Err : goal.returns-in-Err
returns-in-Err c = record { outcome = put_stop _ _ _ c.in-Err.ensures.outcome c.write_refusal.ensures.outcome }

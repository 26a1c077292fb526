-- `fill_layer` meets its contract.
use mathlib.Core.Path.{◌≡◌, sym, ◌∙◌}
use Prim.Native.Nat.{◌-◌}
use native.Mathlib.Omega.{arith}
use Rattle.std.specs.Prelude.{Ok}
use Rattle.file_formats.specs.LayerFile.{most_points}
use Rattle.file_formats.specs.Positions.{number_at}
use Rattle.read_layer.proofs.LayerFills.{layer_filling, count_there, filled, end_fits, points_there, still_low, fill_ready, next_contour}
use Rattle.read_layer.proofs.unchecked.fill_layer.Goals as goal
use Rattle.read_layer.proofs.unchecked.fill_layer.Goals.{After-unwrap-k}

pub unwrap-count-requires : goal.unwrap-count-requires
unwrap-count-requires c = count_there c.requires _ c.read_number.ensures.value

pub loop-c-init : goal.loop-c-init
loop-c-init c = layer_filling c.requires (sym c.read_number.ensures.value ∙ c.unwrap-count.ensures)

pub unwrap-k-requires : goal.unwrap-k-requires
unwrap-k-requires c = points_there c.loop-c.invariant (omega arith) _ c.read_number-in-loop-c.ensures.value

-- the contour's count of points
count : (c : After-unwrap-k)
    → number_at (most_points - c.loop-c.done) c.args.file.now c.loop-c.i ≡ Ok (c.unwrap-k.result.0, c.unwrap-k.result.1)
count c = sym c.read_number-in-loop-c.ensures.value ∙ c.unwrap-k.ensures

pub fill_points-i-requires : goal.fill_points-i-requires
fill_points-i-requires c = fill_ready c.loop-c.invariant (omega arith) (count (goal.at.fill_points-i-requires c).After-unwrap-k)

pub overflow_add-done : goal.overflow_add-done
overflow_add-done c =
    omega (arith, still_low c.loop-c.invariant (omega arith) (count (goal.at.overflow_add-done c).After-unwrap-k))

pub overflow_cast-ends : goal.overflow_cast-ends
overflow_cast-ends c =
    omega (arith, still_low c.loop-c.invariant (omega arith) (count (goal.at.overflow_cast-ends c).After-unwrap-k))

pub bounds-ends-c : goal.bounds-ends-c
bounds-ends-c c = end_fits c.loop-c.invariant (omega arith)

pub loop-c-preserved : goal.loop-c-preserved
loop-c-preserved c =
    next_contour c.loop-c.invariant (omega arith) (count (goal.at.loop-c-preserved c).After-unwrap-k) c.fill_points-i.ensures.outcome

pub returns : goal.returns
returns c = record { left = filled c.loop-c.invariant (omega arith) }

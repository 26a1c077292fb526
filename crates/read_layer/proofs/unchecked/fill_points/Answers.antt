-- `fill_points` meets its contract.
use mathlib.Core.Path.{◌≡◌, sym, ◌∙◌}
use Prim.Native.Nat.{◌+◌, ◌<◌}
use native.Mathlib.Omega.{arith}
use lib.Seq.{lt-length-set}
use mir.Syntax.{w32}
use mir.Val.{to_z}
use Rattle.std.specs.Prelude.{Ok}
use Rattle.laws.specs.Machine.{same_in}
use Rattle.mesh.specs.Corners.{largest}
use Rattle.file_check.specs.Answers.{coordinate_at}
use Rattle.read_layer.proofs.PointFills.{point_filling, filled, x_fits, y_fits, x_there, x_near, y_there, y_near, next_filled}
use Rattle.read_layer.proofs.unchecked.fill_points.Goals as goal
use Rattle.read_layer.proofs.unchecked.fill_points.Goals.{After-unwrap-nx, After-unwrap-ny}

pub loop-init : goal.loop-init
loop-init c = point_filling c.requires

pub unwrap-nx-requires : goal.unwrap-nx-requires
unwrap-nx-requires c = x_there c.loop.invariant (omega arith) _ c.read_coordinate.ensures.value

-- the first coordinate read
first : (c : After-unwrap-nx)
    → coordinate_at (to_z w32 c.loop.x-bits) c.args.file.now c.loop.i ≡ Ok (c.unwrap-nx.result.0, c.unwrap-nx.result.1)
first c = sym c.read_coordinate.ensures.value ∙ c.unwrap-nx.ensures

pub unwrap-ny-requires : goal.unwrap-ny-requires
unwrap-ny-requires c =
    y_there c.loop.invariant (omega arith) (first (goal.at.unwrap-ny-requires c).After-unwrap-nx) _ c.read_coordinate-in-loop.ensures.value

pub bounds-points-k : goal.bounds-points-k
bounds-points-k c = x_fits c.loop.invariant (omega arith)

pub bounds-points-k-in-loop : goal.bounds-points-k-in-loop
bounds-points-k-in-loop c = lt-length-set c.loop.points c.loop.k _ {i = c.loop.k + 1} (y_fits c.loop.invariant (omega arith))

-- the second coordinate read
second : (c : After-unwrap-ny)
    → coordinate_at (to_z w32 c.loop.y-bits) c.args.file.now c.unwrap-nx.result.1 ≡ Ok (c.unwrap-ny.result.0, c.unwrap-ny.result.1)
second c = sym c.read_coordinate-in-loop.ensures.value ∙ c.unwrap-ny.ensures

pub loop-preserved : goal.loop-preserved
loop-preserved c =
    let w = c.loop.invariant in
    let some : c.loop.counter < c.args.count = omega arith in
    let at = goal.at.loop-preserved c in
    let f = first at.After-unwrap-nx in
    let s = second at.After-unwrap-ny in
    simp (
      same_in w32 c.unwrap-nx.result.0 largest (x_near w some f) tt,
      same_in w32 c.unwrap-ny.result.0 largest (y_near w some f s) tt,
    )
    (next_filled w some f s)

pub returns : goal.returns
returns c = record { outcome = filled c.loop.invariant (omega arith) }

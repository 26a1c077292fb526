-- `check_watched` meets its contract: the loop keeps what the points before have shown and come to.
use mathlib.Core.Path.{◌≡◌, refl, sym, ◌∙◌}
use borrow.Author.Rules.{rules}
use native.Mathlib.Omega.{arith}
use Prim.Native.Nat.{◌≤◌}
use Rattle.std.specs.Prelude.{Ok}
use lib.IntN.{ℤ, nat_abs}
use mir.Syntax.{w32, w64}
use mir.Val.{to_z, of_z}
use Rattle.laws.specs.Machine.{same}
use Rattle.mesh.specs.Corners.{largest}
use Rattle.mesh.proofs.Raising.{raised}
use Rattle.file_check.specs.Answers.{coordinate_at}
use Rattle.file_check.proofs.PointSteps.{bits_is, bits_near, points_checked, sum_small, points_done, no_x, no_y, x_near, y_near}
use Rattle.file_check.proofs.PointSteps.{next_point_lem}
use Rattle.file_check.proofs.unchecked_position.check_watched.Goals as goal
use Rattle.file_check.proofs.unchecked_position.check_watched.Given.{Over}
use Rattle.file_check.proofs.unchecked_position.check_watched.Goals.{In_ok-ny}

pub loop-init : goal.loop-init
loop-init g c = points_checked g.W.Watch.profile _ _ _ c.watch_none-watch.ensures.value c.sum_none-sum.ensures.value (omega arith) c.requires

pub read_coordinate-requires : goal.read_coordinate-requires
read_coordinate-requires g c = c.loop.invariant.x_in

pub returns-in_err-nx : goal.returns-in_err-nx
returns-in_err-nx g c = record {
  value = raised _ c.from_residual.ensures.1 ∙ no_x c.loop.invariant (omega arith) (sym c.in_err-nx.ensures.value);
}

pub read_coordinate-requires-in-loop : goal.read_coordinate-requires-in-loop
read_coordinate-requires-in-loop g c = c.loop.invariant.y_in

pub returns-in_err-ny : goal.returns-in_err-ny
returns-in_err-ny g c = record {
  value = raised _ c.from_residual-in_err-ny.ensures.1
      ∙ no_y c.loop.invariant (omega arith) (sym c.in_ok-nx.ensures.value) (sym c.in_err-ny.ensures.value);
}

-- both coordinates read
module _ (g : Over) (c : In_ok-ny g) where
  abbrev nx : ℤ
  nx = c.in_ok-nx.nx

  abbrev ny : ℤ
  ny = c.in_ok-ny.ny

  first : coordinate_at (to_z w32 c.loop.x-bits) c.args.file.now c.loop.i ≡ Ok (nx, c.in_ok-nx.j)
  first = sym c.in_ok-nx.ensures.value

  second : coordinate_at (to_z w32 c.loop.y-bits) c.args.file.now c.in_ok-nx.j ≡ Ok (ny, c.in_ok-ny.k)
  second = sym c.in_ok-ny.ensures.value

  nx-in : nat_abs nx ≤ largest
  nx-in = x_near c.loop.invariant (omega arith) first

  ny-in : nat_abs ny ≤ largest
  ny-in = y_near c.loop.invariant (omega arith) first second

  x_is : to_z w32 (of_z w32 nx) ≡ nx
  x_is = bits_is nx nx-in

  y_is : to_z w32 (of_z w32 ny) ≡ ny
  y_is = bits_is ny ny-in

pub sum_point-sum-requires : goal.sum_point-sum-requires
sum_point-sum-requires g c =
    let w = c.loop.invariant in
    let b = (goal.at.sum_point-sum-requires g c).In_ok-ny in
    search (rules, sum_small w, w.x_in, w.y_in, bits_near (nx g b) (nx-in g b), bits_near (ny g b) (ny-in g b))

pub loop-preserved : goal.loop-preserved
loop-preserved g c =
    let b = (goal.at.loop-preserved g c).In_ok-ny in
    simp (x_is g b, y_is g b)
    (next_point_lem c.loop.invariant (omega arith) (first g b) (second g b) (omega arith)
    (simp (x_is g b, y_is g b) at c.pass-watch.ensures.value)
    (simp (x_is g b, y_is g b) at c.sum_point-sum.ensures.value))

pub sum_closed-requires : goal.sum_closed-requires
sum_closed-requires g c =
    let w = c.loop.invariant in
    search (rules, sum_small w, w.x_in, w.y_in)

pub returns : goal.returns
returns g c = record {
  value = points_done c.loop.invariant (omega arith) refl c.fits.ensures.value
      (same w64 c.sum_closed.result c.sum_closed.type_inv ∙ c.sum_closed.ensures.value);
}

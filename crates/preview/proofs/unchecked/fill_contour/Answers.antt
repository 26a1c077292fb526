-- `unchecked::fill_contour` meets its contract.
use Prim.Native.Nat.{◌+◌, ◌*◌, ◌<◌}
use native.Mathlib.Omega.{arith}
use lib.ListN.{length, get_or}
use lib.IntN.{pos}
use Rattle.preview.proofs.Fetching.{read_is}
use Rattle.preview.proofs.Filling.{start_there, moved_left, moved_at, later_left}
use Rattle.preview.proofs.unchecked.fill_contour.Goals as goal
use Rattle.preview.proofs.unchecked.fill_contour.Goals.{After-put_point}

-- the move is put
module _ (a : After-put_point) where
  there : 2 * a.args.i + 1 < length a.args.points.now
  there = start_there a.requires.fact_1 a.requires.fact_2 a.requires.fact_3.0 a.requires.fact_3.1 a.requires.fact_3.2 a.if-i-s.true

pub returns-then-i-s : goal.returns-then-i-s
returns-then-i-s c =
    let points = c.args.points.now in
    let i = c.args.i in
    let p = c.requires.fact_2 in
    record {
      value = moved_at c.requires.fact_1 p c.requires.fact_3.0 c.requires.fact_3.1 c.requires.fact_3.2 c.if-i-s.true
          c.fill_rest.ensures.value;
      left = moved_left c.requires.fact_1 p c.requires.fact_3.0 c.requires.fact_3.1 c.requires.fact_3.2 c.if-i-s.true
          (read_is (get_or points (2 * i) (pos 0)) (p.small (2 * i) (omega (arith, there (goal.at.returns-then-i-s c).After-put_point))))
          (read_is (get_or points (2 * i + 1) (pos 0)) (p.small (2 * i + 1) (there (goal.at.returns-then-i-s c).After-put_point)))
          c.drawn_point.ensures.value c.put_point.ensures.left c.fill_rest.ensures.left;
    }

pub returns : goal.returns
returns c = record {
  value = c.fill_rest-2.ensures.value;
  left = later_left c.requires.fact_1 c.requires.fact_2 c.requires.fact_3.0 c.requires.fact_3.1 c.requires.fact_3.2 c.if-i-s.false
      c.fill_rest-2.ensures.left;
}

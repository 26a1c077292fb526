-- `unchecked::meets_right` meets its contract.
use mir.Syntax.{w64}
use Rattle.laws.specs.Machine.{Rd, sub, sub_ok, mul_ok}
use Rattle.mesh.specs.Corners.{largest}
use Rattle.polygons.specs.Flat.{point}
use Rattle.inside.proofs.Edges.{Way, wider, right_told}
use Rattle.inside.proofs.unchecked.meets_right.Goals as goal
use Rattle.inside.proofs.unchecked.meets_right.Goals.{After-from-2, After-from-4, After-from-6, After-from-8}

-- the four differences
module _ (c : After-from-2) where
  abbrev by : Rd w64 c.args.by largest
  by = wider c.requires.2.1 c.from.type_inv c.from.ensures

  abbrev ay : Rd w64 c.args.ay largest
  ay = wider c.requires.1.1 c.from-2.type_inv c.from-2.ensures

  abbrev up : Way c.args.ay c.args.by
  up = sub by ay tt

module _ (c : After-from-4) where
  abbrev bx : Rd w64 c.args.bx largest
  bx = wider c.requires.2.0 c.from-3.type_inv c.from-3.ensures

  abbrev ax : Rd w64 c.args.ax largest
  ax = wider c.requires.1.0 c.from-4.type_inv c.from-4.ensures

  abbrev over : Way c.args.ax c.args.bx
  over = sub bx ax tt

module _ (c : After-from-6) where
  abbrev y : Rd w64 c.args.y largest
  y = wider c.requires.0.1 c.from-5.type_inv c.from-5.ensures

  abbrev ay_again : Rd w64 c.args.ay largest
  ay_again = wider c.requires.1.1 c.from-6.type_inv c.from-6.ensures

  abbrev rest : Way c.args.ay c.args.y
  rest = sub y ay_again tt

module _ (c : After-from-8) where
  abbrev x : Rd w64 c.args.x largest
  x = wider c.requires.0.0 c.from-7.type_inv c.from-7.ensures

  abbrev ax_again : Rd w64 c.args.ax largest
  ax_again = wider c.requires.1.0 c.from-8.type_inv c.from-8.ensures

  abbrev right : Way c.args.ax c.args.x
  right = sub x ax_again tt

pub overflow_sub-up : goal.overflow_sub-up
overflow_sub-up c = sub_ok (by c) (ay c) tt

pub overflow_sub-over : goal.overflow_sub-over
overflow_sub-over c = sub_ok (bx c) (ax c) tt

pub overflow_sub-rest : goal.overflow_sub-rest
overflow_sub-rest c = sub_ok (y c) (ay_again c) tt

pub overflow_sub-right : goal.overflow_sub-right
overflow_sub-right c = sub_ok (x c) (ax_again c) tt

pub overflow_mul-result : goal.overflow_mul-result
overflow_mul-result c = let at = goal.at.overflow_mul-result c in mul_ok (right at.After-from-8) (up at.After-from-2) tt

pub overflow_mul-result-2 : goal.overflow_mul-result-2
overflow_mul-result-2 c = let at = goal.at.overflow_mul-result-2 c in mul_ok (over at.After-from-4) (rest at.After-from-6) tt

pub returns : goal.returns
returns c =
    let at = goal.at.returns c in
    let a = c.args in record {
      value = right_told (point a.x a.y) (point a.ax a.ay) (point a.bx a.by) (up at.After-from-2) (over at.After-from-4) (rest at.After-from-6)
          (right at.After-from-8);
    }

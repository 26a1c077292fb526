-- `unchecked::trapezoid` meets its contract.
use mir.Syntax.{w64}
use Rattle.laws.specs.Machine.{Rd, arg, add, add_ok, sub, sub_ok, mul, mul_ok}
use Rattle.mesh.specs.Corners.{largest}
use Rattle.area_sum.proofs.unchecked.trapezoid.Goals as goal
use Rattle.area_sum.proofs.unchecked.trapezoid.Goals.{Start}

module _ (c : Start) where
  abbrev x : Rd w64 c.args.x largest
  x = arg c.ranges.x c.requires.0

  abbrev y : Rd w64 c.args.y largest
  y = arg c.ranges.y c.requires.1

  abbrev u : Rd w64 c.args.u largest
  u = arg c.ranges.u c.requires.2

  abbrev v : Rd w64 c.args.v largest
  v = arg c.ranges.v c.requires.3

pub overflow_sub-result : goal.overflow_sub-result
overflow_sub-result c = sub_ok (x c) (u c) tt

pub overflow_add-result : goal.overflow_add-result
overflow_add-result c = add_ok (y c) (v c) tt

pub overflow_mul-result : goal.overflow_mul-result
overflow_mul-result c = mul_ok (sub (x c) (u c) tt) (add (y c) (v c) tt) tt

pub returns : goal.returns
returns c = let d = mul (sub (x c) (u c) tt) (add (y c) (v c) tt) tt in record { result = (d.is, rw d.is d.le) }

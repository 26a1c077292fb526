-- `unchecked::is_within` meets its contract.
use Rattle.polygons.specs.Flat.{point}
use Rattle.inside.proofs.Bounds.{ExtentWords, told_beside, told_level}
use Rattle.inside.proofs.unchecked.is_within.Goals as goal
use Rattle.inside.proofs.unchecked.is_within.Goals.{After-struct_told-1}

-- what is told of the extent's parts, and of x and y
words : (c : After-struct_told-1) → let args = c.args in ExtentWords args.e (point args.x args.y)
words c =
    let told = c.struct_told-1.given in
    let fits = c.ranges in
    record {
      x_in = fits.x.sfits;
      y_in = fits.y.sfits;
      left_in = told.0.1;
      right_in = told.1.0.1;
      low_in = told.1.1.0.1;
      high_in = told.1.1.1.0.1;
    }

pub returns-then-contains : goal.returns-then-contains
returns-then-contains c = record {
  value = told_level (words (goal.at.returns-then-contains c).After-struct_told-1) c.contains.ensures.value c.if-contains.true
      c.contains-then-contains.ensures.value;
}

pub returns-else-contains : goal.returns-else-contains
returns-else-contains c = record {
  value = told_beside (words (goal.at.returns-else-contains c).After-struct_told-1) c.contains.ensures.value c.if-contains.false;
}

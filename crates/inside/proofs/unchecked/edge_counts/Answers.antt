-- `unchecked::edge_counts` meets its contract.
use Rattle.polygons.specs.Flat.{point}
use Rattle.inside.proofs.Edges.{EdgeNear, level_told, up_told, down_told}
use Rattle.inside.proofs.unchecked.edge_counts.Goals as goal
use Rattle.inside.proofs.unchecked.edge_counts.Goals.{Start}

near : (c : Start) → let a = c.args in EdgeNear (point a.x a.y) (point a.ax a.ay) (point a.bx a.by)
near c = record { of_p = c.requires.0; of_a = c.requires.1; of_b = c.requires.2 }

pub returns-in-true-false : goal.returns-in-true-false
returns-in-true-false c = record {
  value = up_told (near (goal.at.returns-in-true-false c).Start) c.in-true-false.is-0 c.in-true-false.is-1 c.meets_right.ensures.value;
}

pub returns-in-false-true : goal.returns-in-false-true
returns-in-false-true c = record {
  value = down_told (near (goal.at.returns-in-false-true c).Start) c.in-false-true.is-0 c.in-false-true.is-1 c.meets_right-in-false-true.ensures.value;
}

pub returns-in_default : goal.returns-in_default
returns-in_default c = record { value = level_told (near (goal.at.returns-in_default c).Start) c.in_default.is-0 c.in_default.is-1 }

pub returns-in_default-2 : goal.returns-in_default-2
returns-in_default-2 c = record { value = level_told (near (goal.at.returns-in_default-2 c).Start) c.in_default.is-0 c.in_default.is-1 }

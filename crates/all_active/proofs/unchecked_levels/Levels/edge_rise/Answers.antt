-- `Levels::edge_rise` meets its contract.
use Rattle.all_active.proofs.Searches.{edge_flat, edge_none, edge_here, held}
use Rattle.all_active.proofs.unchecked_levels.Levels.edge_rise.Goals as goal

pub returns-then-y-z : goal.returns-then-y-z
returns-then-y-z c = record { result = edge_flat c.args.self.climbing (held c.ranges.z) (held c.ranges.y) c.if-y-z.true }

pub returns-then-b-a : goal.returns-then-b-a
returns-then-b-a c = record {
  result = edge_none c.args.self.climbing (held c.ranges.z) (held c.ranges.y) c.first_above-a.ensures.result
      c.first_past-b.ensures.result c.if-b-a.true;
}

pub returns : goal.returns
returns c = record {
  result = edge_here c.args.self.climbing (held c.ranges.z) (held c.ranges.y) c.first_above-a.ensures.result
      c.first_past-b.ensures.result c.if-b-a.false c.ranges.z.sfits;
}

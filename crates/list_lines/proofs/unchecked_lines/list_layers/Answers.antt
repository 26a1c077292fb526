-- `unchecked_lines::list_layers` meets its contract.
use native.Mathlib.Omega.{arith}
use Rattle.list_lines.proofs.Layers.{first_room, first_put, listing_put}
use Rattle.list_lines.proofs.unchecked_lines.list_layers.Goals as goal

pub write_layers_line-p-requires : goal.write_layers_line-p-requires
write_layers_line-p-requires c =
    first_room _ (omega arith) c.requires.fact_3

pub list_lines-requires : goal.list_lines-requires
list_lines-requires c = record {
  fact_1 = c.requires.fact_1;
  fact_2 = c.requires.fact_2;
  fact_3 = first_put _ c.write_layers_line-p.ensures.outcome (omega arith) c.requires.fact_3;
}

pub returns : goal.returns
returns c = record { outcome = listing_put _ c.write_layers_line-p.ensures.outcome _ _ c.taken_count-n.ensures.value c.list_lines.ensures.outcome }

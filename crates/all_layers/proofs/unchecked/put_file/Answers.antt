-- `unchecked::put_file` meets its contract.
use Rattle.all_layers.proofs.unchecked.put_file.Goals as goal

pub put_layers-requires : goal.put_layers-requires
put_layers-requires c = record {
  fact_1 = c.requires;
  fact_2 = c.requires.listed.few;
}

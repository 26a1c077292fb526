-- `unchecked_sweep::begin` meets its contract.
use Rattle.all_sweep.specs.Works.{taken}
use Rattle.all_sweep.specs.StepLaws.{begun_at, spent_at}
use Rattle.all_sweep.proofs.unchecked_sweep.begin.Goals as goal

pub deal_lists-requires : goal.deal_lists-requires
deal_lists-requires c =
    let rooms = c.requires.fact_2 in record {
      fact_1 = c.requires.fact_1.named;
      fact_2 = (rooms.1, rooms.2, rooms.0);
    }

pub returns : goal.returns
returns c =
    let heights = taken c.args.levels in
    let heads = c.args.heads.now in
    let rooms = c.requires.fact_2 in
    let dealt = c.deal_lists.ensures.lists in
    let size = c.deal_lists.auto.heads in record {
      lists = begun_at c.requires.fact_1 heights heads rooms.1 rooms.2 dealt size;
      spent = spent_at c.requires.fact_1 heights heads rooms.1 rooms.2 dealt size;
      total = c.deal_lists.ensures.total;
    }

-- `unchecked::ring_test` meets its contract.
use mathlib.Core.Path.{◌∙◌}
use mir.Syntax.{w32}
use Rattle.laws.specs.Machine.{same}
use Rattle.mesh.specs.Meshes.{ordered}
use Rattle.sweep.specs.Sweep.{Sweep, sweep}
use Rattle.sweep.proofs.Moves.{placed_long, placed_last, ring_refused, ring_fine}
use Rattle.sweep.proofs.unchecked.ring_test.Goals as goal
use Rattle.sweep.proofs.unchecked.ring_test.Goals.{Start}

abbrev sweep_of : Start → Sweep
sweep_of start =
    sweep (ordered start.args.coords.now start.args.corners.now start.args.pairing.now start.args.order.now)
    start.args.ring.now start.args.n

pub height_behind-h-requires : goal.height_behind-h-requires
height_behind-h-requires c = record {
  fact_1 = placed_long c.requires;
  fact_2 = placed_last c.requires;
}

pub number_behind-k-requires : goal.number_behind-k-requires
number_behind-k-requires c = placed_long c.requires

pub returns-then-c-corners : goal.returns-then-c-corners
returns-then-c-corners c =
    let start = (goal.at.returns-then-c-corners c).Start in
    record {
      told = ring_refused (sweep_of start) c.requires (same w32 c.height_behind-h.result c.height_behind-h.type_inv ∙ c.height_behind-h.ensures.value)
          c.number_behind-k.ensures.value c.first_wrong-c.ensures.value c.if-c-corners.true;
    }

pub returns : goal.returns
returns c =
    let start = (goal.at.returns c).Start in
    record {
      told = ring_fine (sweep_of start) c.requires (same w32 c.height_behind-h.result c.height_behind-h.type_inv ∙ c.height_behind-h.ensures.value)
          c.number_behind-k.ensures.value c.first_wrong-c.ensures.value c.if-c-corners.false;
    }

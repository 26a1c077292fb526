-- `unchecked::move_layer` meets its contract.
use mathlib.Core.Path.{refl}
use native.Mathlib.Omega.{arith}
use Rattle.clean_layers.proofs.Filling.{here_start, here_room, here_up, here_next, here_dropped, here_kept, here_all}
use Rattle.clean_layers.proofs.unchecked.move_layer.Goals as goal
use Rattle.clean_layers.proofs.unchecked.move_layer.Goals.{then-at-next, else-at-next}

pub loop-j-init : goal.loop-j-init
loop-j-init c = here_start c.requires

pub move_contour-next-requires : goal.move_contour-next-requires
move_contour-next-requires c =
    let loop = c.loop-j in
    let there = c.requires.there in record {
      fact_1 = here_room loop.invariant c.loop-j-test.true there refl;
      fact_2 = here_up loop.invariant c.loop-j-test.true there refl;
    }

pub overflow_cast-ends : goal.overflow_cast-ends
overflow_cast-ends c =
    let loop = c.loop-j in
    omega (arith, here_next loop.invariant c.loop-j-test.true c.requires.there refl c.move_contour-next.ensures.outcome)

pub loop-j-preserved : goal.loop-j-preserved
loop-j-preserved c =
    let loop = c.loop-j in
    let there = c.requires.there in
    elim c.if-at-next.branch [
      | then-at-next w ↦
          rw (w.ends-is, w.at-is, w.kept-is)
          (here_kept loop.invariant c.loop-j-test.true there refl c.move_contour-next.ensures.outcome w.if-at-next.true)
      | else-at-next w ↦
          rw (w.ends-is, w.at-is, w.kept-is)
          (here_dropped loop.invariant c.loop-j-test.true there refl c.move_contour-next.ensures.outcome w.if-at-next.false)
    ]

pub returns : goal.returns
returns c = record { outcome = here_all c.loop-j.invariant c.requires.there c.loop-j-test.false }

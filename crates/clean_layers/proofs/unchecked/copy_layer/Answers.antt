-- `unchecked::copy_layer` meets its contract.
use mathlib.Core.Path.{refl}
use native.Mathlib.Omega.{arith}
use Rattle.clean_layers.proofs.Filling.{fill_start, fill_next, fill_dropped, fill_kept, fill_all}
use Rattle.clean_layers.proofs.unchecked.copy_layer.Goals as goal
use Rattle.clean_layers.proofs.unchecked.copy_layer.Goals.{then-at-next, else-at-next}

pub loop-end-init : goal.loop-end-init
loop-end-init c = let pre = c.requires in fill_start pre.rise pre.points_room pre.ends_room

pub overflow_cast-cleanends : goal.overflow_cast-cleanends
overflow_cast-cleanends c =
    let loop = c.loop-end in
    omega (arith, fill_next loop.invariant c.loop-end-test.true refl c.copy_contour-next.ensures.outcome, c.type_inv.ends loop.end-index)

pub loop-end-preserved : goal.loop-end-preserved
loop-end-preserved c =
    let loop = c.loop-end in
    elim c.if-at-next.branch [
      | then-at-next w ↦
          rw (w.cleanends-is, w.at-is, w.kept-is)
          (fill_kept loop.invariant c.loop-end-test.true refl c.copy_contour-next.ensures.outcome w.if-at-next.true)
      | else-at-next w ↦
          rw (w.cleanends-is, w.at-is, w.kept-is)
          (fill_dropped loop.invariant c.loop-end-test.true refl c.copy_contour-next.ensures.outcome w.if-at-next.false)
    ]

pub returns : goal.returns
returns c = record { outcome = fill_all c.loop-end.invariant c.loop-end-test.false }

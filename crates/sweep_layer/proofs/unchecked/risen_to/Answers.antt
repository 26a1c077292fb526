-- `unchecked::risen_to` meets its contract.
use Prim.Native.Nat.{ℕ}
use mathlib.Core.Path.{◌≡◌, refl, sym, ap, ◌∙◌}
use native.Mathlib.Omega.{arith}
use lib.ListN.{get_or}
use lib.IntN.{ℤ}
use mir.Syntax.{w32}
use mir.ValLaws.{to_z-of_z}
use Rattle.mesh.specs.Corners.{vertex_count}
use Rattle.sweep.specs.Sweep.{risen_to}
use Rattle.sweep_layer.proofs.Rising.{rising_start, rising_stop, rising_more, may_not, may, may_end}
use Rattle.sweep_layer.proofs.unchecked.risen_to.Goals as goal
use Rattle.sweep_layer.proofs.unchecked.risen_to.Goals.{In-loop-p, Start}

-- how many it passes, to height z
abbrev count : Start → ℤ → ℕ
count start z = risen_to start.args.coords.now start.args.order.now z (vertex_count start.args.coords.now) start.args.n

pub loop-p-init : goal.loop-p-init
loop-p-init c = rising_start _ _ _ _ c.requires.fact_1

pub returns-then-z-h : goal.returns-then-z-h
returns-then-z-h c = record {
  value = rising_stop _ _ _ _ _ c.loop-p.invariant
      (may_not c.args.coords.now _ _ c.loop-p.p (get_or c.args.order.now c.loop-p.p 0) c.z-1.given refl c.loop-p-test.true c.if-z-h.true)
      ∙ ap (count (goal.at.returns-then-z-h c).Start) (to_z-of_z w32 c.args.h c.ranges.h);
}

pub loop-p-preserved : goal.loop-p-preserved
loop-p-preserved c =
    rising_more _ _ _ _ _ c.loop-p.invariant c.loop-p-test.true
    (may c.args.coords.now _ _ c.loop-p.p (get_or c.args.order.now c.loop-p.p 0) c.z-1.given refl c.loop-p-test.true c.if-z-h.false)

pub returns : goal.returns
returns c =
    let e : c.loop-p.p ≡ vertex_count c.args.coords.now = omega (arith, c.loop-p.invariant.few) in
    record {
      value = sym e ∙ rising_stop _ _ _ _ _ c.loop-p.invariant (may_end _ _ _ c.loop-p.p (omega arith))
          ∙ ap (count (goal.at.returns c).Start) (to_z-of_z w32 c.args.h c.ranges.h);
    }

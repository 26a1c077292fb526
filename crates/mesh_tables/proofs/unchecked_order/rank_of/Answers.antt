-- `unchecked_order::rank_of` meets its contract: r counts the vertices below u that stand before v.
use Prim.Native.Nat.{ℕ}
use mathlib.Core.Path.{sym, ◌∙◌}
use Rattle.mesh_tables.proofs.unchecked_order.rank_of.Goals.{then-comes_before, else-comes_before}
use mathlib.Core.Bool.{Bool}
use native.Mathlib.Omega.{arith}
use Rattle.mesh.specs.Order.{before}
use Rattle.laws.specs.CountLaws.{count_start, count_one, count_none}
use Rattle.mesh_tables.proofs.unchecked_order.rank_of.Goals as goal

pub loop-u-init : goal.loop-u-init
loop-u-init c = (omega arith, omega arith, count_start _)

pub loop-u-preserved : goal.loop-u-preserved
loop-u-preserved c =
    let a = c.args in
    let t : ℕ → Bool = λ w. before a.coords.now w a.v in
    elim c.if-comes_before.branch [
      | then-comes_before w ↦ omega (arith, w.r-is, count_one c.loop-u.u t (sym c.comes_before.ensures.value ∙ w.if-comes_before.true))
      | else-comes_before w ↦ omega (arith, w.r-is, count_none c.loop-u.u t (sym c.comes_before.ensures.value ∙ w.if-comes_before.false))
    ]

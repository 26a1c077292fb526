-- `unchecked::copy_front` meets its contract.
use Prim.Native.Nat.{ℕ}
use mathlib.Core.Path.{◌≡◌, sym, ap, ◌∙◌}
use native.Mathlib.Omega.{arith}
use lib.ListN.{length, get_or, set}
use Rattle.laws.specs.Tables.{refill}
use Rattle.laws.specs.TableLaws.{refill_none, refill_more, length_refill}
use Rattle.sweep_layer.proofs.unchecked.copy_front.Goals as goal

pub loop-i-init : goal.loop-i-init
loop-i-init c = sym (refill_none _ _)

pub loop-i-preserved : goal.loop-i-preserved
loop-i-preserved c =
    (λ k. set (c.loop-i.invariant k) c.loop-i.i (get_or c.args.from.now c.loop-i.i 0))
    ∙ refill_more c.loop-i.i (λ k. get_or c.args.from.now k 0) c.args.to.now (omega (arith, c.requires.1))

pub returns : goal.returns
returns c =
    let e : c.loop-i.i ≡ c.args.n = omega arith in
    record { left = c.loop-i.invariant ∙ ap (λ (n : ℕ). refill n (λ k. get_or c.args.from.now k 0) c.args.to.now) e }

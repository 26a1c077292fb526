-- `unchecked_order::first_misplaced` meets its contract: a search by halves, since an entry that is right has all in front of it right.
use Prim.Native.Nat.{ℕ, ◌+◌, ◌-◌, ◌/◌}
use mathlib.Core.Path.{sym, ◌∙◌}
use native.Mathlib.Omega.{arith}
use Rattle.mesh_tables.proofs.OrderTest.{search_right, search_wrong, search_end}
use Rattle.mesh_tables.proofs.unchecked_order.first_misplaced.Goals as goal

abbrev middle : ℕ → ℕ → ℕ
middle lo hi = lo + (hi - lo) / 2

pub loop-lo-preserved-then-rank_of-mid : goal.loop-lo-preserved-then-rank_of-mid
loop-lo-preserved-then-rank_of-mid c =
    search_right _ _ _ _ _ c.loop-lo.invariant c.requires.1 (middle c.loop-lo.lo c.loop-lo.hi) (omega arith) (omega arith)
    (sym c.rank_of.ensures.value ∙ c.if-rank_of-mid.true)

pub loop-lo-preserved : goal.loop-lo-preserved
loop-lo-preserved c =
    search_wrong _ _ _ _ _ c.loop-lo.invariant c.requires.1 (middle c.loop-lo.lo c.loop-lo.hi) (omega arith) (omega arith)
    (λ e. c.if-rank_of-mid.false (c.rank_of.ensures.value ∙ e))

pub returns : goal.returns
returns c = record { value = search_end _ _ _ _ _ c.loop-lo.invariant c.loop-lo-test.false }

-- `Levels::first_above` meets its contract.
use Prim.Native.Nat.{◌-◌}
use Rattle.all_active.specs.LevelHeights.{level_at}
use Rattle.all_active.specs.LevelLaws.{Halved}
use Rattle.all_active.proofs.unchecked_levels.Levels.first_above.Given as goal

abbrev pub invariant-loop-a : goal.invariant-loop-a
invariant-loop-a l = Halved (level_at l.self) l.self.count 0 l.z l.a l.b

abbrev pub decreases-loop-a : goal.decreases-loop-a
decreases-loop-a l = l.b - l.a

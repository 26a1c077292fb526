-- `Levels::first_past` meets its contract.
use Rattle.all_active.specs.LevelHeights.{level_at}
use Rattle.all_active.specs.LevelLaws.{Halved}
use Rattle.all_active.proofs.unchecked_levels.Levels.first_past.Given as goal

abbrev pub invariant-loop-a : goal.invariant-loop-a
invariant-loop-a l = Halved (level_at l.self) l.self.count l.j l.y l.a l.self.count

-- The heights that a value of the code's `Levels` stands for.
use Rattle.std.specs.Prelude.{ℕ, ℤ}
use Rattle.all_heights.specs.Taking.{height_at}
use Rattle.all_active.specs.declared.unchecked_levels.Levels.{Levels}

-- height k of them
abbrev pub level_at : Levels → ℕ → ℤ
level_at l = height_at l.low l.given.now

-- The normal of a triangle (SECTION-9): x and y of n = (b − a) × (c − a), for its vertices a, b, c, in turn.
use Rattle.std.specs.Prelude.{ℤ, ◌-ℤ◌, ◌*ℤ◌}

-- x of the normal
unfoldable pub normal_x : ℤ → ℤ → ℤ → ℤ → ℤ → ℤ → ℤ
normal_x ay az by bz cy cz = (by -ℤ ay) *ℤ (cz -ℤ az) -ℤ (bz -ℤ az) *ℤ (cy -ℤ ay)

-- y of the normal
unfoldable pub normal_y : ℤ → ℤ → ℤ → ℤ → ℤ → ℤ → ℤ
normal_y ax az bx bz cx cz = (bz -ℤ az) *ℤ (cx -ℤ ax) -ℤ (bx -ℤ ax) *ℤ (cz -ℤ az)

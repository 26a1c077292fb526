-- Laws of the solid on the left (SECTION-9): before rounding, and multiplied out, the way through a triangle
-- from crossing to crossing is (−ny, nx) times a number not below zero.
use Rattle.std.specs.Prelude.{◌≡◌, [], ◌∷◌, ℤ, neg_ℤ, ◌-ℤ◌, ◌*ℤ◌}
use Rattle.laws.specs.Ring.{Ex, x, ⊝, ◌⊕◌, ◌⊖◌, ◌⊗◌, ring}
use Rattle.cut_points.specs.Points.{numerator, denominator}
use Rattle.cut_points.specs.Normals.{normal_x, normal_y}

-- the definitions, as expressions
abbrev over : Ex → Ex → Ex → Ex → Ex → Ex
over u0 u1 z0 z1 h = u0 ⊗ (z1 ⊖ z0) ⊕ (u1 ⊖ u0) ⊗ (h ⊖ z0)

abbrev normal : Ex → Ex → Ex → Ex → Ex → Ex → Ex
normal au az bu bz cu cz = (bu ⊖ au) ⊗ (cz ⊖ az) ⊖ (bz ⊖ az) ⊗ (cu ⊖ au)

-- −ny is made of x as nx is made of y
pub minus_y : (ax az bx bz cx cz : ℤ) → neg_ℤ (normal_y ax az bx bz cx cz) ≡ normal_x ax az bx bz cx cz
unfolding normal_x normal_y
minus_y ax az bx bz cx cz =
    ring (ax ∷ az ∷ bx ∷ bz ∷ cx ∷ cz ∷ []) (⊝ (normal (x 1) (x 0) (x 3) (x 2) (x 5) (x 4))) (normal (x 0) (x 1) (x 2) (x 3) (x 4) (x 5)) tt

-- a below, b and c above: from the crossing of a → c to that of a → b
pub way_below_y : (ay az by bz cy cz h : ℤ)
    → numerator ay by az bz h *ℤ denominator az cz -ℤ numerator ay cy az cz h *ℤ denominator az bz ≡ (h -ℤ az) *ℤ normal_x ay az by bz cy cz
unfolding numerator denominator normal_x
way_below_y ay az by bz cy cz h =
    ring (ay ∷ az ∷ by ∷ bz ∷ cy ∷ cz ∷ h ∷ [])
    (over (x 0) (x 2) (x 1) (x 3) (x 6) ⊗ (x 5 ⊖ x 1) ⊖ over (x 0) (x 4) (x 1) (x 5) (x 6) ⊗ (x 3 ⊖ x 1))
    ((x 6 ⊖ x 1) ⊗ normal (x 0) (x 1) (x 2) (x 3) (x 4) (x 5))
    tt

pub way_below_x : (ax az bx bz cx cz h : ℤ)
    → numerator ax bx az bz h *ℤ denominator az cz -ℤ numerator ax cx az cz h *ℤ denominator az bz ≡ (h -ℤ az) *ℤ neg_ℤ (normal_y ax az bx bz cx cz)
way_below_x ax az bx bz cx cz h = rw minus_y (way_below_y ax az bx bz cx cz h)

-- a above, b and c below: from the crossing of b → a to that of c → a
pub way_above_y : (ay az by bz cy cz h : ℤ)
    → numerator cy ay cz az h *ℤ denominator bz az -ℤ numerator by ay bz az h *ℤ denominator cz az ≡ (az -ℤ h) *ℤ normal_x ay az by bz cy cz
unfolding numerator denominator normal_x
way_above_y ay az by bz cy cz h =
    ring (ay ∷ az ∷ by ∷ bz ∷ cy ∷ cz ∷ h ∷ [])
    (over (x 4) (x 0) (x 5) (x 1) (x 6) ⊗ (x 1 ⊖ x 3) ⊖ over (x 2) (x 0) (x 3) (x 1) (x 6) ⊗ (x 1 ⊖ x 5))
    ((x 1 ⊖ x 6) ⊗ normal (x 0) (x 1) (x 2) (x 3) (x 4) (x 5))
    tt

pub way_above_x : (ax az bx bz cx cz h : ℤ)
    → numerator cx ax cz az h *ℤ denominator bz az -ℤ numerator bx ax bz az h *ℤ denominator cz az ≡ (az -ℤ h) *ℤ neg_ℤ (normal_y ax az bx bz cx cz)
way_above_x ax az bx bz cx cz h = rw minus_y (way_above_y ax az bx bz cx cz h)

-- the normal is the same from each corner of the triangle
pub normal_x_turned : (ay az by bz cy cz : ℤ) → normal_x by bz cy cz ay az ≡ normal_x ay az by bz cy cz
unfolding normal_x
normal_x_turned ay az by bz cy cz =
    ring (ay ∷ az ∷ by ∷ bz ∷ cy ∷ cz ∷ []) (normal (x 2) (x 3) (x 4) (x 5) (x 0) (x 1)) (normal (x 0) (x 1) (x 2) (x 3) (x 4) (x 5)) tt

pub normal_y_turned : (ax az bx bz cx cz : ℤ) → normal_y bx bz cx cz ax az ≡ normal_y ax az bx bz cx cz
unfolding normal_x normal_y
normal_y_turned ax az bx bz cx cz = normal_x_turned az ax bz bx cz cx

-- Area (AREA-1 to AREA-4): the doubled signed area of a run of points (two
-- numbers for each, x and y), its refusals in order, and what is answered.
use Rattle.std.specs.Prelude.{ℕ, zero, suc, ◌+◌, ◌*◌, ◌/◌, not, cond, List, [], ◌∷◌, eqb, length, get_or, ℤ, pos, ◌+ℤ◌, ◌-ℤ◌, ◌*ℤ◌, Result}
pub use Rattle.polygons.specs.Flat.{most_points}
unfoldable pub use Rattle.polygons.specs.Flat.{run_fits}
use Rattle.mesh.specs.Operation.{Answer, Condition, whole, Operation, Does}
use Rattle.mesh.specs.Refusals.{Told, refusal, tell}
use Rattle.mesh.specs.Tests.{range}
use Rattle.mesh.specs.declared.Refusal.{Refusal}

-- ---- the area: twice the signed area by the shoelace formula (AREA-1)

-- the number of points of a run
abbrev pub point_count : List ℤ → ℕ
point_count points = length points / 2

-- x of point i; i is below the number of points wherever it is asked, so the default 0 is never met
abbrev pub x_of : List ℤ → ℕ → ℤ
x_of points i = get_or points (2 * i) (pos 0)

-- y of point i, likewise
abbrev pub y_of : List ℤ → ℕ → ℤ
y_of points i = get_or points (2 * i + 1) (pos 0)

-- x × y' − x' × y of point i and point k
unfoldable pub cross_of : List ℤ → ℕ → ℕ → ℤ
cross_of points i k = x_of points i *ℤ y_of points k -ℤ x_of points k *ℤ y_of points i

-- the point after i of n, the last leading back to the first
unfoldable pub next_point : ℕ → ℕ → ℕ
next_point n i = cond (eqb (i + 1) n) 0 (i + 1)

-- f 0 + .. + f (n - 1)
unfoldable pub sum_of : ℕ → (ℕ → ℤ) → ℤ
sum_of zero f = pos 0
sum_of (suc n) f = sum_of n f +ℤ f n

-- the sum over each point and the next, closed round (AREA-1)
unfoldable pub area_of : List ℤ → ℤ
area_of points = sum_of (point_count points) (λ i. cross_of points i (next_point (point_count points) i))

-- ---- its refusals

-- 1: odd length or more points than LIMIT-6, place 0 (AREA-3)
abbrev pub run_size : List ℤ → Condition Told
run_size points = whole (refusal 1) (not (run_fits (length points)))

-- ---- Area as a whole

-- its refusals in order (AREA-2): 1, and 2, a number out of coordinate range (AREA-4); its value; it is lent no table
abbrev pub measuring : List ℤ → Operation Told ℤ Unit
measuring points = record { refusals = run_size points ∷ range points ∷ []; values = area_of points; leaves = λ v. tt }

-- what its answer says
abbrev pub tell_area : Result ℤ Refusal → Answer Told ℤ
tell_area = tell (λ a. a)

-- the contract of Area
abbrev pub Measures : List ℤ → Result ℤ Refusal → Type 0
Measures points result = Does measuring tell_area points result tt

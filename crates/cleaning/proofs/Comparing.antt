-- Equal points by their bits.
use mathlib.Core.Path.{◌≡◌, refl, sym}
use mathlib.Core.Bool.{Bool, true, false, ◌&&◌}
use borrow.Author.Tests.{eqb-true, eqb-false}
use lib.Dec.{eqb}
use lib.IntN.{ℤ}
use mir.Syntax.{w32}
use mir.Val.{SFits, of_z}
use Rattle.laws.specs.Integers.{eq_z}
use Rattle.laws.specs.Machine.{eq_true, eq_false}
use Rattle.polygons.specs.Flat.{point}
use Rattle.cleaning.specs.Cleaning.{same_point}

-- `==` compares bits
equal_is : (x y : ℤ) → SFits w32 x → SFits w32 y → eqb (of_z w32 x) (of_z w32 y) ≡ eq_z x y
equal_is x y f g = by (eqb (of_z w32 x) (of_z w32 y)) refl
  where
    by : (b : Bool) → eqb (of_z w32 x) (of_z w32 y) ≡ b → b ≡ eq_z x y
    by true e = sym (eq_true f g (eqb-true (of_z w32 x) (of_z w32 y) e))
    by false e = sym (eq_false f g (eqb-false (of_z w32 x) (of_z w32 y) e))

pub same_bits : (x y u v : ℤ) → SFits w32 x → SFits w32 y → SFits w32 u → SFits w32 v
    → (eqb (of_z w32 x) (of_z w32 u) && eqb (of_z w32 y) (of_z w32 v)) ≡ same_point (point x y) (point u v)
unfolding same_point
same_bits x y u v fx fy fu fv = λ i. equal_is x u fx fu i && equal_is y v fy fv i

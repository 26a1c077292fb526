-- `read_coordinate` meets its contract.
use mathlib.Core.Path.{◌≡◌, sym, ap, ◌∙◌}
use Prim.Native.Nat.{ℕ, ◌≤◌}
use Rattle.std.specs.Prelude.{Ok}
use mathlib.Core.Bool.{false}
use native.Mathlib.Omega.{arith}
use lib.IntN.{ℤ, pos, negsuc, nat_abs, ◌+ℤ◌}
use mir.Syntax.{w32, w64}
use mir.Val.{to_z}
use mir.ValLaws.{to_z-of_z}
use lib.Signed.{lt_z}
use Rattle.laws.specs.Machine.{Rd, got, lit, bounded, cast, cast_ok, add, add_ok, lt_true, lt_false}
use Rattle.mesh.specs.Corners.{largest}
use Rattle.mesh.proofs.Raising.{raised}
use Rattle.file_formats.specs.Numbers.{largest_word, unzigzag}
use Rattle.file_formats.specs.NumberLaws.{unzigzag_abs}
use Rattle.file_formats.specs.Positions.{number_at}
use Rattle.file_formats.specs.PositionLaws.{took}
use Rattle.file_check.proofs.PointSteps.{too_low, too_high, coordinate_in_range, no_number, far, near}
use Rattle.file_check.proofs.unchecked_position.read_coordinate.Goals as goal
use Rattle.file_check.proofs.unchecked_position.read_coordinate.Goals.{After-signed_of}
use Rattle.file_check.proofs.unchecked_position.read_coordinate.Goals.{
  then-z-lt-LEAST_COORDINATE_64-via-then-z-lt-LEAST_COORDINATE_64 as low,
  then-z-lt-LEAST_COORDINATE_64-via-else-z-lt-LEAST_COORDINATE_64+then-z-gt-LARGEST_COORDINATE_64 as high,
}

pub returns-in_err-m : goal.returns-in_err-m
returns-in_err-m c = record { value = raised _ c.from_residual.ensures.1 ∙ no_number _ _ _ (sym c.in_err-m.ensures.value) }

-- the number read, and the coordinate that it makes
module _ (c : After-signed_of) where
  abbrev m : ℕ
  m = c.in_ok-m.m

  abbrev next : ℕ
  next = c.in_ok-m.next

  read : number_at largest_word c.args.file.now c.args.at ≡ Ok (m, next)
  read = sym c.in_ok-m.ensures.value

  abbrev before : Rd w64 c.args.before largest
  before = got c.from.type_inv (c.from.ensures ∙ to_z-of_z w32 c.args.before c.ranges.before) c.requires

  abbrev moved : Rd w64 (unzigzag m) 2147483648
  moved = got c.signed_of.type_inv c.signed_of.ensures.value (unzigzag_abs m 2147483648 (omega (arith, (took read).low)))

  abbrev z : Rd w64 (c.args.before +ℤ unzigzag m) 2148532224
  z = add before moved tt

pub overflow_add-z : goal.overflow_add-z
overflow_add-z c = add_ok (before c) (moved c) tt

pub returns-then-z-lt-LEAST_COORDINATE_64 : goal.returns-then-z-lt-LEAST_COORDINATE_64
returns-then-z-lt-LEAST_COORDINATE_64 c =
    let at = (goal.at.returns-then-z-lt-LEAST_COORDINATE_64 c).After-signed_of in
    elim c.then-z-lt-LEAST_COORDINATE_64.branch [
      | low w ↦ record { value = far _ _ _ (read at) (too_low _ (lt_true (z at) (lit (negsuc 1048575) tt) w.if-z-lt-LEAST_COORDINATE_64.true)) }
      | high w ↦ record { value = far _ _ _ (read at) (too_high _ (lt_true (lit (pos 1048576) tt) (z at) w.if-z-gt-LARGEST_COORDINATE_64.true)) }
    ]

-- the coordinate, which the two tests have passed
within : {y : ℤ} (r : Rd w64 y 2148532224) → lt_z (to_z w64 r.n) (negsuc 1048575) ≡ false → lt_z (pos 1048576) (to_z w64 r.n) ≡ false
    → nat_abs y ≤ largest
within r l h = coordinate_in_range _ (lt_false r (lit (negsuc 1048575) tt) l) (lt_false (lit (pos 1048576) tt) r h)

pub overflow_cast-result : goal.overflow_cast-result
overflow_cast-result c =
    let y = z (goal.at.overflow_cast-result c).After-signed_of in
    cast_ok (bounded y (within y c.if-z-lt-LEAST_COORDINATE_64.false c.if-z-gt-LARGEST_COORDINATE_64.false)) tt

pub returns : goal.returns
returns c =
    let at = (goal.at.returns c).After-signed_of in
    let y = z at in
    let k = within y c.if-z-lt-LEAST_COORDINATE_64.false c.if-z-gt-LARGEST_COORDINATE_64.false in record {
      value = ap (λ (y : ℤ). Ok (y, next at)) (cast {w' = w32} (bounded y k) tt).is ∙ near _ _ _ (read at) k;
    }

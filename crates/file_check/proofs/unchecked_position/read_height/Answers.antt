-- `read_height` meets its contract.
use mathlib.Core.Path.{◌≡◌, sym, ap, ◌∙◌}
use Prim.Native.Nat.{ℕ}
use Rattle.std.specs.Prelude.{Ok}
use native.Mathlib.Omega.{arith}
use lib.IntN.{ℤ}
use mir.Syntax.{w64}
use Rattle.laws.specs.Machine.{Rd, fit, got, lt_is}
use Rattle.mesh.proofs.Raising.{raised}
use Rattle.file_formats.specs.Numbers.{largest_word, unzigzag}
use Rattle.file_formats.specs.NumberLaws.{unzigzag_abs}
use Rattle.file_formats.specs.Positions.{number_at}
use Rattle.file_formats.specs.PositionLaws.{took}
use Rattle.file_check.proofs.LayerSteps.{no_height, not_above_lem, above}
use Rattle.file_check.proofs.unchecked_position.read_height.Goals as goal
use Rattle.file_check.proofs.unchecked_position.read_height.Goals.{After-signed_of-h}

pub returns-in_err-m : goal.returns-in_err-m
returns-in_err-m c = record { value = raised _ c.from_residual.ensures.1 ∙ no_height _ _ _ (sym c.in_err-m.ensures.value) }

-- the number read, and the height that it stands for
module _ (c : After-signed_of-h) where
  abbrev m : ℕ
  m = c.in_ok-m.m

  read : number_at largest_word c.args.file.now c.args.at ≡ Ok (m, c.in_ok-m.next)
  read = sym c.in_ok-m.ensures.value

  abbrev height : Rd w64 (unzigzag m) 2147483648
  height = got c.signed_of-h.type_inv c.signed_of-h.ensures.value (unzigzag_abs m 2147483648 (omega (arith, (took read).low)))

pub returns-then-low-h : goal.returns-then-low-h
returns-then-low-h c =
    let at = (goal.at.returns-then-low-h c).After-signed_of-h in record {
      value = ap (λ (z : ℤ). Ok (z, c.in_ok-m.next)) (height at).is
          ∙ above _ _ _ (read at) (lt_is (fit c.ranges.low) (height at) c.if-low-h.true);
    }

pub returns : goal.returns
returns c =
    let at = (goal.at.returns c).After-signed_of-h in
    record { value = not_above_lem _ _ _ (read at) (lt_is (fit c.ranges.low) (height at) c.if-low-h.false) }

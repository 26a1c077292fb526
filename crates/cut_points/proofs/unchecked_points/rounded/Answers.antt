-- `rounded` meets its contract.
use mathlib.Core.Path.{refl, ◌∙◌}
use Prim.Native.Nat.{◌≤◌}
use lib.IntN.{pos, nat_abs, ◌-ℤ◌, ◌*ℤ◌}
use native.Mathlib.Omega.{arith}
use lib.Signed.{quot_z}
use mir.Syntax.{w64}
use mir.Val.{to_z}
use Rattle.laws.specs.Machine.{Rd, arg, lit, add, add_ok, sub, sub_ok, mul, mul_ok, div, div_ok, lt_true, lt_false}
use Rattle.cut_points.proofs.Rounding.{raised_by, half_small, half_less, half_kept, dividend_small, divisor_above, rounded_by}
use Rattle.cut_points.proofs.unchecked_points.rounded.Goals as goal
use Rattle.cut_points.proofs.unchecked_points.rounded.Goals.{Joined-n-lt0, Start, then-n-lt0, else-n-lt0}

-- the locals, as the code makes them
module _ (c : Start) where
  abbrev n : Rd w64 c.args.n 2199023255552
  n = arg c.ranges.n (dividend_small _ _ c.requires)

  abbrev d : Rd w64 c.args.d 2097152
  d = arg c.ranges.d c.requires.small

  abbrev m : Rd w64 (pos 2 *ℤ c.args.d) 4194304
  m = mul (lit (pos 2) tt) d tt

  -- what is added below zero, and else
  abbrev below : Rd w64 (c.args.d -ℤ pos 1) 2097153
  below = sub d (lit (pos 1) tt) tt

  abbrev above : Rd w64 c.args.d 2097152
  above = d

pub overflow_mul-m : goal.overflow_mul-m
overflow_mul-m c = mul_ok (lit (pos 2) tt) (d c) tt

pub overflow_sub-half : goal.overflow_sub-half
overflow_sub-half c = sub_ok (d (goal.at.overflow_sub-half c).Start) (lit (pos 1) tt) tt

module _ (c : Joined-n-lt0) where
  -- the number that the two arms set
  half_le : nat_abs (to_z w64 c.if-n-lt0.half-bits) ≤ 4194305
  half_le =
      elim c.if-n-lt0.branch [
        | then-n-lt0 w ↦ half_small (below c.before) w.half-is (omega arith)
        | else-n-lt0 w ↦ half_small (above c.before) w.half-is (omega arith)
      ]

  abbrev half : Rd w64 (to_z w64 c.if-n-lt0.half-bits) 4194305
  half = record { n = c.if-n-lt0.half-bits; is = refl; le = half_le }

  abbrev t : Rd w64 (raised_by (to_z w64 c.if-n-lt0.half-bits) c.args.n c.args.d) 8796097216513
  t = add (add (mul (lit (pos 2) tt) (n c.before) tt) half tt) (mul (lit (pos 1048576) tt) (m c.before) tt) tt

  abbrev q : Rd w64 (quot_z (raised_by (to_z w64 c.if-n-lt0.half-bits) c.args.n c.args.d) (pos 2 *ℤ c.args.d)) 8796097216513
  q = div t (m c.before) (divisor_above _ _ c.requires) tt

pub overflow_mul-t : goal.overflow_mul-t
overflow_mul-t c = mul_ok (lit (pos 2) tt) (n (goal.at.overflow_mul-t c).Start) tt

pub overflow_add-t : goal.overflow_add-t
overflow_add-t c = add_ok (mul (lit (pos 2) tt) (n (goal.at.overflow_add-t c).Start) tt) (half c) tt

pub overflow_mul-t-2 : goal.overflow_mul-t-2
overflow_mul-t-2 c = mul_ok (lit (pos 1048576) tt) (m (goal.at.overflow_mul-t-2 c).Start) tt

pub overflow_add-t-2 : goal.overflow_add-t-2
overflow_add-t-2 c =
    let at = (goal.at.overflow_add-t-2 c).Start in
    add_ok (add (mul (lit (pos 2) tt) (n at) tt) (half c) tt) (mul (lit (pos 1048576) tt) (m at) tt) tt

pub nonzero_div-result : goal.nonzero_div-result
nonzero_div-result c = div_ok (t c) (m (goal.at.nonzero_div-result c).Start) (divisor_above _ _ c.requires) tt

pub overflow_sub-result : goal.overflow_sub-result
overflow_sub-result c = sub_ok (q c) (lit (pos 1048576) tt) tt

pub returns : goal.returns
returns c = record {
  value = (sub (q c) (lit (pos 1048576) tt) tt).is
      ∙ rounded_by (to_z w64 c.if-n-lt0.half-bits) c.args.n c.args.d c.requires
      (elim c.if-n-lt0.branch [
        | then-n-lt0 w ↦ w.half-is ∙ (below c.before).is ∙ half_less _ _ (lt_true (n c.before) (lit (pos 0) tt) w.if-n-lt0.true)
        | else-n-lt0 w ↦ w.half-is ∙ (above c.before).is ∙ half_kept _ _ (lt_false (n c.before) (lit (pos 0) tt) w.if-n-lt0.false)
      ]);
}

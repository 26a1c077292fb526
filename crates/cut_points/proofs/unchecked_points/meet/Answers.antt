-- `meet` meets its contract.
use mathlib.Core.Path.{◌≡◌, sym, ◌∙◌, subst₂}
use lib.IntN.{ℤ, ◌+ℤ◌, ◌-ℤ◌, ◌*ℤ◌}
use mir.Syntax.{w32, w64}
use Rattle.laws.specs.Machine.{Rd, arg, got, cast, cast_ok, add, add_ok, sub, mul, mul_ok}
use Rattle.cut_points.specs.Points.{numerator, denominator, rounded}
use Rattle.cut_points.specs.Climbs.{Fraction}
use Rattle.cut_points.specs.PointLaws.{edge_fraction, edge_height}
use Rattle.cut_points.proofs.RoundedLaws.{edge_point}
use Rattle.cut_points.proofs.unchecked_points.meet.Goals as goal
use Rattle.cut_points.proofs.unchecked_points.meet.Goals.{After-rounded, Start}

-- the locals, as the code makes them
module _ (c : Start) where
  abbrev u0 : Rd w32 c.args.u0 1048576
  u0 = arg c.ranges.u0 c.requires.u0_in

  abbrev u1 : Rd w32 c.args.u1 1048576
  u1 = arg c.ranges.u1 c.requires.u1_in

  abbrev z0 : Rd w32 c.args.z0 1048576
  z0 = arg c.ranges.z0 c.requires.z0_in

  abbrev z1 : Rd w32 c.args.z1 1048576
  z1 = arg c.ranges.z1 c.requires.z1_in

  abbrev h : Rd w32 c.args.h 1048576
  h = arg c.ranges.h (edge_height c.requires)

  abbrev d : Rd w64 (c.args.z1 -ℤ c.args.z0) 2097152
  d = sub (cast z1 tt) (cast z0 tt) tt

  abbrev p : Rd w64 (c.args.u0 *ℤ (c.args.z1 -ℤ c.args.z0)) 2199023255552
  p = mul (cast u0 tt) d tt

  abbrev du : Rd w64 (c.args.u1 -ℤ c.args.u0) 2097152
  du = sub (cast u1 tt) (cast u0 tt) tt

  abbrev t : Rd w64 (c.args.h -ℤ c.args.z0) 2097152
  t = sub (cast h tt) (cast z0 tt) tt

  abbrev n : Rd w64 (c.args.u0 *ℤ (c.args.z1 -ℤ c.args.z0) +ℤ (c.args.u1 -ℤ c.args.u0) *ℤ (c.args.h -ℤ c.args.z0)) 6597069766656
  n = add p (mul du t tt) tt

pub overflow_mul-n : goal.overflow_mul-n
overflow_mul-n c = mul_ok (cast (u0 c) tt) (d c) tt

pub overflow_mul-n-2 : goal.overflow_mul-n-2
overflow_mul-n-2 c = mul_ok (du c) (t c) tt

pub overflow_add-n : goal.overflow_add-n
overflow_add-n c = add_ok (p c) (mul (du c) (t c) tt) tt

pub rounded-requires : goal.rounded-requires
unfolding numerator denominator
rounded-requires c = subst₂ Fraction (sym (n c).is) (sym (d c).is) (edge_fraction c.requires)

module _ (c : After-rounded) where
  abbrev exact : ℤ
  exact = let a = c.args in rounded (numerator a.u0 a.u1 a.z0 a.z1 a.h) (denominator a.z0 a.z1)

  result_is : c.rounded.result ≡ exact
  unfolding numerator denominator
  result_is = c.rounded.ensures.value ∙ (λ i. rounded ((n c.before).is i) ((d c.before).is i))

  abbrev point : Rd w64 exact 1048576
  point = got c.rounded.type_inv result_is (edge_point c.requires)

pub overflow_cast-result : goal.overflow_cast-result
overflow_cast-result c = cast_ok (point c) tt

pub returns : goal.returns
returns c = record { value = (cast {w' = w32} (point c) tt).is }

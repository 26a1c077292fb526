-- One trapezoid more: points made wider, the result of `trapezoid`, and the sum with it.
use Prim.Native.Nat.{ℕ, ◌+◌, ◌*◌, ◌^◌, ◌≤◌, ◌<◌}
use mathlib.Core.Path.{◌≡◌, refl, ap, ◌∙◌}
use mathlib.Core.Bool.{true, false}
use lib.IntN.{ℤ, pos, nat_abs, ◌+ℤ◌, ◌-ℤ◌, ◌*ℤ◌}
use lib.Signed.{mag}
use mir.Syntax.{w32, w64}
use mir.Val.{SFits, to_z, of_z}
use Rattle.laws.specs.Machine.{Rd, small, got, same, same_in, add, add_ok}
use Rattle.mesh.specs.Corners.{largest, most_points}
use Rattle.polygons.specs.Flat.{Point, PointNear}
use Rattle.polygons.specs.ContourAreas.{largest_cross}
use Rattle.area_sum.specs.declared.AreaSum.{AreaSum}
use Rattle.area_sum.specs.Summing.{trapezoid_points, way_start, first_summed, summed, summing, closing, SumSmall}

-- ---- a point, made wider

-- a number that is written to a local of 64 bits and read back
abbrev pub held : ℤ → ℤ
held z = to_z w64 (of_z w64 z)

pub narrow_is : (z : ℤ) → nat_abs z ≤ largest → to_z w32 (of_z w32 z) ≡ z
narrow_is z h = same_in w32 z largest h tt

-- the number of 64 bits that a coordinate is widened to
abbrev pub widened : ℤ → ℤ
widened z = held (to_z w32 (of_z w32 z))

pub wide_is : (z : ℤ) → nat_abs z ≤ largest → widened z ≡ z
wide_is z h = ap held (narrow_is z h) ∙ same_in w64 z largest h tt

-- what `trapezoid` asks of the edge from p to q
pub edge_near : (p q : Point) → PointNear p → PointNear q
    → (nat_abs (widened p.x) ≤ largest) × (nat_abs (widened p.y) ≤ largest) × (nat_abs (widened q.x) ≤ largest) × (nat_abs (widened q.y) ≤ largest)
edge_near p q h k = (rw (wide_is p.x h.0) h.0, rw (wide_is p.y h.1) h.1, rw (wide_is q.x k.0) k.0, rw (wide_is q.y k.1) k.1)

-- x and y are the coordinates of p, a point in range
pub record Wider (p : Point) (x y : ℤ) : Type 0 where
  pub near : PointNear p
  pub x_is : held x ≡ p.x
  pub y_is : held y ≡ p.y

pub made_wider : {p : Point} {x y : ℤ} → PointNear p → mag x < 2 ^ 63 → mag y < 2 ^ 63 → x ≡ to_z w32 (of_z w32 p.x) → y ≡ to_z w32 (of_z w32 p.y)
    → Wider p x y
made_wider {p} {x} {y} h f g d e =
    record { near = h; x_is = same w64 x f ∙ d ∙ narrow_is p.x h.0; y_is = same w64 y g ∙ e ∙ narrow_is p.y h.1 }

module _ {p q : Point} {x y u v : ℤ} (a : Wider p x y) (b : Wider q u v) where
  -- the same of the edge as it is held
  pub wider_near : (nat_abs (held x) ≤ largest) × (nat_abs (held y) ≤ largest) × (nat_abs (held u) ≤ largest) × (nat_abs (held v) ≤ largest)
  wider_near = (rw a.x_is a.near.0, rw a.y_is a.near.1, rw b.x_is b.near.0, rw b.y_is b.near.1)

  -- and what it promises of its result
  abbrev pub Trapezoid : ℤ → Type 0
  Trapezoid z = z ≡ (held x -ℤ held u) *ℤ (held y +ℤ held v)

  pub trapezoid_is : {z : ℤ} → Trapezoid z → z ≡ trapezoid_points p q
  unfolding trapezoid_points
  trapezoid_is e = e ∙ (λ i. (a.x_is i -ℤ b.x_is i) *ℤ (a.y_is i +ℤ b.y_is i))

-- ---- the sum

-- the most that points of a layer come to
abbrev most : ℕ
most = most_points * (2 * largest_cross)

module _ {s : AreaSum} (w : SumSmall s) (z : ℤ) (f : mag z < 2 ^ 63) (h : nat_abs z ≤ 2 * largest_cross) where
  abbrev before : Rd w64 s.sum most
  before = small w.small tt

  abbrev more : Rd w64 z (2 * largest_cross)
  more = got f refl h

  -- one trapezoid more
  pub sum_ok : SFits w64 (to_z w64 (of_z w64 s.sum) +ℤ to_z w64 (of_z w64 z))
  sum_ok = add_ok before more tt

  abbrev pub sum_with : Rd w64 (s.sum +ℤ z) (most + 2 * largest_cross)
  sum_with = add before more tt

  -- and another
  module _ (y : ℤ) (g : mag y < 2 ^ 63) (k : nat_abs y ≤ 2 * largest_cross) where
    abbrev last : Rd w64 y (2 * largest_cross)
    last = got g refl k

    pub sum_twice_ok : SFits w64 (to_z w64 sum_with.n +ℤ to_z w64 (of_z w64 y))
    sum_twice_ok = add_ok sum_with last tt

    pub sum_twice : to_z w64 (of_z w64 (to_z w64 sum_with.n +ℤ to_z w64 (of_z w64 y))) ≡ s.sum +ℤ z +ℤ y
    sum_twice = (add sum_with last tt).is

-- ---- the sum after one more point

module _ (s : AreaSum) (p q : Point) {z : ℤ} (e : z ≡ s.sum +ℤ trapezoid_points p q) where
  pub point_later : s.begun ≡ true → summed z (first_summed s) s.begun ≡ summing s p q
  unfolding summing
  point_later t = simp (e, t)

  pub point_first : s.begun ≡ false → summed z q true ≡ summing s p q
  unfolding summing
  point_first t = simp (e, t)

-- after the last point p, closed by the trapezoids z to the first point and y from there to where the way began
module _ (s : AreaSum) {p : Point} {a b u v : ℤ} (w : SumSmall s) (last : Wider p a b) (first : Wider (first_summed s) u v) where
  pub closes : (z : ℤ) (f : mag z < 2 ^ 63) (g : nat_abs z ≤ 2 * largest_cross) → Trapezoid last first z
      → (y : ℤ) (k : mag y < 2 ^ 63) (l : nat_abs y ≤ 2 * largest_cross) → y ≡ (held u -ℤ pos 0) *ℤ (held v +ℤ pos 0)
      → to_z w64 (of_z w64 (to_z w64 (sum_with w z f g).n +ℤ to_z w64 (of_z w64 y))) ≡ closing s p
  unfolding closing trapezoid_points
  closes z f g d y k l e =
      let back : y ≡ trapezoid_points (first_summed s) way_start = e ∙ (λ i. (first.x_is i -ℤ pos 0) *ℤ (first.y_is i +ℤ pos 0)) in
      sum_twice w z f g y k l ∙ (λ i. s.sum +ℤ trapezoid_is last first d i +ℤ back i)

-- How far a rise to h comes: what the loop of `risen_to` says, in the terms of the definition.
use Prim.Native.Nat.{ℕ, zero, suc, ◌+◌, ◌^◌, ◌≤◌, ◌<◌}
use mathlib.Core.Path.{◌≡◌, refl, sym, ap, ◌∙◌}
use mathlib.Core.Bool.{Bool, true, false, not, cond}
use mathlib.Core.List.{List}
use native.Mathlib.Omega.{arith}
use native.Mathlib.Numerals.{add-one}
use borrow.Author.Tests.{lt-ltb, le-ltb}
use lib.ListN.{get_or}
use lib.IntN.{ℤ}
use lib.Signed.{lt_z, le_z, mag}
use mir.Syntax.{w32}
use mir.Val.{to_z, of_z}
use Rattle.laws.specs.Integers.{lt_not_le}
use Rattle.laws.specs.Machine.{same}
use Rattle.mesh.specs.Corners.{vertex_count, z_of}
use Rattle.section.specs.Section.{below}
use Rattle.sweep.specs.Sweep.{may_rise, risen_to}

module _ (coords : List ℤ) (order : List ℕ) (h : ℤ) where
  turn_on : (m p : ℕ) → may_rise coords order h p ≡ true → risen_to coords order h (suc m) p ≡ risen_to coords order h m (suc p)
  unfolding risen_to
  turn_on m p e = ap (λ (b : Bool). cond b (risen_to coords order h m (suc p)) p) e

  turn_off : (m p : ℕ) → may_rise coords order h p ≡ false → risen_to coords order h m p ≡ p
  unfolding risen_to
  turn_off zero p e = refl
  turn_off (suc m) p e = ap (λ (b : Bool). cond b (risen_to coords order h m (suc p)) p) e

  -- the rise from n goes on from p
  pub record RiseGoesOn (n p : ℕ) : Type 0 where
    pub low : n ≤ p
    pub few : p ≤ vertex_count coords
    pub left : ℕ
    pub enough : vertex_count coords ≤ p + left
    pub rest : risen_to coords order h (vertex_count coords) n ≡ risen_to coords order h left p

  pub rising_start : (n : ℕ) → n ≤ vertex_count coords → RiseGoesOn n n
  rising_start n l = record { low = omega arith; few = l; left = vertex_count coords; enough = omega arith; rest = refl }

  pub rising_stop : (n p : ℕ) → RiseGoesOn n p → may_rise coords order h p ≡ false → p ≡ risen_to coords order h (vertex_count coords) n
  rising_stop n p r e = sym (r.rest ∙ turn_off r.left p e)

  pub rising_more : (n p : ℕ) → RiseGoesOn n p → p < vertex_count coords → may_rise coords order h p ≡ true → RiseGoesOn n (p + 1)
  rising_more n p r l e = by r.left r.enough r.rest
    where
      by : (m : ℕ) → vertex_count coords ≤ p + m → risen_to coords order h (vertex_count coords) n ≡ risen_to coords order h m p → RiseGoesOn n (p + 1)
      by zero k q = absurd (omega arith)
      by (suc m) k q =
          record {
            low = omega (arith, r.low);
            few = omega arith;
            left = m;
            enough = omega arith;
            rest = q ∙ turn_on m p e ∙ ap (risen_to coords order h m) (sym (add-one p));
          }

  -- the code's comparison
  module _ (p w : ℕ) (fz : mag (z_of coords w) < 2 ^ 31) (ew : w ≡ get_or order p 0) (l : p < vertex_count coords) where
    compared : {b : Bool} → le_z h (to_z w32 (of_z w32 (z_of coords w))) ≡ b → below coords h (get_or order p 0) ≡ not b
    unfolding below
    compared e =
        ap (λ (v : ℕ). lt_z (z_of coords v) h) (sym ew) ∙ lt_not_le (z_of coords w) h ∙ ap not (ap (le_z h) (sym (same w32 (z_of coords w) fz)) ∙ e)

    pub may_not : le_z h (to_z w32 (of_z w32 (z_of coords w))) ≡ true → may_rise coords order h p ≡ false
    unfolding may_rise
    may_not e = let a = lt-ltb p (vertex_count coords) l in let b = compared e in simp (a, b)

    pub may : le_z h (to_z w32 (of_z w32 (z_of coords w))) ≡ false → may_rise coords order h p ≡ true
    unfolding may_rise
    may e = let a = lt-ltb p (vertex_count coords) l in let b = compared e in simp (a, b)

  pub may_end : (p : ℕ) → vertex_count coords ≤ p → may_rise coords order h p ≡ false
  unfolding may_rise
  may_end p l = let a = le-ltb p (vertex_count coords) l in simp a

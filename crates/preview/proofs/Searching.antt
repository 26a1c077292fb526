-- The search by halves for the contour of a call.
use Prim.Native.Nat.{ℕ, ◌+◌, ◌≤◌, ◌<◌}
use mathlib.Core.Path.{◌≡◌, sym, subst}
use mathlib.Core.List.{List}
use native.Mathlib.Omega.{arith}
use native.Mathlib.Numerals.{add-one}
use lib.ListN.{length, get_or}
use Rattle.polygons.specs.Flat.{end_before}
use Rattle.preview.specs.Places.{Belongs}

-- the contour of call k is one of those from a to b
pub record CallHalved (ends : List ℕ) (k a b : ℕ) : Type 0 where
  pub order : a ≤ b
  pub upto : b ≤ length ends
  pub from : end_before 0 ends a + a ≤ k
  pub to : b < length ends → k ≤ get_or ends b 0 + b

pub halved_start : (ends : List ℕ) (k : ℕ) → CallHalved ends k 0 (length ends)
unfolding end_before
halved_start ends k = record { order = omega arith; upto = omega arith; from = omega arith; to = λ h. absurd (omega arith) }

module _ {ends : List ℕ} {k a b : ℕ} (h : CallHalved ends k a b) where
  pub halve_low : {e : ℕ} (m : ℕ) → e ≡ get_or ends m 0 → m < b → e + m < k → CallHalved ends k (m + 1) b
  unfolding end_before
  halve_low {e} m q l t =
      record {
        order = omega arith;
        upto = h.upto;
        from = subst (λ (i : ℕ). end_before 0 ends i + i ≤ k) (sym (add-one m)) (omega arith);
        to = h.to;
      }

  pub halved_end : b ≤ a → Belongs ends k a
  halved_end l =
      let same : b ≡ a = omega (arith, h.order) in
      record {
        upto = omega (arith, h.order, h.upto);
        from = h.from;
        to = subst (λ (i : ℕ). i < length ends → k ≤ get_or ends i 0 + i) same h.to;
      }

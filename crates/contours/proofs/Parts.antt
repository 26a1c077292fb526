-- Where a contour lies, at each return of `contour_part`: the code's previous end s and own end e against the definitions.
use Prim.Native.Nat.{ℕ, ◌+◌, ◌-◌, ◌*◌, ◌≤◌, ◌<◌}
use mathlib.Core.Path.{◌≡◌, refl, sym, ◌∙◌}
use mathlib.Core.Bool.{Bool, true, false}
use mathlib.Core.List.{List}
use native.Mathlib.Omega.{arith}
use lib.ListN.{length, take, drop}
use lib.IntN.{ℤ}
use Rattle.laws.specs.Booleans.{clash}
use Rattle.contours.specs.Contours.{prior_end, own_end, is_contour, span_of, first_of, contour_of}
use Rattle.contours.specs.ContourLaws.{contour_parts, contour_of_lem, span_there, first_there, first_none}
use Rattle.contours.proofs.ContourLaws.{span_none, contour_lies}

module _ (n : ℕ) (ends : List ℕ) (j : ℕ) where
  empty : span_of n ends j ≡ 0 → (0 ≡ first_of n ends j) × (0 ≡ span_of n ends j)
  empty e = (sym (first_none n ends j e), sym e)

  pub part_missing : length ends ≤ j → (0 ≡ first_of n ends j) × (0 ≡ span_of n ends j)
  part_missing h = empty (span_none n ends j (λ c. omega (arith, c.there)))

  pub part_past : {e : ℕ} → e ≡ own_end ends j → n < 2 * e → (0 ≡ first_of n ends j) × (0 ≡ span_of n ends j)
  part_past q h = empty (span_none n ends j (λ c. omega (arith, c.within)))

  module _ {s e : ℕ} (p : s ≡ prior_end ends j) (q : e ≡ own_end ends j) where
    pub part_falls : e ≤ s → (0 ≡ first_of n ends j) × (0 ≡ span_of n ends j)
    part_falls h = by (is_contour n ends j) refl
      where
        by : (b : Bool) → is_contour n ends j ≡ b → (0 ≡ first_of n ends j) × (0 ≡ span_of n ends j)
        by true t = empty (omega (arith, span_there n ends j (contour_parts n ends j t)))
        by false t = empty (span_none n ends j (λ c. clash (contour_of_lem n ends j c) t))

    pub part_there : j < length ends → s < e → 2 * e ≤ n → (2 * s ≡ first_of n ends j) × (2 * (e - s) ≡ span_of n ends j)
    part_there l h w =
        let t : span_of n ends j ≡ 2 * (own_end ends j - prior_end ends j) =
        span_there n ends j (record { there = l; rises = omega arith; within = omega arith }) in
        (omega (arith, first_there n ends j (omega arith)), omega arith)

-- the part that `contour` returns
pub part_is : (points : List ℤ) (ends : List ℕ) (j : ℕ) {f s : ℕ} → f ≡ first_of (length points) ends j → s ≡ span_of (length points) ends j
    → take (f + s - f) (drop f points) ≡ contour_of points ends j
part_is points ends j {f} {s} p q =
    let e : f + s - f ≡ span_of (length points) ends j = omega arith in
    (λ i. take (e i) (drop (p i) points)) ∙ sym (contour_lies points ends j)

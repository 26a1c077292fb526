-- What the code's comparisons and its pass over the vertices say, in the definitions' terms.
use Prim.Native.Nat.{ℕ, zero, suc, ◌+◌, ◌-◌, ◌≤◌, ◌<◌}
use mathlib.Core.Path.{◌≡◌, refl, sym, ap, ◌∙◌}
use mathlib.Core.Bool.{Bool, true, false, not, cond}
use Rattle.std.specs.Int.{int_min, int_max}
use Rattle.std.proofs.lemmas.Int.{ints, clamps}
use mathlib.Core.List.{List}
use native.Mathlib.Omega.{arith}
use native.Mathlib.Numerals.{add-one}
use lib.Dec.{ltb}
use lib.ListN.{get_or, get_or-eq_default}
use lib.IntN.{ℤ, pos}
use lib.Signed.{lt_z, le_z}
use mir.Syntax.{w32}
use mir.Val.{to_z, of_z}
use Rattle.laws.specs.Booleans.{not_not}
use Rattle.laws.specs.Integers.{lt_not_le}
use Rattle.laws.specs.Machine.{same}
use Rattle.mesh.specs.Corners.{vertex_count, z_of}
use Rattle.file_formats.specs.Numbers.{Word}
use Rattle.all_heights.specs.Heights.{lower, higher, lowest_to, highest_to, lowest_z, highest_z, not_above_last}
use Rattle.all_heights.specs.HeightLaws.{first_above, above_last}

-- a signed number as the code holds it
abbrev held : ℤ → ℤ
held z = to_z w32 (of_z w32 z)

-- ---- the lower and the higher of two numbers are the library's `min` and `max`

pub lower_is_min : (a b : ℤ) → int_min a b ≡ lower a b
unfolding lower
lower_is_min a b = refl

pub higher_is_max : (a b : ℤ) → int_max a b ≡ higher a b
unfolding higher
higher_is_max a b = by (lt_z a b) refl
  where
    by : (t : Bool) → lt_z a b ≡ t → int_max a b ≡ cond t b a
    by true e = grind (arith, ints, clamps)
    by false e = grind (arith, ints, clamps)

-- ---- the pass over the vertices: low and high hold the lowest and the highest z of the first v

pub record Spanned (coords : List ℤ) (low high : ℤ) (v : ℕ) : Type 0 where
  pub upto : v ≤ vertex_count coords
  pub low_is : low ≡ lowest_to coords v
  pub high_is : high ≡ highest_to coords v

module _ (coords : List ℤ) where
  -- with no vertex the tables have no z
  absent : vertex_count coords ≡ 0 → pos 0 ≡ z_of coords 0
  absent e = sym (get_or-eq_default coords (pos 0) (omega arith))

  pub span_none : vertex_count coords ≡ 0 → (pos 0 ≡ lowest_z coords) × (pos 0 ≡ highest_z coords)
  unfolding lowest_to highest_to
  span_none e = (absent e ∙ ap (lowest_to coords) (sym e), absent e ∙ ap (highest_to coords) (sym e))

  pub span_start : Word (z_of coords 0) → Spanned coords (held (z_of coords 0)) (held (z_of coords 0)) 0
  unfolding lowest_to highest_to
  span_start f = record { upto = omega arith; low_is = same w32 (z_of coords 0) f; high_is = same w32 (z_of coords 0) f }

  -- l and h are what the calls of `lower` and `higher` gave
  pub span_more : {low high : ℤ} {v : ℕ} → Spanned coords low high v → (l h : ℤ) → Word (z_of coords v) → Word l → Word h
      → l ≡ lower low (held (z_of coords v))
      → h ≡ higher high (held (z_of coords v)) → v < vertex_count coords → Spanned coords (held l) (held h) (v + 1)
  unfolding lowest_to highest_to
  span_more {v = v} s l h f fl fh el eh m =
      let z : held (z_of coords v) ≡ z_of coords v = same w32 (z_of coords v) f in
      record {
        upto = omega arith;
        low_is = same w32 l fl ∙ el ∙ (λ i. lower (s.low_is i) (z i)) ∙ ap (lowest_to coords) (sym (add-one v));
        high_is = same w32 h fh ∙ eh ∙ (λ i. higher (s.high_is i) (z i)) ∙ ap (highest_to coords) (sym (add-one v));
      }

  pub span_end : {low high : ℤ} {v : ℕ} → Spanned coords low high v → vertex_count coords ≤ v → (low ≡ lowest_z coords) × (high ≡ highest_z coords)
  span_end {v = v} s h =
      let e : v ≡ vertex_count coords = omega (arith, s.upto) in
      (s.low_is ∙ ap (lowest_to coords) e, s.high_is ∙ ap (highest_to coords) e)

-- ---- a height and its forerunner

module _ (hs : List ℤ) where
  pub no_forerunner : (i : ℕ) → i ≤ 0 → ltb 0 i ≡ not_above_last hs i
  no_forerunner zero h = sym (first_above hs)
  no_forerunner (suc i) h = absurd (omega arith)

  pub forerunner : (i : ℕ) → 0 < i → Word (get_or hs i (pos 0)) → Word (get_or hs (i - 1) (pos 0))
      → le_z (held (get_or hs i (pos 0))) (held (get_or hs (i - 1) (pos 0))) ≡ not_above_last hs i
  forerunner zero h f g = absurd (omega arith)
  forerunner (suc i) h f g =
      let a = get_or hs (suc i) (pos 0) in
      let b = get_or hs (suc i - 1) (pos 0) in
      let e : suc i - 1 ≡ i = omega arith in
      (λ t. le_z (same w32 a f t) (same w32 b g t))
      ∙ sym (not_not (le_z a b))
      ∙ ap not (sym (lt_not_le b a))
      ∙ ap (λ (j : ℕ). not (lt_z (get_or hs j (pos 0)) a)) e
      ∙ sym (above_last hs i)

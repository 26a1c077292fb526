-- What the code's comparisons of coordinates say of the order of vertices.
use Prim.Native.Nat.{ℕ, ◌<◌, ◌^◌}
use mathlib.Core.Path.{◌≡◌, sym, ◌∙◌}
use mathlib.Core.Bool.{Bool, true, false}
use mathlib.Core.List.{List}
use lib.Dec.{ltb}
use lib.IntN.{ℤ}
use lib.Signed.{lt_z, mag}
use mir.Syntax.{w32}
use mir.Val.{to_z, of_z}
use Rattle.laws.specs.Machine.{same}
use Rattle.mesh.specs.Corners.{z_of}
use Rattle.mesh.specs.Order.{before}

-- a comparison of two coordinates that were loaded
pub loaded_lt : (a b : ℤ) → mag a < 2 ^ 31 → mag b < 2 ^ 31 → {t : Bool} → lt_z (to_z w32 (of_z w32 a)) (to_z w32 (of_z w32 b)) ≡ t → lt_z a b ≡ t
loaded_lt a b ha hb e = (λ i. lt_z (sym (same w32 a ha) i) (sym (same w32 b hb) i)) ∙ e

abbrev held_lower : List ℤ → ℕ → ℕ → Bool
held_lower coords u v = lt_z (to_z w32 (of_z w32 (z_of coords u))) (to_z w32 (of_z w32 (z_of coords v)))

module _ (coords : List ℤ) (u v : ℕ) (hu : mag (z_of coords u) < 2 ^ 31) (hv : mag (z_of coords v) < 2 ^ 31) where
  pub before_lower : held_lower coords u v ≡ true → true ≡ before coords u v
  unfolding before
  before_lower p = simp (loaded_lt (z_of coords u) (z_of coords v) hu hv p)

  pub before_higher : held_lower coords u v ≡ false → held_lower coords v u ≡ true → false ≡ before coords u v
  unfolding before
  before_higher p q = simp (loaded_lt (z_of coords u) (z_of coords v) hu hv p, loaded_lt (z_of coords v) (z_of coords u) hv hu q)

  pub before_level : held_lower coords u v ≡ false → held_lower coords v u ≡ false → ltb u v ≡ before coords u v
  unfolding before
  before_level p q = simp (loaded_lt (z_of coords u) (z_of coords v) hu hv p, loaded_lt (z_of coords v) (z_of coords u) hv hu q)

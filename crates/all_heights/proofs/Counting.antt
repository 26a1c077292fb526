-- How the code counts the heights taken.
use Prim.Native.Nat.{ℕ, ◌+◌, ◌-◌, ◌/◌, ◌<◌}
use mathlib.Core.Path.{◌≡◌, sym, ap, ◌∙◌}
use mathlib.Core.List.{List, [], ◌∷◌}
use native.Mathlib.Omega.{arith}
use lib.Dec.{eqb}
use mathlib.Core.Bool.{Bool, true, false}
use Rattle.std.proofs.lemmas.Bool.{eqb-true, eqb-false}
use lib.ListN.{length}
use lib.IntN.{ℤ, nat_abs, ◌-ℤ◌}
use mir.Syntax.{w32}
use mir.Val.{to_z, of_z}
use Rattle.laws.specs.Machine.{same}
use Rattle.mesh.specs.Corners.{vertex_count}
use Rattle.file_formats.specs.Numbers.{Word}
use Rattle.all_heights.specs.Heights.{first_offset, spacing, lowest_z, highest_z, default_count, heights_taken}
use Rattle.all_heights.specs.HeightLaws.{count_some, length_defaults, taken_default, taken_given}

-- the difference of what the pass over the vertices gave, as the code measures it
pub count_is : (coords : List ℤ) {low high : ℤ} {d : ℕ} → 0 < vertex_count coords → Word low → Word high → low ≡ lowest_z coords → high ≡ highest_z coords
    → d ≡ nat_abs (to_z w32 (of_z w32 high) -ℤ to_z w32 (of_z w32 low)) → (d + (spacing - first_offset)) / spacing ≡ default_count coords
count_is coords {low} {high} some f g l h e =
    ap (λ (n : ℕ). (n + (spacing - first_offset)) / spacing)
    (e ∙ (λ i. nat_abs (same w32 high g i -ℤ same w32 low f i)) ∙ (λ i. nat_abs (h i -ℤ l i)))
    ∙ sym (count_some coords some)

-- whether heights are given, as the code asks it
pub none_given : {n : ℕ} {t : Bool} → t ≡ eqb n 0 → t ≡ true → n ≡ 0
none_given {n} e h = eqb-true n 0 (sym e ∙ h)

pub some_given : {n : ℕ} {t : Bool} → t ≡ eqb n 0 → t ≡ false → 0 < n
some_given {n} e h = let ne : n ≡ 0 → ⊥ = eqb-false n 0 (sym e ∙ h) in omega arith

module _ (coords heights : List ℤ) where
  pub count_given : 0 < length heights → length heights ≡ length (heights_taken coords heights)
  count_given h = ap length (sym (taken_given coords heights h))

  pub count_default : length heights ≡ 0 → {n : ℕ} → n ≡ default_count coords → n ≡ length (heights_taken coords heights)
  count_default e f = f ∙ by heights e
    where
      by : (l : List ℤ) → length l ≡ 0 → default_count coords ≡ length (heights_taken coords l)
      by [] q = sym (ap length (taken_default coords) ∙ length_defaults coords)
      by (z ∷ zs) q = absurd (omega arith)

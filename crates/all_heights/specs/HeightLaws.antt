-- Laws of the heights taken: the lowest and the highest z, that the default heights are exactly those not above the highest z, and that they rise. That there
-- are none without vertices, and that they have 32 bits, stands in proofs/DefaultLaws, where a wrong definition of their count is refused.
use Prim.Native.Nat.{ℕ, zero, suc, ◌+◌, ◌*◌, ◌-◌, ◌/◌, ◌≤◌, ◌<◌}
use Rattle.std.specs.Prelude.{◌≡◌, Bool, not, cond, ◌⊎◌, T, length, get_or, ℤ, pos, nat_abs, ◌-ℤ◌, ◌≤ℤ◌, ◌<ℤ◌}
use Rattle.std.proofs.Math.Path.{refl, subst}
use Rattle.std.proofs.Common.{sym, ap, ◌∙◌, lt-ltb, ltb-false}
use Rattle.std.proofs.Math.Bool.{true, false}
use mathlib.Core.List.{List, [], ◌∷◌}
use Rattle.std.proofs.Math.Logic.{inl, inr, ⊎_elim}
use native.Mathlib.Omega.{arith}
use Rattle.std.specs.Int.Signed.{lt_z, lt_z_yes, lt_z_no, ≤ℤ_refl}
use Rattle.laws.specs.Booleans.{clash, is_true, from_T, split_lt}
use Rattle.laws.specs.Integers.{one_zero, mag_le, abs_is, sum, diff, le_in, le_out, lt_in, lt_out}
use Rattle.laws.specs.TableLaws.{length_tabulate, get_d_tabulate}
use Rattle.mesh.specs.Corners.{largest, vertex_count, z_of}
use Rattle.mesh.specs.Operation.{fine, test}
use Rattle.mesh.specs.OperationLaws.{Nowhere, nowhere_fine, fine_nowhere}
use Rattle.file_formats.specs.Numbers.{Word}
use Rattle.file_formats.specs.LayerFile.{most_layers}
pub use Rattle.all_heights.specs.Taking.{RisingHeights, Words}
use Rattle.all_heights.specs.Heights.{first_offset, spacing, lower, higher, lowest_to, highest_to, lowest_z, highest_z, default_count, default_height}
use Rattle.all_heights.specs.Heights.{default_heights, heights_taken, too_many_heights, not_above_last, falling_height}

-- ---- the lower and the higher of two numbers

below_yes : (a b : ℤ) → lt_z a b ≡ true → a <ℤ b
below_yes a b e = lt_z_yes (subst T (sym e) tt)

below_no : (a b : ℤ) → lt_z a b ≡ false → b ≤ℤ a
below_no a b e = lt_z_no (subst (λ (t : Bool). T (not t)) (sym e) tt)

module _ (a b : ℤ) where
  -- one of the two, and neither is below it
  record Lower (z : ℤ) : Type 0 where
    which : (z ≡ a) ⊎ (z ≡ b)
    left : z ≤ℤ a
    right : z ≤ℤ b

  record Higher (z : ℤ) : Type 0 where
    which : (z ≡ a) ⊎ (z ≡ b)
    left : a ≤ℤ z
    right : b ≤ℤ z

  lower_is : Lower (lower a b)
  unfolding lower
  lower_is = by (lt_z b a) refl
    where
      by : (t : Bool) → lt_z b a ≡ t → Lower (cond t b a)
      by true e = record { which = inr refl; left = omega (arith, le_out, lt_in (below_yes b a e)); right = ≤ℤ_refl b }
      by false e = record { which = inl refl; left = ≤ℤ_refl a; right = below_no b a e }

  higher_is : Higher (higher a b)
  unfolding higher
  higher_is = by (lt_z a b) refl
    where
      by : (t : Bool) → lt_z a b ≡ t → Higher (cond t b a)
      by true e = record { which = inr refl; left = omega (arith, le_out, lt_in (below_yes a b e)); right = ≤ℤ_refl b }
      by false e = record { which = inl refl; left = ≤ℤ_refl a; right = below_no a b e }

-- ---- the lowest and the highest z

-- z is that of a vertex, one of the first n
pub record OfVertex (coords : List ℤ) (n : ℕ) (z : ℤ) : Type 0 where
  pub vertex : ℕ
  pub there : vertex < n
  pub is : z ≡ z_of coords vertex

of_more : {coords : List ℤ} {n : ℕ} {z y : ℤ} → y ≡ z → OfVertex coords n z → OfVertex coords (suc n) y
of_more e o = record { vertex = o.vertex; there = omega (arith, o.there); is = e ∙ o.is }

module _ (coords : List ℤ) where
  lowest_upto : (n v : ℕ) → v < n → lowest_to coords n ≤ℤ z_of coords v
  unfolding lowest_to
  lowest_upto zero v h = absurd (omega arith)
  lowest_upto (suc n) v h = ⊎_elim (λ l. before (lowest_upto n v l)) (λ l. now (omega arith)) (split_lt v n)
    where
      here : Lower (lowest_to coords n) (z_of coords n) (lowest_to coords (suc n))
      here = lower_is (lowest_to coords n) (z_of coords n)

      before : lowest_to coords n ≤ℤ z_of coords v → lowest_to coords (suc n) ≤ℤ z_of coords v
      before k = omega (arith, le_out, le_in here.left, le_in k)

      now : n ≡ v → lowest_to coords (suc n) ≤ℤ z_of coords v
      now e = subst (λ (u : ℕ). lowest_to coords (suc n) ≤ℤ z_of coords u) e here.right

  highest_upto : (n v : ℕ) → v < n → z_of coords v ≤ℤ highest_to coords n
  unfolding highest_to
  highest_upto zero v h = absurd (omega arith)
  highest_upto (suc n) v h = ⊎_elim (λ l. before (highest_upto n v l)) (λ l. now (omega arith)) (split_lt v n)
    where
      here : Higher (highest_to coords n) (z_of coords n) (highest_to coords (suc n))
      here = higher_is (highest_to coords n) (z_of coords n)

      before : z_of coords v ≤ℤ highest_to coords n → z_of coords v ≤ℤ highest_to coords (suc n)
      before k = omega (arith, le_out, le_in here.left, le_in k)

      now : n ≡ v → z_of coords v ≤ℤ highest_to coords (suc n)
      now e = subst (λ (u : ℕ). z_of coords u ≤ℤ highest_to coords (suc n)) e here.right

  lowest_of : (n : ℕ) → OfVertex coords (suc n) (lowest_to coords (suc n))
  unfolding lowest_to
  lowest_of zero = ⊎_elim first first (lower_is (z_of coords 0) (z_of coords 0)).which
    where
      first : lower (z_of coords 0) (z_of coords 0) ≡ z_of coords 0 → OfVertex coords 1 (lower (z_of coords 0) (z_of coords 0))
      first e = record { vertex = 0; there = omega arith; is = e }
  lowest_of (suc n) = by (lowest_of n) (lower_is (lowest_to coords (suc n)) (z_of coords (suc n))).which
    where
      by : {y z : ℤ} → OfVertex coords (suc n) z → (y ≡ z) ⊎ (y ≡ z_of coords (suc n)) → OfVertex coords (suc (suc n)) y
      by o (inl e) = of_more e o
      by o (inr e) = record { vertex = suc n; there = omega arith; is = e }

  highest_of : (n : ℕ) → OfVertex coords (suc n) (highest_to coords (suc n))
  unfolding highest_to
  highest_of zero = ⊎_elim first first (higher_is (z_of coords 0) (z_of coords 0)).which
    where
      first : higher (z_of coords 0) (z_of coords 0) ≡ z_of coords 0 → OfVertex coords 1 (higher (z_of coords 0) (z_of coords 0))
      first e = record { vertex = 0; there = omega arith; is = e }
  highest_of (suc n) = by (highest_of n) (higher_is (highest_to coords (suc n)) (z_of coords (suc n))).which
    where
      by : {y z : ℤ} → OfVertex coords (suc n) z → (y ≡ z) ⊎ (y ≡ z_of coords (suc n)) → OfVertex coords (suc (suc n)) y
      by o (inl e) = of_more e o
      by o (inr e) = record { vertex = suc n; there = omega arith; is = e }

  -- no vertex is below the lowest z or above the highest
  pub lowest_least : (v : ℕ) → v < vertex_count coords → lowest_z coords ≤ℤ z_of coords v
  lowest_least v h = lowest_upto (vertex_count coords) v h

  pub highest_most : (v : ℕ) → v < vertex_count coords → z_of coords v ≤ℤ highest_z coords
  highest_most v h = highest_upto (vertex_count coords) v h

  -- each is the z of a vertex, where there is one
  pub lowest_reached : 0 < vertex_count coords → OfVertex coords (vertex_count coords) (lowest_z coords)
  lowest_reached h = by (vertex_count coords) h
    where
      by : (n : ℕ) → 0 < n → OfVertex coords n (lowest_to coords n)
      by zero l = absurd (omega arith)
      by (suc n) l = lowest_of n

  pub highest_reached : 0 < vertex_count coords → OfVertex coords (vertex_count coords) (highest_z coords)
  highest_reached h = by (vertex_count coords) h
    where
      by : (n : ℕ) → 0 < n → OfVertex coords n (highest_to coords n)
      by zero l = absurd (omega arith)
      by (suc n) l = highest_of n

  -- ---- the default heights

  pub lowest_highest : 0 < vertex_count coords → lowest_z coords ≤ℤ highest_z coords
  lowest_highest h = omega (arith, le_out, le_in (lowest_least 0 h), le_in (highest_most 0 h))

  pub count_some : 0 < vertex_count coords → default_count coords ≡ (nat_abs (highest_z coords -ℤ lowest_z coords) + (spacing - first_offset)) / spacing
  unfolding default_count
  count_some h = rw (lt-ltb 0 (vertex_count coords) h)

  pub default_all : (k : ℕ) → 0 < vertex_count coords → default_height coords k ≤ℤ highest_z coords → k < default_count coords
  unfolding default_height
  default_all k v h =
      let l = lowest_z coords in
      let t = highest_z coords in
      omega (arith, le_in h, sum l (pos (first_offset + spacing * k)), diff t l, abs_is (t -ℤ l), one_zero (t -ℤ l), le_in (lowest_highest v), count_some v)

  -- only those not above the highest z (ALL-4): height k is taken exactly if it is not above
  pub default_exactly : 0 < vertex_count coords → (k : ℕ)
      → (k < default_count coords → default_height coords k ≤ℤ highest_z coords) × (default_height coords k ≤ℤ highest_z coords → k < default_count coords)
  unfolding default_height
  default_exactly v k =
      let l = lowest_z coords in
      let t = highest_z coords in (
        (λ h. omega (
          arith,
          le_out,
          sum l (pos (first_offset + spacing * k)),
          diff t l,
          abs_is (t -ℤ l),
          one_zero (t -ℤ l),
          le_in (lowest_highest v),
          count_some v,
        )),
        default_all k v,
      )

  pub length_defaults : length (default_heights coords) ≡ default_count coords
  length_defaults = length_tabulate (default_count coords) (default_height coords)

  pub default_at : (k : ℕ) → k < default_count coords → get_or (default_heights coords) k (pos 0) ≡ default_height coords k
  default_at k h = get_d_tabulate (default_count coords) (default_height coords) k (pos 0) h

  pub default_next : (k : ℕ) → default_height coords k <ℤ default_height coords (suc k)
  unfolding default_height
  default_next k =
      let l = lowest_z coords in
      omega (arith, lt_out, sum l (pos (first_offset + spacing * k)), sum l (pos (first_offset + spacing * suc k)))

-- ---- heights that rise

module _ (hs : List ℤ) where
  pub first_above : not_above_last hs 0 ≡ false
  unfolding not_above_last
  first_above = refl

  pub above_last : (i : ℕ) → not_above_last hs (suc i) ≡ not (lt_z (get_or hs i (pos 0)) (get_or hs (suc i) (pos 0)))
  unfolding not_above_last
  above_last i = let e : suc i - 1 ≡ i = omega arith in simp (lt-ltb 0 (suc i) (omega arith), e)

  -- 12 fits nowhere exactly if they rise
  pub nowhere_rising : Nowhere (falling_height hs) → RisingHeights hs
  nowhere_rising f i l =
      let a = get_or hs i (pos 0) in
      let b = get_or hs (suc i) (pos 0) in
      below_yes a b (is_true (lt_z a b) (λ e. clash (above_last i ∙ ap not e) (f (suc i) l)))

  pub rising_nowhere : RisingHeights hs → Nowhere (falling_height hs)
  rising_nowhere r zero l = first_above
  rising_nowhere r (suc i) l = above_last i ∙ ap not (from_T (lt_z (get_or hs i (pos 0)) (get_or hs (suc i) (pos 0))) (r i l).lt)

pub default_rises : (coords : List ℤ) → RisingHeights (default_heights coords)
default_rises coords i l =
    let n : suc i < default_count coords = omega (arith, length_defaults coords) in
    subst (λ (z : ℤ). z <ℤ get_or (default_heights coords) (suc i) (pos 0)) (sym (default_at coords i (omega arith)))
    (subst (λ (z : ℤ). default_height coords i <ℤ z) (sym (default_at coords (suc i) n)) (default_next coords i))

pub default_nowhere : (coords : List ℤ) → Nowhere (falling_height (default_heights coords))
default_nowhere coords = rising_nowhere (default_heights coords) (default_rises coords)

-- ---- heights taken

pub taken_default : (coords : List ℤ) → heights_taken coords [] ≡ default_heights coords
unfolding heights_taken
taken_default coords = refl

pub taken_given : (coords heights : List ℤ) → 0 < length heights → heights_taken coords heights ≡ heights
unfolding heights_taken
taken_given coords [] h = absurd (omega arith)
taken_given coords (z ∷ zs) h = refl

-- 12 is the same of the heights given and of those taken: default heights never fit it
pub falling_taken : (coords heights : List ℤ) → test (falling_height (heights_taken coords heights)) ≡ test (falling_height heights)
unfolding heights_taken
falling_taken coords [] =
    sym (nowhere_fine (falling_height (default_heights coords)) (default_nowhere coords)) ∙ nowhere_fine (falling_height []) (λ i l. absurd (omega arith))
falling_taken coords (h ∷ hs) = refl

-- what passing the tests gives: heights that rise, and not too many
pub taken_rising : (coords heights : List ℤ) → test (falling_height heights) ≡ fine → RisingHeights (heights_taken coords heights)
taken_rising coords heights e =
    nowhere_rising (heights_taken coords heights) (fine_nowhere (falling_height (heights_taken coords heights)) (falling_taken coords heights ∙ e))

pub taken_few : (coords heights : List ℤ) → test (too_many_heights coords heights) ≡ fine → length (heights_taken coords heights) ≤ most_layers
taken_few coords heights e = ltb-false most_layers (length (heights_taken coords heights)) (fine_nowhere (too_many_heights coords heights) e 0 (omega arith))

-- ---- 32 bits

-- numbers in coordinate range do
pub ranged_words : (numbers : List ℤ) → ((i : ℕ) → i < length numbers → nat_abs (get_or numbers i (pos 0)) ≤ largest) → Words numbers
ranged_words numbers r i l = omega (arith, mag_le (get_or numbers i (pos 0)), r i l)

module _ (coords : List ℤ) where
  pub default_above : (k : ℕ) → lowest_z coords ≤ℤ default_height coords k
  unfolding default_height
  default_above k = omega (arith, le_out, sum (lowest_z coords) (pos (first_offset + spacing * k)))

  module _ (w : Words coords) where
    of_word : {z : ℤ} → OfVertex coords (vertex_count coords) z → Word z
    of_word o = subst Word (sym o.is) (w (3 * o.vertex + 2) (omega (arith, o.there)))

    pub lowest_word : 0 < vertex_count coords → Word (lowest_z coords)
    lowest_word h = of_word (lowest_reached coords h)

    pub highest_word : 0 < vertex_count coords → Word (highest_z coords)
    highest_word h = of_word (highest_reached coords h)

-- The tests of a layer that is handed in.
use Prim.Native.Nat.{ℕ, suc, ◌+◌, ◌/◌, ◌%◌, ◌≤◌, ◌<◌, ◌^◌}
use mathlib.Core.Path.{◌≡◌, refl, sym, ap, ◌∙◌}
use mathlib.Core.Bool.{Bool, true, false, not, ◌&&◌}
use mathlib.Core.List.{List, [], ◌∷◌}
use native.Mathlib.Omega.{arith}
use native.Mathlib.Numerals.{add-one}
use borrow.Author.Tests.{le-leb, lt-leb, eq-eqb, ne_eqb}
use lib.Dec.{eqb, leb}
use lib.ListN.{length, get_or, drop, drop_of_length-le}
use lib.Seq.{drop-cons}
use Rattle.mesh.specs.Corners.{most_points}
use Rattle.mesh.specs.Operation.{Finding, refuses, test, verdict}
use Rattle.mesh.specs.OperationLaws.{whole_refused, whole_fine, verdict_stop, verdict_next, verdict_one}
use Rattle.mesh.specs.Refusals.{Told, refusal}
use Rattle.mesh.specs.Tests.{range}
use Rattle.polygons.specs.Flat.{FlatLayer, run_fits, ends_rise, last_end, is_layer, not_layer, layer_tests}

-- ---- run_fits

pub run_odd : (n : ℕ) → (n % 2 ≡ 0 → ⊥) → eqb (n % 2) 0 ≡ run_fits n
unfolding run_fits
run_odd n h = let odd = ne_eqb (n % 2) 0 h in odd ∙ sym (ap (λ (b : Bool). b && leb (n / 2) most_points) odd)

pub run_even : (n : ℕ) → n % 2 ≡ 0 → leb (n / 2) most_points ≡ run_fits n
unfolding run_fits
run_even n h = sym (ap (λ (b : Bool). b && leb (n / 2) most_points) (eq-eqb (n % 2) 0 h))

-- ---- ends_fit

-- the ends rise from a on, and the last is n
abbrev pub ends_fit : ℕ → List ℕ → ℕ → Bool
ends_fit a ends n = ends_rise a ends && eqb (last_end a ends) n

-- the first i ends rise, up to a, and the rest decides
pub record EndsPassed (ends : List ℕ) (n a i : ℕ) : Type 0 where
  pub upto : i ≤ length ends
  pub small : a < 2 ^ 32
  pub same : ends_fit a (drop i ends) n ≡ ends_fit 0 ends n

pub passed_start : (ends : List ℕ) (n : ℕ) → EndsPassed ends n 0 0
passed_start ends n = record { upto = omega arith; small = omega arith; same = refl }

module _ {ends : List ℕ} {n a i e : ℕ} (p : EndsPassed ends n a i) (q : e ≡ get_or ends i 0) (l : i < length ends) where
  rest : ends_fit 0 ends n ≡ ((leb (a + 2) e && ends_rise e (drop (suc i) ends)) && eqb (last_end e (drop (suc i) ends)) n)
  unfolding ends_rise last_end
  rest = sym p.same ∙ ap (λ (es : List ℕ). ends_fit a es n) (drop-cons ends i 0 l ∙ ap (λ (x : ℕ). x ∷ drop (suc i) ends) (sym q))

  pub passed_stop : e < a + 2 → false ≡ ends_fit 0 ends n
  passed_stop t = sym (rest ∙ ap (λ (b : Bool). (b && ends_rise e (drop (suc i) ends)) && eqb (last_end e (drop (suc i) ends)) n) (lt-leb (a + 2) e t))

  pub passed_next : e < 2 ^ 32 → a + 2 ≤ e → EndsPassed ends n e (i + 1)
  passed_next w t =
      let more = rest ∙ ap (λ (b : Bool). (b && ends_rise e (drop (suc i) ends)) && eqb (last_end e (drop (suc i) ends)) n) (le-leb (a + 2) e t) in
      record { upto = omega arith; small = w; same = ap (λ (j : ℕ). ends_fit e (drop j ends) n) (add-one i) ∙ sym more }

pub passed_end : {ends : List ℕ} {n a i : ℕ} → EndsPassed ends n a i → length ends ≤ i → eqb a n ≡ ends_fit 0 ends n
unfolding ends_rise last_end
passed_end {ends} {n} {a} {i} p l = sym (ap (λ (es : List ℕ). ends_fit a es n) (drop_of_length-le ends l)) ∙ p.same

-- ---- layer_test

module _ (t : FlatLayer) where
  abbrev numbers : ℕ
  numbers = length t.points

  layer_parts : {b c : Bool} → b ≡ run_fits numbers → c ≡ ends_fit 0 t.ends (numbers / 2) → is_layer t ≡ (b && c)
  unfolding is_layer
  layer_parts e f = joined (run_fits numbers) (ends_rise 0 t.ends) (eqb (last_end 0 t.ends) (numbers / 2)) ∙ (λ i. sym e i && sym f i)
    where
      joined : (a b c : Bool) → (a && b && c) ≡ (a && (b && c))
      joined true b c = refl
      joined false b c = refl

  refused : is_layer t ≡ false → refuses (refusal 1 0) ≡ verdict (layer_tests t)
  refused e = verdict_stop (not_layer t) (range t.points ∷ []) (whole_refused (refusal 1) (not (is_layer t)) (ap not e)) refl

  pub run_refused : {b : Bool} → b ≡ run_fits numbers → b ≡ false → refuses (refusal 1 0) ≡ verdict (layer_tests t)
  run_refused e f = refused (layer_parts e refl ∙ ap (λ (b : Bool). b && ends_fit 0 t.ends (numbers / 2)) f)

  pub ends_refused : {b c : Bool} → b ≡ run_fits numbers → b ≡ true → c ≡ ends_fit 0 t.ends (numbers / 2) → c ≡ false
      → refuses (refusal 1 0) ≡ verdict (layer_tests t)
  ends_refused e f g h = refused (layer_parts e g ∙ (λ i. f i && h i))

  pub layer_passed : {b c : Bool} {v : Finding Told} → b ≡ run_fits numbers → b ≡ true → c ≡ ends_fit 0 t.ends (numbers / 2) → c ≡ true
      → v ≡ test (range t.points) → v ≡ verdict (layer_tests t)
  layer_passed e f g h r =
      let good : is_layer t ≡ true = layer_parts e g ∙ (λ i. f i && h i) in
      verdict_next (not_layer t) (range t.points ∷ []) (whole_fine (refusal 1) (not (is_layer t)) (ap not good)) refl (r ∙ verdict_one (range t.points))

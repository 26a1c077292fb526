-- Reading a number group by group: what the groups read so far make, joined with what stands after them.
use mathlib.Core.Path.{◌≡◌, refl, sym, ap, ◌∙◌}
use mathlib.Core.Bool.{Bool, true, false, cond}
use mathlib.Core.List.{List, ◌∷◌}
use Rattle.std.specs.Prelude.{Result, Ok, Err}
use Prim.Native.Nat.{ℕ, suc, ◌+◌, ◌*◌, ◌-◌, ◌/◌, ◌<◌, ◌≤◌}
use native.Mathlib.Omega.{arith}
use native.Mathlib.Nat.{mul-le-mul_right}
use native.Mathlib.Numerals.{add-one}
use lib.Dec.{ltb, leb}
use lib.ListN.{length, get_or, drop, length-drop, drop_of_length-le}
use lib.Seq.{drop-cons}
use borrow.Author.Tests.{lt-ltb, le-ltb, le-leb, lt-leb, ltb-true, ltb-false, leb-true, leb-false}
use Rattle.file_formats.specs.Formats.{Parse, parsed, refused, tested}
use Rattle.file_formats.specs.Numbers.{joined_groups, parse_number, number}
use Rattle.file_formats.specs.Positions.{breaks_at, number_told, number_at}
use Rattle.file_formats.specs.declared.Broken.{Broken}

-- a number above the groups that make `value`, the first of them at `at`, if it is not below `least`
abbrev pub onto : ℕ → ℕ → ℕ → ℕ → Result (ℕ × ℕ) Broken → Result (ℕ × ℕ) Broken
onto at value unit least (Ok n) = cond (ltb n.0 least) (Err (breaks_at at)) (Ok (value + unit * n.0, n.1))
onto at value unit least (Err e) = Err (breaks_at at)

-- ---- the number at a position, by the byte there

join : (n at on top b : ℕ) (s q : List ℕ) (d : Parse ℕ) → 128 ≤ b → b < 256 → 128 ≤ top
    → number_told n at (tested (λ v. leb v top) s (joined_groups b d))
    ≡ onto at (b - 128) 128 1 (number_told n on (tested (λ v. leb v ((top - (b - 128)) / 128)) q d))
join n at on top b s q (refused r) h g k = refl
join n at on top b s q (parsed v r) h g k = by (ltb 0 v) refl (leb v ((top - (b - 128)) / 128)) refl
  where
    by : (t : Bool) → ltb 0 v ≡ t → (u : Bool) → leb v ((top - (b - 128)) / 128) ≡ u
        → number_told n at (tested (λ v. leb v top) s (joined_groups b (parsed v r)))
        ≡ onto at (b - 128) 128 1 (number_told n on (tested (λ v. leb v ((top - (b - 128)) / 128)) q (parsed v r)))
    by true e true f =
        let p = ltb-true 0 v e in
        let o = leb-true v ((top - (b - 128)) / 128) f in
        simp (e, f, le-leb (b - 128 + 128 * v) top (omega arith), le-ltb v 1 (omega arith))
    by true e false f =
        let p = ltb-true 0 v e in
        let o = leb-false v ((top - (b - 128)) / 128) f in
        simp (e, f, lt-leb (b - 128 + 128 * v) top (omega arith))
    by false e true f = let p = ltb-false 0 v e in simp (e, f, lt-ltb v 1 (omega arith))
    by false e false f = simp (e, f)

over : (n at top b : ℕ) (s : List ℕ) (d : Parse ℕ) → 128 ≤ b → top < 128
    → number_told n at (tested (λ v. leb v top) s (joined_groups b d)) ≡ Err (breaks_at at)
over n at top b s (refused r) h k = refl
over n at top b s (parsed v r) h k = by (ltb 0 v) refl
  where
    by : (t : Bool) → ltb 0 v ≡ t → number_told n at (tested (λ v. leb v top) s (joined_groups b (parsed v r))) ≡ Err (breaks_at at)
    by true e = let p = ltb-true 0 v e in simp (e, lt-leb (b - 128 + 128 * v) top (omega arith))
    by false e = simp e

module _ (file : List ℕ) (at top : ℕ) where
  none : length file ≤ at → number_at top file at ≡ Err (breaks_at at)
  unfolding number_at parse_number
  none h = simp (drop_of_length-le file h)

  module _ (h : at < length file) where
    one : get_or file at 0 < 128 → get_or file at 0 ≤ top → number_at top file at ≡ Ok (get_or file at 0, at + 1)
    unfolding number_at parse_number
    one g k =
        simp (drop-cons file at 0 h, lt-ltb (get_or file at 0) 128 g, le-leb (get_or file at 0) top k, length-drop)
        (ap (λ (m : ℕ). Ok (get_or file at 0, m)) (omega arith))

    one_over : get_or file at 0 < 128 → top < get_or file at 0 → number_at top file at ≡ Err (breaks_at at)
    unfolding number_at parse_number
    one_over g k = simp (drop-cons file at 0 h, lt-ltb (get_or file at 0) 128 g, lt-leb (get_or file at 0) top k)

    more_over : 128 ≤ get_or file at 0 → top < 128 → number_at top file at ≡ Err (breaks_at at)
    unfolding number_at parse_number
    more_over g k = simp (drop-cons file at 0 h, le-ltb (get_or file at 0) 128 g) (over _ _ _ _ _ (parse_number (drop (suc at) file)) g k)

    more : 128 ≤ get_or file at 0 → get_or file at 0 < 256 → 128 ≤ top
        → number_at top file at ≡ onto at (get_or file at 0 - 128) 128 1 (number_at ((top - (get_or file at 0 - 128)) / 128) file (at + 1))
    unfolding number_at parse_number
    more g b k =
        simp (drop-cons file at 0 h, le-ltb (get_or file at 0) 128 g, add-one at)
        (join (length file) at (suc at) top (get_or file at 0) (get_or file at 0 ∷ drop (suc at) file) (drop (suc at) file)
        (parse_number (drop (suc at) file)) g b k)

-- ---- the loop

-- the number at `at` is the one at i above what was read
pub record NumberReading (file : List ℕ) (at top value unit rest least i : ℕ) : Type 0 where
  pub fits : value + unit * rest ≤ top
  pub first : least ≤ 1
  pub same : onto at value unit least (number_at rest file i) ≡ number_at top file at

onto_none : (n at : ℕ) (d : Parse ℕ) → onto at 0 1 0 (number_told n at d) ≡ number_told n at d
onto_none n at (refused r) = refl
onto_none n at (parsed v r) = simp (le-ltb v 0 (omega arith)) (ap (λ (w : ℕ). Ok (w, n - length r)) (omega arith))

pub number_reading : (file : List ℕ) (at top : ℕ) → NumberReading file at top 0 1 top 0 at
unfolding number_at
number_reading file at top = record {
  fits = omega arith;
  first = omega arith;
  same = onto_none (length file) at ((number top).parse (drop at file));
}

onto_onto : (at i value unit least low : ℕ) (n : Result (ℕ × ℕ) Broken) → least ≤ 1
    → onto at value unit least (onto i low 128 1 n) ≡ onto at (value + unit * low) (unit * 128) 1 n
onto_onto at i value unit least low (Err e) h = refl
onto_onto at i value unit least low (Ok n) h = by (ltb n.0 1) refl
  where
    by : (t : Bool) → ltb n.0 1 ≡ t → onto at value unit least (onto i low 128 1 (Ok n)) ≡ onto at (value + unit * low) (unit * 128) 1 (Ok n)
    by true e = simp e
    by false e =
        let p = ltb-false n.0 1 e in
        simp (e, le-ltb (low + 128 * n.0) least (omega arith)) (ap (λ (w : ℕ). Ok (w, n.1)) (omega arith))

module _ {file : List ℕ} {at top value unit rest least i : ℕ} (w : NumberReading file at top value unit rest least i) where
  -- a group that is at most `rest` fits
  pub group_fits : (b : ℕ) → b ≤ rest → value + unit * b ≤ top
  group_fits b h = omega (arith, w.fits, mul-le-mul_right unit h)

  pub ends : length file ≤ i → Err (breaks_at at) ≡ number_at top file at
  ends h = sym (ap (onto at value unit least) (none file i rest h)) ∙ w.same

  module _ (h : i < length file) {b : ℕ} (is : b ≡ get_or file i 0) where
    pub too_many_lem : 128 ≤ b → rest < 128 → Err (breaks_at at) ≡ number_at top file at
    too_many_lem g k = sym (ap (onto at value unit least) (more_over file i rest h (omega arith) k)) ∙ w.same

    pub too_large : b < 128 → rest < b → Err (breaks_at at) ≡ number_at top file at
    too_large g k = sym (ap (onto at value unit least) (one_over file i rest h (omega arith) (omega arith))) ∙ w.same

    pub needless : b < 128 → b < least → Err (breaks_at at) ≡ number_at top file at
    needless g l =
        let k : get_or file i 0 ≤ rest = omega (arith, w.first) in
        let e : ltb (get_or file i 0) least ≡ true = lt-ltb (get_or file i 0) least (omega arith) in
        let p : onto at value unit least (Ok (get_or file i 0, i + 1)) ≡ Err (breaks_at at) = simp e in
        sym p ∙ sym (ap (onto at value unit least) (one file i rest h (omega arith) k)) ∙ w.same

    pub last : b < 128 → least ≤ b → b ≤ rest → Ok (value + unit * b, i + 1) ≡ number_at top file at
    last g l k =
        let e : ltb (get_or file i 0) least ≡ false = le-ltb (get_or file i 0) least (omega arith) in
        let p : onto at value unit least (Ok (get_or file i 0, i + 1)) ≡ Ok (value + unit * get_or file i 0, i + 1) = simp e in
        ap (λ (v : ℕ). Ok (value + unit * v, i + 1)) is ∙ sym p ∙ sym (ap (onto at value unit least) (one file i rest h (omega arith) (omega arith))) ∙ w.same

    pub next : 128 ≤ b → b < 256 → 128 ≤ rest → NumberReading file at top (value + unit * (b - 128)) (unit * 128) ((rest - (b - 128)) / 128) 1 (i + 1)
    next g k l =
        let q : (b - 128) + 128 * ((rest - (b - 128)) / 128) ≤ rest = omega arith in
        record {
          fits = omega (arith, group_fits ((b - 128) + 128 * ((rest - (b - 128)) / 128)) q);
          first = omega arith;
          same =
              rw is (sym (onto_onto at i value unit least (get_or file i 0 - 128) (number_at ((rest - (get_or file i 0 - 128)) / 128) file (i + 1)) w.first)
              ∙ sym (ap (onto at value unit least) (more file i rest h (omega arith) (omega arith) l)) ∙ w.same);
        }

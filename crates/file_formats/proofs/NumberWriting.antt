-- Writing a number group by group.
use mathlib.Core.Path.{◌≡◌, refl, sym, ap, ◌∙◌}
use mathlib.Core.List.{List}
use Prim.Native.Nat.{ℕ, ◌+◌, ◌/◌, ◌%◌, ◌<◌, ◌≤◌}
use native.Mathlib.Omega.{arith}
use native.Mathlib.Numerals.{add-one}
use lib.ListN.{length, set, length-set}
use lib.Seq.{sets}
use Rattle.file_formats.specs.Numbers.{encode_number}
use Rattle.file_formats.specs.NumberLaws.{encode_one, encode_more}

-- n goes to the position `at` of a list: what is left of it, v, goes to i
pub record NumberWriting (l : List ℕ) (at n : ℕ) (m : List ℕ) (v i : ℕ) : Type 0 where
  pub ends : i + length (encode_number v) ≡ at + length (encode_number n)
  pub size : length m ≡ length l
  pub same : sets m i (encode_number v) ≡ sets l at (encode_number n)

pub number_writing : {l : List ℕ} {at n : ℕ} → NumberWriting l at n l n at
number_writing = record { ends = refl; size = refl; same = refl }

module _ {l : List ℕ} {at n : ℕ} {m : List ℕ} {v i : ℕ} (w : NumberWriting l at n m v i) where
  pub next : 128 ≤ v → NumberWriting l at n (set m i (128 + v % 128)) (v / 128) (i + 1)
  next h =
      let e = encode_more v h in
      record {
        ends = omega (arith, ap length e, w.ends);
        size = length-set m i (128 + v % 128) ∙ w.size;
        same = simp (add-one i) (sym (ap (sets m i) e) ∙ w.same);
      }

  pub last : v < 128 → (i + 1 ≡ at + length (encode_number n)) × (set m i v ≡ sets l at (encode_number n))
  last h =
      let e = encode_one v h in
      (omega (arith, ap length e, w.ends), sym (ap (sets m i) e) ∙ w.same)

-- Sequences value by value: parsing and writing in a loop, and the first i values apart from the others.
use Rattle.std.specs.Prelude.{◌≡◌, drop, Result, Ok, Err}
use Rattle.std.proofs.Math.Path.{refl, sym, ap}
use Rattle.std.proofs.Common.{◌∙◌, suc-add, zero-add}
use mathlib.Core.List.{List, [], ◌∷◌, ◌++◌, append_assoc}
use Prim.Native.Nat.{ℕ, zero, suc, ◌+◌, ◌-◌, ◌<◌, ◌≤◌}
use native.Mathlib.Omega.{arith}
use Rattle.std.proofs.Math.ListN.{length}
use Rattle.file_formats.specs.Formats.{Parse, parsed, refused, Format, and_then, mapped, through, pair, headed, encode_all, parse_all, sequence}
pub use Rattle.file_formats.specs.Formats.{state_after}
use Rattle.file_formats.specs.FormatLaws.{then_in, mapped_in}
use Rattle.file_formats.specs.Positions.{breaks_at, extent, extent_at}
use Rattle.file_formats.specs.PositionLaws.{place_drop, stopped}
use Rattle.file_formats.specs.declared.Broken.{Broken}

-- ---- how far a composite goes, by its parts

pub extent_mapped : {A B : Type 0} (n : ℕ) (f : A → B) (d : Parse A) → extent n (mapped f d) ≡ extent n d
extent_mapped n f (parsed a r) = refl
extent_mapped n f (refused r) = refl

pub through_extent : {A B : Type 0} (f : A → B) (g : B → A) (F : Format A) (file : List ℕ) (at : ℕ) → extent_at (through f g F) file at ≡ extent_at F file at
unfolding extent_at
through_extent f g F file at = extent_mapped (length file) f (F.parse (drop at file))

module _ {A B : Type 0} (F : Format A) (G : A → Format B) (file : List ℕ) (at : ℕ) where
  pub pair_next : (a : A) (next : ℕ) → F.parse (drop at file) ≡ parsed a (drop next file) → extent_at (pair F G) file at ≡ extent_at (G a) file next
  unfolding extent_at
  pair_next a next e = simp (e, extent_mapped)

  pub pair_stop : (i : ℕ) → extent_at F file at ≡ Err (breaks_at i) → extent_at (pair F G) file at ≡ Err (breaks_at i)
  unfolding extent_at
  pair_stop i e =
      let s = stopped F file at i e in
      simp s.1 (ap (λ (k : ℕ). Err (breaks_at k)) (sym s.2))

  pub pair_bad : at ≤ length file → F.parse (drop at file) ≡ refused (drop at file) → extent_at (pair F G) file at ≡ Err (breaks_at at)
  unfolding extent_at
  pair_bad h e = simp (e, place_drop file at h)

module _ {K A : Type 0} (key : A → K) (F : Format K) (G : K → Format A) (file : List ℕ) (at : ℕ) where
  pub headed_next : (k : K) (next : ℕ) → F.parse (drop at file) ≡ parsed k (drop next file) → extent_at (headed key F G) file at ≡ extent_at (G k) file next
  unfolding extent_at
  headed_next k next e = simp e

  pub headed_stop : (i : ℕ) → extent_at F file at ≡ Err (breaks_at i) → extent_at (headed key F G) file at ≡ Err (breaks_at i)
  unfolding extent_at
  headed_stop i e =
      let s = stopped F file at i e in
      simp s.1 (ap (λ (k : ℕ). Err (breaks_at k)) (sym s.2))

  pub headed_bad : at ≤ length file → F.parse (drop at file) ≡ refused (drop at file) → extent_at (headed key F G) file at ≡ Err (breaks_at at)
  unfolding extent_at
  headed_bad h e = simp (e, place_drop file at h)

-- ---- a loop that checks: what is left at i, in the state s, goes as far as the whole does

module _ {S A : Type 0} (F : S → Format A) (step : S → A → S) (file : List ℕ) (total : Result ℕ Broken) where
  pub record SequenceCheck (s : S) (i left : ℕ) : Type 0 where
    pub inside : i ≤ length file
    pub same : extent_at (sequence F step left s) file i ≡ total

pub sequence_check : {S A : Type 0} (F : S → Format A) (step : S → A → S) (file : List ℕ) (s : S) (at count : ℕ) → at ≤ length file
    → SequenceCheck F step file (extent_at (sequence F step count s) file at) s at count
sequence_check F step file s at count h = record { inside = h; same = refl }

module _ {S A : Type 0} {F : S → Format A} {step : S → A → S} {file : List ℕ} {total : Result ℕ Broken} {s : S} {i : ℕ} where
  -- a value that is refused from r on
  pub check_stop : (left : ℕ) → SequenceCheck F step file total s i left → 0 < left → (r : List ℕ) → (F s).parse (drop i file) ≡ refused r
      → Err (breaks_at (length file - length r)) ≡ total
  unfolding parse_all extent_at
  check_stop zero w h r e = absurd (omega arith)
  check_stop (suc left) w h r e = simp e at w.same

  -- a value that is refused from its first byte on
  pub check_bad : (left : ℕ) → SequenceCheck F step file total s i left → 0 < left → (F s).parse (drop i file) ≡ refused (drop i file)
      → Err (breaks_at i) ≡ total
  check_bad left w h e = ap (λ (k : ℕ). Err (breaks_at k)) (sym (place_drop file i w.inside)) ∙ check_stop left w h (drop i file) e

  pub check_next : (left : ℕ) → SequenceCheck F step file total s i left → 0 < left → (a : A) (j : ℕ) → (F s).parse (drop i file) ≡ parsed a (drop j file)
      → j ≤ length file
      → SequenceCheck F step file total (step s a) j (left - 1)
  unfolding parse_all extent_at
  check_next zero w h a j e k = absurd (omega arith)
  check_next (suc left) w h a j e k =
      let n : suc left - 1 ≡ left = omega arith in
      rw n (record { inside = k; same = simp (e, extent_mapped) at w.same })

  pub check_end : (left : ℕ) → SequenceCheck F step file total s i left → left ≤ 0 → Ok i ≡ total
  unfolding parse_all extent_at
  check_end zero w h = simp (place_drop file i w.inside) at w.same
  check_end (suc left) w h = absurd (omega arith)

module _ {S A : Type 0} (F : S → Format A) (step : S → A → S) where
  -- ---- a sequence that was parsed, by its first value: for a loop that uses the values

  pub record FirstParsed (n : ℕ) (s : S) (l : List ℕ) (xs : List A) (r : List ℕ) : Type 0 where
    pub value : A
    pub rest : List ℕ
    pub others : List A
    pub is : xs ≡ value ∷ others
    pub head : (F s).parse l ≡ parsed value rest
    pub tail : parse_all F step (n - 1) (step s value) rest ≡ parsed others r

  pub first_parsed : (n : ℕ) (s : S) (l : List ℕ) (xs : List A) (r : List ℕ) → 0 < n → parse_all F step n s l ≡ parsed xs r → FirstParsed n s l xs r
  unfolding parse_all
  first_parsed zero s l xs r h e = absurd (omega arith)
  first_parsed (suc n) s l xs r h e =
      let i = then_in ((F s).parse l) (λ a r. mapped (λ rest. a ∷ rest) (parse_all F step n (step s a) r)) xs r e in
      let j = mapped_in (λ rest. i.0 ∷ rest) (parse_all F step n (step s i.0) i.1) xs r i.3 in
      let m : suc n - 1 ≡ n = omega arith in
      record {
        value = i.0;
        rest = i.1;
        others = j.0;
        is = sym j.2;
        head = i.2;
        tail = ap (λ (k : ℕ). parse_all F step k (step s i.0) i.1) m ∙ j.1;
      }

  pub none : (n : ℕ) (s : S) (l : List ℕ) (xs : List A) (r : List ℕ) → n ≤ 0 → parse_all F step n s l ≡ parsed xs r → (xs ≡ []) × (r ≡ l)
  unfolding parse_all
  none zero s l xs r h e = (cc, cc)
  none (suc n) s l xs r h e = absurd (omega arith)

  pub parsed_length : (n : ℕ) (s : S) (l : List ℕ) (xs : List A) (r : List ℕ) → parse_all F step n s l ≡ parsed xs r → length xs ≡ n
  unfolding parse_all
  parsed_length zero s l xs r e = let p : xs ≡ [] = cc in ap length p
  parsed_length (suc n) s l xs r e =
      let i = then_in ((F s).parse l) (λ a r. mapped (λ rest. a ∷ rest) (parse_all F step n (step s a) r)) xs r e in
      let j = mapped_in (λ rest. i.0 ∷ rest) (parse_all F step n (step s i.0) i.1) xs r i.3 in
      ap length (sym j.2) ∙ ap suc (parsed_length n (step s i.0) i.1 j.0 r j.1)

  -- ---- the first i values and then the others: for the way to value i

  mapped_then : {B : Type 0} (a : A) (d : Parse (List A)) (f : List A → List ℕ → Parse B)
      → and_then (mapped (λ xs. a ∷ xs) d) f ≡ and_then d (λ xs r. f (a ∷ xs) r)
  mapped_then a (parsed xs r) f = refl
  mapped_then a (refused r) f = refl

  mapped_in_then : (a : A) (d : Parse (List A)) (f : List A → List ℕ → Parse (List A))
      → mapped (λ xs. a ∷ xs) (and_then d (λ xs r. mapped (λ ys. xs ++ ys) (f xs r))) ≡ and_then d (λ xs r. mapped (λ ys. (a ∷ xs) ++ ys) (f xs r))
  mapped_in_then a (refused r) f = refl
  mapped_in_then a (parsed xs r) f = by (f xs r)
    where
      by : (d : Parse (List A)) → mapped (λ zs. a ∷ zs) (mapped (λ ys. xs ++ ys) d) ≡ mapped (λ ys. (a ∷ xs) ++ ys) d
      by (parsed ys q) = refl
      by (refused q) = refl

  mapped_none : (d : Parse (List A)) → d ≡ mapped (λ ys. [] ++ ys) d
  mapped_none (parsed ys q) = refl
  mapped_none (refused q) = refl

  pub parse_split : (i n : ℕ) (s : S) (l : List ℕ)
      → parse_all F step (i + n) s l ≡ and_then (parse_all F step i s l) (λ xs r. mapped (λ ys. xs ++ ys) (parse_all F step n (state_after F step s xs) r))
  unfolding parse_all
  parse_split zero n s l = ap (λ (k : ℕ). parse_all F step k s l) (zero-add n) ∙ mapped_none (parse_all F step n s l)
  parse_split (suc i) n s l = ap (λ (k : ℕ). parse_all F step k s l) (suc-add i n) ∙ by ((F s).parse l) refl (λ a r. parse_split i n (step s a) r)
    where
      by : (d : Parse A) → (F s).parse l ≡ d
          → ((a : A) (r : List ℕ) → parse_all F step (i + n) (step s a) r ≡ and_then (parse_all F step i (step s a) r)
          (λ xs q. mapped (λ ys. xs ++ ys) (parse_all F step n (state_after F step (step s a) xs) q)))
          → parse_all F step (suc (i + n)) s l
          ≡ and_then (parse_all F step (suc i) s l) (λ xs r. mapped (λ ys. xs ++ ys) (parse_all F step n (state_after F step s xs) r))
      by (refused r) e f = simp e
      by (parsed a r) e f =
          simp e
          (ap (mapped (λ xs. a ∷ xs)) (f a r)
          ∙ mapped_in_then a (parse_all F step i (step s a) r) (λ xs q. parse_all F step n (state_after F step (step s a) xs) q)
          ∙ sym (mapped_then a (parse_all F step i (step s a) r) (λ xs q. mapped (λ ys. xs ++ ys) (parse_all F step n (state_after F step s xs) q))))

  -- ---- writing

  pub encode_none : (s : S) → encode_all F step s [] ≡ []
  unfolding encode_all
  encode_none s = refl

  pub encode_first : (s : S) (x : A) (xs : List A) → encode_all F step s (x ∷ xs) ≡ (F s).encode x ++ encode_all F step (step s x) xs
  unfolding encode_all
  encode_first s x xs = refl

  pub encode_append : (s : S) (xs ys : List A) → encode_all F step s (xs ++ ys) ≡ encode_all F step s xs ++ encode_all F step (state_after F step s xs) ys
  unfolding encode_all
  encode_append s [] ys = refl
  encode_append s (x ∷ xs) ys =
      ap (λ (l : List ℕ). (F s).encode x ++ l) (encode_append (step s x) xs ys)
      ∙ sym (append_assoc ((F s).encode x) (encode_all F step (step s x) xs) (encode_all F step (state_after F step (step s x) xs) ys))
